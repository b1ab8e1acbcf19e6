-- `content_fields::count_place` meets its contract: the language lies in the body, and in it what stands before the count.
use Rattle.content_fields.proofs.Glance.{count_at}
use native.Mathlib.Omega.{arith}
use Rattle.content_fields.proofs.count_place.Goals as goal

pub returns : goal.returns
returns c = count_at _ (λ i. (c.type_inv.s i).fits) _ _ (omega arith) _ _ c.two_bytes.ensures.0 (omega arith)
    c.wide.ensures.0 (omega arith)
