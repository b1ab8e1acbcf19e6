-- `content_fields::past_file` meets its contract: its data end in the part, before its end.
use Rattle.content_fields.proofs.Glance.{file_ends}
use native.Mathlib.Omega.{arith}
use Rattle.content_fields.proofs.past_file.Goals as goal

pub returns : goal.returns
returns c = (
  omega arith,
  file_ends _ (λ i. (c.type_inv.s i).fits) _ (omega arith) _ _ _ _ c.three_or_four_bytes-m.ensures
      (omega arith) (omega arith),
)
