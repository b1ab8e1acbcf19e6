-- `configuration_fields::list_place` meets its contract: the content lies in the body, and in it the list is found.
use Rattle.configuration_fields.proofs.Glance.{list_told}
use native.Mathlib.Omega.{arith}
use Rattle.configuration_fields.proofs.list_place.Goals as goal

pub list_in-requires : goal.list_in-requires
list_in-requires c = (omega arith, omega arith)

pub returns : goal.returns
returns c = list_told _ (λ i. (c.type_inv.s i).fits) _ _ _ (omega arith) c.content_end-l.ensures (omega arith) c.wide.ensures.0 _
    c.list_in.ensures
