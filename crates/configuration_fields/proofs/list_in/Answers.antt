-- `configuration_fields::list_in` meets its contract: it goes by the tag as the definition does, where the content has enough.
use mathlib.Core.Path.{refl}
use Rattle.configuration_fields.proofs.Glance.{told_3, told_4, told_5, list_6, list_7}
use native.Mathlib.Omega.{arith}
use Rattle.configuration_fields.proofs.list_in.Goals as goal

pub returns-then-tag-eq3 : goal.returns-then-tag-eq3
returns-then-tag-eq3 c = told_3 _ _ _ _ _ _ _ (omega arith) refl refl c.if_enough.ensures

pub returns-then-tag-eq4 : goal.returns-then-tag-eq4
returns-then-tag-eq4 c = told_4 _ _ _ 0 _ _ (omega arith) c.list_after_address.ensures

pub returns-then-tag-eq5 : goal.returns-then-tag-eq5
returns-then-tag-eq5 c = told_5 _ _ _ _ _ _ _ (omega arith) refl refl c.if_enough-then-tag-eq5.ensures

pub returns-then-tag-eq6 : goal.returns-then-tag-eq6
returns-then-tag-eq6 c = list_6 _ _ _ _ (omega arith) (omega arith)

pub returns-then-tag-eq7 : goal.returns-then-tag-eq7
returns-then-tag-eq7 c = list_7 _ _ _ _ _ (omega arith) (omega arith) (omega arith) c.wide.ensures.0
