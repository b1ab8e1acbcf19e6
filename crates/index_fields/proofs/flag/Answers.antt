-- `index_fields::flag` meets its contract: it follows the resources, 12 bytes each.
use mathlib.Core.Path.{sym, ◌∙◌}
use Rattle.ground_refusal.proofs.Exits.{passed_on}
use Rattle.index_fields.proofs.Answers.{resources_in, flag_no, flag_is}
use native.Mathlib.Omega.{arith}
use Rattle.index_fields.proofs.flag.Goals as goal

pub overflow_add-at : goal.overflow_add-at
overflow_add-at c = omega (
  arith,
  resources_in _ _ _ _ _ (sym c.in_ok-m.was ∙ c.resource_count.ensures)
      (λ i. (c.type_inv.s i).fits),
)

pub overflow_mul-m : goal.overflow_mul-m
overflow_mul-m c = omega (
  arith,
  resources_in _ _ _ _ _ (sym c.in_ok-m.was ∙ c.resource_count.ensures)
      (λ i. (c.type_inv.s i).fits),
)

pub overflow_add-q : goal.overflow_add-q
overflow_add-q c = omega (
  arith,
  resources_in _ _ _ _ _ (sym c.in_ok-m.was ∙ c.resource_count.ensures)
      (λ i. (c.type_inv.s i).fits),
)

pub returns-in_err-m : goal.returns-in_err-m
returns-in_err-m c = passed_on c.from_residual.ensures ∙ flag_no _ _ _ _ (sym c.in_err-m.was ∙ c.resource_count.ensures)

pub returns : goal.returns
returns c = c.read_reserved.ensures ∙ flag_is _ _ _ _ _ (sym c.in_ok-m.was ∙ c.resource_count.ensures)
