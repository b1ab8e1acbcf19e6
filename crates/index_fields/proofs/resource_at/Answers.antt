-- `index_fields::resource_at` meets its contract: it begins after the count and those before it.
use mathlib.Core.Path.{sym, ◌∙◌}
use Rattle.ground_refusal.proofs.Exits.{passed_on}
use Rattle.index_fields.proofs.Answers.{resources_in, resource_no, resource_none, resource_is}
use native.Mathlib.Omega.{arith}
use Rattle.index_fields.proofs.resource_at.Goals as goal

pub overflow_mul-result : goal.overflow_mul-result
overflow_mul-result c = omega (
  arith,
  resources_in _ _ _ _ _ (sym c.in_ok-m.was ∙ c.resource_count.ensures)
      (λ i. (c.type_inv.s i).fits),
)

pub overflow_add-result : goal.overflow_add-result
overflow_add-result c = omega (
  arith,
  resources_in _ _ _ _ _ (sym c.in_ok-m.was ∙ c.resource_count.ensures)
      (λ i. (c.type_inv.s i).fits),
)

pub returns-then-i-m : goal.returns-then-i-m
returns-then-i-m c = resource_is _ _ _ _ _ (sym c.in_ok-m.was ∙ c.resource_count.ensures) _ c.if-i-m.true

pub returns-in_err-m : goal.returns-in_err-m
returns-in_err-m c = passed_on c.from_residual.ensures ∙ resource_no _ _ _ _ (sym c.in_err-m.was ∙ c.resource_count.ensures) _

pub returns : goal.returns
returns c = resource_none _ _ _ _ _ (sym c.in_ok-m.was ∙ c.resource_count.ensures) _ c.if-i-m.false
