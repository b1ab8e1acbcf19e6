-- `configuration_fields::list_at` meets its contract: it stands after the count and those before it.
use mathlib.Core.Path.{sym, ◌∙◌}
use Rattle.ground_refusal.proofs.Exits.{passed_on}
use Rattle.configuration_fields.proofs.Answers.{list_none_told, list_past, list_is, list_small}
use native.Mathlib.Omega.{arith}
use Rattle.configuration_fields.proofs.list_at.Goals as goal

pub overflow_mul-result : goal.overflow_mul-result
overflow_mul-result c = let a = c.args in
    omega (
      arith,
      list_small a.s.now a.l a.q a.w a.i _ _ (sym c.in_ok-n.was ∙ c.read_number.ensures)
          (λ i. (c.type_inv.s i).fits) (omega arith) c.if-i-n.true,
    )

pub overflow_add-result : goal.overflow_add-result
overflow_add-result c = let a = c.args in
    omega (
      arith,
      list_small a.s.now a.l a.q a.w a.i _ _ (sym c.in_ok-n.was ∙ c.read_number.ensures)
          (λ i. (c.type_inv.s i).fits) (omega arith) c.if-i-n.true,
    )

pub returns-then-i-n : goal.returns-then-i-n
returns-then-i-n c = list_is _ _ _ _ _ _ _ (sym c.in_ok-n.was ∙ c.read_number.ensures) c.if-i-n.true

pub returns-in_err-n : goal.returns-in_err-n
returns-in_err-n c = passed_on c.from_residual.ensures ∙ list_none_told _ _ _ _ _ _ (sym c.in_err-n.was ∙ c.read_number.ensures)

pub returns : goal.returns
returns c = list_past _ _ _ _ _ _ _ (sym c.in_ok-n.was ∙ c.read_number.ensures) c.if-i-n.false
