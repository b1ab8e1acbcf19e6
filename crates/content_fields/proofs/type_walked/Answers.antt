-- `content_fields::type_walked` meets its contract: it stands after the auxiliary files before it, as many as the count allows,
use mathlib.Core.Path.{sym, ◌∙◌}
use Rattle.ground_refusal.proofs.Exits.{passed_on}
use Rattle.content_fields.proofs.Answers.{type_no, after_count, type_none, type_is}
use native.Mathlib.Omega.{arith}
use Rattle.content_fields.proofs.type_walked.Goals as goal

pub overflow_add-at : goal.overflow_add-at
overflow_add-at c = omega (arith, after_count _ _ _ _ _ (sym c.in_ok-m.was ∙ c.auxiliary_count.ensures))

pub overflow_add-at-2 : goal.overflow_add-at-2
overflow_add-at-2 c = omega (arith, after_count _ _ _ _ _ (sym c.in_ok-m.was ∙ c.auxiliary_count.ensures))

pub returns-in_err-m : goal.returns-in_err-m
returns-in_err-m c = passed_on c.from_residual.ensures ∙ type_no _ _ _ _ _ _ (sym c.in_err-m.was ∙ c.auxiliary_count.ensures)

pub returns-in_err-p : goal.returns-in_err-p
returns-in_err-p c = passed_on c.from_residual-in_err-p.ensures ∙ type_none _ _ _ _ _ (sym c.in_ok-m.was ∙ c.auxiliary_count.ensures) _ _ _
    (sym c.in_err-p.was ∙ c.nth_entry.ensures)

pub returns : goal.returns
returns c = c.read_number.ensures ∙ type_is _ _ _ _ _ (sym c.in_ok-m.was ∙ c.auxiliary_count.ensures) _ _ _
    (λ i. (c.type_inv.s i).fits) (sym c.in_ok-p.was ∙ c.nth_entry.ensures)
