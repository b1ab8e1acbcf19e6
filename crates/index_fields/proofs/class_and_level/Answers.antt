-- `index_fields::class_and_level` meets its contract: both halves of the byte are from 1 to 4, or the byte is refused.
use mathlib.Core.Path.{sym, ◌∙◌}
use Rattle.ground_refusal.proofs.Exits.{passed_on}
use Rattle.index_fields.proofs.Answers.{shared_no, shared_in, shared_is, shared_bad}
use native.Mathlib.Omega.{arith}
use Rattle.index_fields.proofs.class_and_level.Goals as goal

pub returns-then-halves_good : goal.returns-then-halves_good
returns-then-halves_good c = let a = c.args in
    shared_is a.s.now a.at a.n _ _ (sym c.in_ok-b.was ∙ c.number_in.ensures)
    (sym c.halves_good.ensures ∙ c.if-halves_good.true)

pub overflow_add-result : goal.overflow_add-result
overflow_add-result c = let a = c.args in
    omega (arith, shared_in a.s.now a.at a.n _ _ (sym c.in_ok-b.was ∙ c.number_in.ensures))

pub returns-in_err-b : goal.returns-in_err-b
returns-in_err-b c = passed_on c.from_residual.ensures ∙ let a = c.args in
    shared_no a.s.now a.at a.n _ (sym c.in_err-b.was ∙ c.number_in.ensures)

pub returns : goal.returns
returns c = let a = c.args in
    shared_bad a.s.now a.at a.n _ _ (sym c.in_ok-b.was ∙ c.number_in.ensures)
    (sym c.halves_good.ensures ∙ c.if-halves_good.false)
