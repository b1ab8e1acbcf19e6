-- `teaching_feed::answer_to` meets its contract: in each arm the string is read as the arm's case.
use mathlib.Core.Path.{sym, ◌∙◌}
use borrow.Author.Tests.{not-true, not-false}
use Rattle.ground_refusal.proofs.Exits.{passed_on}
use Rattle.teaching_questions.proofs.Saying.{say_good, said_section}
use Rattle.teaching_feed.proofs.Answering.{to_bad, to_old, to_good}
use Rattle.teaching_feed.proofs.answer_to.Goals as goal

pub returns-then-not-h : goal.returns-then-not-h
returns-then-not-h c = to_old _ _ _ _ _ (sym c.read_section.ensures ∙ c.in_ok-h.was) (not-true _ c.if-not-h.true)

pub answer_of_good-requires : goal.answer_of_good-requires
answer_of_good-requires c = let good = sym c.read_section.ensures ∙ c.in_ok-h.was in
    let h = said_section _ _ (sym (say_good _ _ _ good (not-false _ c.if-not-h.false))) in
    (h.versioned, h.long)

pub returns-in_err-h : goal.returns-in_err-h
returns-in_err-h c = passed_on c.from_residual.ensures ∙ to_bad _ _ _ _ (sym c.read_section.ensures ∙ c.in_err-h.was)

pub returns : goal.returns
returns c = to_good _ _ _ _ _ (sym c.read_section.ensures ∙ c.in_ok-h.was) (not-false _ c.if-not-h.false) _ c.answer_of_good.ensures
