-- `teaching_feed::answer_of_good` meets its contract: in each arm the account is the arm's case.
use mathlib.Core.Path.{refl, sym, ◌∙◌}
use Rattle.teaching_table.proofs.Fixing.{found_table, found_nothing}
use Rattle.teaching_feed.proofs.Answering.{good_first, good_newer, good_other, good_same}
use Rattle.teaching_feed.proofs.answer_of_good.Goals as goal

pub is_newer-requires : goal.is_newer-requires
is_newer-requires c = ((found_table c.fixed_table.ensures _ _ c.in-Some.is).versioned, c.requires.0)

pub returns-then-is_newer : goal.returns-then-is_newer
returns-then-is_newer c = good_newer _ _ _ _ _ _ _ (found_table c.fixed_table.ensures _ _ c.in-Some.is)
    (sym c.is_newer.ensures ∙ c.if-is_newer.true) c.answer_of_first-then-is_newer.ensures

pub returns-then-not-same_table : goal.returns-then-not-same_table
returns-then-not-same_table c = good_other _ _ _ _ _ _ _ (found_table c.fixed_table.ensures _ _ c.in-Some.is)
    (sym c.is_newer.ensures ∙ c.if-is_newer.false)
    (sym c.same_table.ensures ∙ c.if-not-same_table.true) refl

pub slice_bounds-answer_of_table-count : goal.slice_bounds-answer_of_table-count
slice_bounds-answer_of_table-count c = (found_table c.fixed_table.ensures _ _ c.in-Some.is).among

pub slice_bounds-answer_of_table-start : goal.slice_bounds-answer_of_table-start
slice_bounds-answer_of_table-start c = (found_table c.fixed_table.ensures _ _ c.in-Some.is).among

pub returns-in_default : goal.returns-in_default
returns-in_default c = good_first _ _ _ _ _ (found_nothing c.fixed_table.ensures c.in_default.is) c.answer_of_first.ensures

pub returns : goal.returns
returns c = good_same _ _ _ _ _ _ _ (found_table c.fixed_table.ensures _ _ c.in-Some.is)
    (sym c.is_newer.ensures ∙ c.if-is_newer.false)
    (sym c.same_table.ensures ∙ c.if-not-same_table.false) c.answer_of_table.ensures
