-- `teaching_table::fixed_after` meets its contract: each way out is one of the definition's.
use mathlib.Core.Path.{sym, ◌∙◌}
use Rattle.teaching_questions.proofs.Saying.{said_section}
use Rattle.teaching_table.proofs.Taking.{after_nothing, after_other, after_short, after_begun}
use Rattle.teaching_table.proofs.fixed_after.Goals as goal

pub returns-in_default : goal.returns-in_default
returns-in_default c = after_nothing _ _ _ _ (sym c.hear.ensures ∙ c.in_default.is)

pub begins-requires : goal.begins-requires
begins-requires c = (c.requires, (said_section _ _ (sym c.hear.ensures ∙ c.in-Some.is)).versioned)

pub returns-then-not-begins : goal.returns-then-not-begins
returns-then-not-begins c = let h = said_section _ _ (sym c.hear.ensures ∙ c.in-Some.is) in
    after_other _ _ _ _ _ h (sym c.begins.ensures ∙ c.if-not-begins.true)

pub returns-then-not-has_room : goal.returns-then-not-has_room
returns-then-not-has_room c = let h = said_section _ _ (sym c.hear.ensures ∙ c.in-Some.is) in
    after_short _ _ _ _ _ h (sym c.begins.ensures ∙ c.if-not-begins.false) (sym c.has_room.ensures ∙ c.if-not-has_room.true)

pub returns : goal.returns
returns c = let h = said_section _ _ (sym c.hear.ensures ∙ c.in-Some.is) in
    after_begun _ _ _ _ _ h (sym c.begins.ensures ∙ c.if-not-begins.false) (sym c.has_room.ensures ∙ c.if-not-has_room.false)
