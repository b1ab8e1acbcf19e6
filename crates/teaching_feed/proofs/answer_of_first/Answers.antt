-- `teaching_feed::answer_of_first` meets its contract: there is room for the table, or not.
use mathlib.Core.Path.{sym, ◌∙◌}
use Rattle.teaching_feed.proofs.Answering.{first_short, first_taken}
use Rattle.teaching_feed.proofs.answer_of_first.Goals as goal

pub returns-then-not-has_room : goal.returns-then-not-has_room
returns-then-not-has_room c = first_short _ _ (sym c.has_room.ensures ∙ c.if-not-has_room.true)

pub returns : goal.returns
returns c = first_taken _ _ (sym c.has_room.ensures ∙ c.if-not-has_room.false)
