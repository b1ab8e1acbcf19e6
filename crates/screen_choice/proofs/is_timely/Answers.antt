-- `screen_choice::is_timely` meets its contract: start and end are the message's, and the library says how they stand.
use mathlib.Core.Path.{ap, ◌∙◌}
use Rattle.screen_choice.specs.Walk.{worth_of}
use Rattle.screen_choice.proofs.Fields.{timely}
use Rattle.screen_choice.proofs.is_timely.Goals as goal

pub returns : goal.returns
returns c = timely _ _ _ _ _ _ _ _ (c.worth_of-start.ensures ∙ ap worth_of c.start.ensures)
    (c.worth_of-end.ensures ∙ ap worth_of c.end.ensures) c.at_instant.ensures c.is_on.ensures
