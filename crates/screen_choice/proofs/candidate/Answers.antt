-- `screen_choice::candidate` meets its contract: level and start are the message's.
use mathlib.Core.Path.{ap, ◌∙◌}
use Rattle.screen_choice.specs.Walk.{worth_of, moment_said}
use Rattle.screen_choice.proofs.Fields.{candidate_is}
use Rattle.screen_choice.proofs.candidate.Goals as goal

pub returns : goal.returns
returns c = candidate_is _ _ _ _ _ _ _ (c.worth_of-level.ensures ∙ ap worth_of c.level.ensures)
    (c.worth_of-field.ensures ∙ ap worth_of c.start.ensures) (c.moment_said-start.ensures ∙ ap moment_said c.read_time.ensures)
