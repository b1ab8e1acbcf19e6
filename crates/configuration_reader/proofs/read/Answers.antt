-- `configuration_reader::read` meets its contract: a body that is not opened is refused, one that a glance takes is read to its end, and of any other a dry walk tells.
use mathlib.Core.Path.{sym, ◌∙◌}
use Rattle.ground_refusal.proofs.Exits.{passed_on}
use Rattle.body_formats.proofs.Readers.{body_no}
use Rattle.body_glance.proofs.Finds.{read_filled}
use Rattle.body_walk.proofs.Bodies.{read_walked}
use Rattle.configuration_reader.proofs.read.Goals as goal

pub returns-in_err-open_body : goal.returns-in_err-open_body
returns-in_err-open_body c = passed_on c.from_residual.ensures ∙ body_no _ _ _ _ _ (sym c.in_err-open_body.was ∙ c.open_body.ensures)

pub returns-then-good_configuration : goal.returns-then-good_configuration
returns-then-good_configuration c = read_filled _ _ (sym c.in_ok-open_body.was ∙ c.open_body.ensures) (c.good_configuration.ensures c.if-good_configuration.true)

pub returns : goal.returns
returns c = read_walked _ _ (sym c.in_ok-open_body.was ∙ c.open_body.ensures) c.walk_configuration.ensures c.body_end.ensures
