-- `configuration_writer::measuring::pen_command` meets its contract: its tag, its length, what it says by the tag, and then what the length may be.
use mathlib.Core.Path.{sym, ◌∙◌}
use Rattle.ground_refusal.proofs.Exits.{passed_on}
use Rattle.body_formats.specs.Format.{least_of, counted}
use Rattle.body_pen.proofs.Lengths.{least_pen}
use Rattle.body_pen.proofs.Pairs.{after_number, number_stopped}
use Rattle.configuration.specs.Configuration.{order_of, said, least, command}
use Rattle.configuration_writer.proofs.measuring.pen_command.Goals as goal

pub returns-in_err-a : goal.returns-in_err-a
unfolding command
returns-in_err-a c = passed_on c.from_residual.ensures
    ∙ number_stopped _ (λ tag. counted (least_of 2 (least tag)) (said (order_of tag))) _ _ _ _ (sym c.in_err-a.was ∙ c.pen_told.ensures _)

pub returns : goal.returns
unfolding command
returns c =
    rw (
      after_number _ (λ tag. counted (least_of 2 (least tag)) (said (order_of tag))) _ _ _ _ _ (sym c.in_ok-a.was ∙ c.pen_told.ensures c.args.pool.now),
      least_pen,
    ) (cc)
