-- `index_writer::measuring::pen_flagged` meets its contract: the channel, where its flag, which comes first, is not 0.
use mathlib.Core.Path.{sym, ◌∙◌}
use native.Mathlib.Omega.{arith}
use Rattle.ground_refusal.proofs.Exits.{passed_on}
use Rattle.body_pen.proofs.Pairs.{number_stopped, flag_none, flag_some}
use Rattle.index.specs.Index.{flagged}
use Rattle.index_writer.proofs.measuring.pen_flagged.Goals as goal

pub returns-in_err-past : goal.returns-in_err-past
unfolding flagged
returns-in_err-past c = passed_on c.from_residual.ensures ∙ number_stopped _ _ _ _ _ _ (sym c.in_err-past.was ∙ c.pen_reserved.ensures _)

pub returns-then-flag-eq0 : goal.returns-then-flag-eq0
unfolding flagged
returns-then-flag-eq0 c = sym (flag_none _ _ _ _ _ _ _ (sym c.in_ok-past.was ∙ c.pen_reserved.ensures _) c.if-flag-eq0.true)

pub returns : goal.returns
unfolding flagged
returns c = c.pen_channel.ensures ∙ sym (flag_some _ _ _ _ _ _ _ (sym c.in_ok-past.was ∙ c.pen_reserved.ensures _) (omega arith))
