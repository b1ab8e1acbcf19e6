-- `index_writer::measuring::pen_all_descriptors` meets its contract: each turn goes past one more, the first refusal ends them, and the turns are as many as the
-- tape says.
use mathlib.Core.Path.{sym, ◌∙◌}
use Rattle.ground_refusal.proofs.Exits.{passed_on}
use Rattle.body_pen.proofs.Lists.{many_start, many_stop, times_turn, times_stop, times_done}
use Rattle.index_writer.proofs.measuring.pen_all_descriptors.Goals as goal

pub returns-in_err-past : goal.returns-in_err-past
returns-in_err-past g c = passed_on c.from_residual.ensures ∙ many_stop _ _ _ _ _ (sym c.in_err-past.was ∙ c.take_count.ensures _)

pub loop-init : goal.loop-init
loop-init g c = many_start _ _ _ (sym c.in_ok-past.was ∙ c.take_count.ensures _)

pub returns-in_err-past-2 : goal.returns-in_err-past-2
returns-in_err-past-2 g c = passed_on c.from_residual-in_err-past-2.ensures
    ∙ times_stop c.loop.invariant c.loop-test.true c.pen_descriptor.ensures c.in_err-past-2.was

pub loop-preserved : goal.loop-preserved
loop-preserved g c = times_turn c.loop.invariant c.loop-test.true c.pen_descriptor.ensures c.in_ok-past-2.was

pub returns : goal.returns
returns g c = times_done c.loop.invariant c.loop-test.false
