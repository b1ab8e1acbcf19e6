-- `index_writer::measuring::pen_channel` meets its contract: its fields one after the other, under their names.
use mathlib.Core.Path.{sym, ◌∙◌}
use Rattle.ground_refusal.proofs.Exits.{passed_on}
use Rattle.body_pen.proofs.Leaves.{stopped}
use Rattle.body_pen.proofs.Pairs.{pair_pen, view_pen, told_pen, untold_pen}
use Rattle.index.specs.Index.{channel_fields, channel}
use Rattle.index_writer.proofs.measuring.pen_channel.Goals as goal

pub returns-in_err-d : goal.returns-in_err-d
unfolding channel channel_fields
returns-in_err-d c = let pool = c.args.pool.now in
    passed_on c.from_residual.ensures
    ∙ simp (view_pen, pair_pen)
    (stopped _ _ _ _ _ (sym (stopped _ _ _ _ _ (cc (
      c.pen_number-a.ensures pool,
      c.pen_number-b.ensures pool,
      c.pen_number-c.ensures pool,
      untold_pen _ pool _ _ _ (sym c.in_err-d.was ∙ c.pen_reserved.ensures pool),
    )))))

pub returns : goal.returns
unfolding channel channel_fields
returns c = let pool = c.args.pool.now in
    simp (view_pen, pair_pen)
    (cc (
      c.pen_number-a.ensures pool,
      c.pen_number-b.ensures pool,
      c.pen_number-c.ensures pool,
      told_pen _ pool _ _ _ _ (sym c.in_ok-d.was ∙ c.pen_reserved.ensures pool),
    ))
