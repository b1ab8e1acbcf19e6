-- `teaching_table::fixed_table` meets its contract: what is found so far stands for the strings passed, turn after turn.
use Rattle.teaching_rows.proofs.Rows.{row_shorter}
use Rattle.teaching_table.proofs.Fixing.{standing_versioned, walk_start, walk_on, walk_end}
use Rattle.teaching_table.proofs.fixed_table.Goals as goal

pub loop-s-init : goal.loop-s-init
loop-s-init c = walk_start _ _

pub fixed_after-fixed-requires : goal.fixed_after-fixed-requires
fixed_after-fixed-requires c = standing_versioned c.loop-s.invariant.standing

pub loop-s-smaller : goal.loop-s-smaller
loop-s-smaller c = row_shorter c.in-Some.ensures

pub loop-s-preserved : goal.loop-s-preserved
loop-s-preserved c = walk_on c.loop-s.invariant c.in-Some.ensures _ c.fixed_after-fixed.ensures

pub returns : goal.returns
returns c = walk_end c.loop-s.invariant c.in_default.ensures
