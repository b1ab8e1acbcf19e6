-- `teaching_rows::is_whole` meets its contract: what the rows passed take and what those still to come take is what all of them take.
use mathlib.Core.Path.{◌∙◌}
use Rattle.teaching_rows.proofs.Rows.{row_shorter, taken_row, taken_end}
use Rattle.teaching_rows.proofs.is_whole.Goals as goal

pub loop-string-smaller : goal.loop-string-smaller
loop-string-smaller c = row_shorter c.in-Some.ensures

pub loop-string-preserved : goal.loop-string-preserved
loop-string-preserved c = taken_row c.in-Some.ensures _ _ c.loop-string.invariant

pub returns : goal.returns
returns c = c.is_empty.ensures ∙ taken_end _ _ c.in_default.ensures c.loop-string.invariant
