-- `teaching_rows::in_use` meets its contract: what is in use lies in the buffer, and is held to be rows.
use mathlib.Core.Path.{sym, ◌∙◌}
use lib.Seq.{length-take-le}
use Rattle.teaching_rows.proofs.Rows.{in_use_none, in_use_rows}
use Rattle.teaching_rows.proofs.in_use.Goals as goal

pub returns-then-buffer-used : goal.returns-then-buffer-used
returns-then-buffer-used c = in_use_none _ _ c.if-buffer-used.true

pub slice_bounds-is_whole-end : goal.slice_bounds-is_whole-end
slice_bounds-is_whole-end c = sym (length-take-le _ _ c.if-buffer-used.false)

pub returns : goal.returns
returns c = c.is_whole.ensures ∙ in_use_rows _ _ c.if-buffer-used.false
