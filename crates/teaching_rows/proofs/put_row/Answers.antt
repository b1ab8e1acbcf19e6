-- `teaching_rows::put_row` meets its contract: the length is laid, and the string after it.
use mathlib.Core.Path.{ap, ◌∙◌}
use native.Mathlib.Omega.{arith}
use Rattle.ground_placing.specs.Placed.{placed}
use Rattle.teaching_rows.proofs.Lengths.{length_written}
use Rattle.teaching_rows.proofs.Rows.{row_laid}
use Rattle.teaching_rows.proofs.put_row.Goals as goal

pub returns : goal.returns
returns c = row_laid _ _ _ _ _ (omega arith) (c.copy_at.ensures ∙ ap (placed _ _) (c.to_be_bytes-length.ensures ∙ length_written _)) c.copy_at-2.ensures
