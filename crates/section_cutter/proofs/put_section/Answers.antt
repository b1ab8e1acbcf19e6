-- `section_cutter::put_section` meets its contract: the heading, the payload and the check are laid one after the other,
use mathlib.Core.Path.{sym}
use native.Mathlib.Omega.{arith}
use borrow.Author.Rules.{rules}
use lib.Seq.{length-take-le}
use Rattle.section_reader.proofs.Printing.{laid_length, laid_checked}
use Rattle.section_cutter.proofs.put_section.Goals as goal

pub slice_bounds-crc32-end-2 : goal.slice_bounds-crc32-end-2
slice_bounds-crc32-end-2 c = let l = laid_length _ _ _ (search rules) _ _ c.put_heading.ensures c.copy_long.ensures in
    sym (length-take-le _ _ (omega arith))

pub returns : goal.returns
returns c = laid_checked _ _ _ (search rules) _ _ c.put_heading.ensures c.copy_long.ensures _ _ c.crc32-check.ensures c.put_check.ensures
