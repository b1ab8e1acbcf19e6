-- `section_cutter::put_heading` meets its contract: the eight bytes stand in one piece.
use mathlib.Core.Path.{sym, ap, ◌∙◌}
use native.Mathlib.Omega.{arith}
use lib.ListN.{length}
use Rattle.section_reader.proofs.Bytes.{digit_is, placed_part}
use Rattle.section_reader.proofs.Printing.{heading_is}
use Rattle.section_cutter.proofs.put_heading.Goals as goal

pub returns : goal.returns
returns c = let bytes = heading_is c.args.h c.args.n in
    placed_part _ 0 8 _
    (c.copy_from_slice.ensures.after ∙ rw (c.to_be_bytes-length.ensures, c.to_be_bytes-extension.ensures, c.from.ensures, digit_is c.args.h.current) (sym bytes))
    (omega (arith, ap length bytes))
