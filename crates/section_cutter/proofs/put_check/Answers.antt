-- `section_cutter::put_check` meets its contract: the number's four bytes stand in one piece.
use mathlib.Core.Path.{sym, ap, ◌∙◌}
use native.Mathlib.Omega.{arith}
use lib.ListN.{length}
use Rattle.section_reader.proofs.Bytes.{four_bytes, placed_part}
use Rattle.section_cutter.proofs.put_check.Goals as goal

pub returns : goal.returns
returns c = let four = four_bytes c.args.check in
    placed_part _ _ _ _ (c.copy_from_slice.ensures.after ∙ c.to_be_bytes.ensures ∙ sym four) (omega (arith, ap length four))
