-- `time_printing::print_start` meets its contract: an unpacked time has two digits for each of its numbers.
use mathlib.Core.Path.{sym, ◌∙◌}
use Rattle.time_printing.proofs.Calls.{unpacked_typable}
use Rattle.time_printing.proofs.print_start.Goals as goal

pub characters-requires : goal.characters-requires
characters-requires c = unpacked_typable _ _ _ (sym c.unpack.ensures ∙ c.in_ok-t.was)
