-- `packet_writer::pack` meets its contract: the section's own refusal, the counter's, or what a good section makes.
use mathlib.Core.Path.{sym, ◌∙◌}
use native.Mathlib.Omega.{arith}
use Rattle.packet_writer.proofs.Calls.{good_short}
use Rattle.packet_writer.proofs.pack.Goals as goal

pub pack_good-requires : goal.pack_good-requires
pack_good-requires c = (omega arith, good_short _ _ (sym c.read_section.ensures ∙ c.in_ok-read_section.was))
