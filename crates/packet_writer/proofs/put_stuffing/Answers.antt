-- `packet_writer::put_stuffing` meets its contract: one piece is filled.
use Prim.Native.Nat.{ℕ}
use mathlib.Core.Path.{ap, ◌∙◌}
use native.Mathlib.Omega.{arith}
use borrow.Author.Rules.{rules}
use lib.ListN.{replicate, length-replicate}
use Rattle.packet.specs.Sizes.{stuffing}
use Rattle.section_reader.proofs.Bytes.{placed_part}
use Rattle.packet_writer.proofs.put_stuffing.Goals as goal

pub returns : goal.returns
returns c = placed_part _ _ _ _
    (c.fill.ensures.after (λ y e. search rules) ∙ ap (λ (k : ℕ). replicate k stuffing) (omega arith))
    (omega (arith, length-replicate {A = ℕ} c.args.n))
