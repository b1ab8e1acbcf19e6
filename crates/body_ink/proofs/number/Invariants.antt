-- `body_ink::number` meets its contract: the last byte is laid first, and those still to be laid on what stands make the whole.
use mathlib.Core.Path.{◌≡◌}
use Rattle.ground_placing.specs.Placed.{placed}
use Rattle.body_formats.specs.Format.{bytes_of}
use Rattle.body_ink.proofs.number.Given as goal

abbrev pub invariant-loop-k : goal.invariant-loop-k
invariant-loop-k l = placed l.out l.at (bytes_of l.k l.v) ≡ placed l.initial.out l.at (bytes_of l.w l.x)
