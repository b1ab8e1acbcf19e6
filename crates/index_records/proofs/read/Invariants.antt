-- `index_records::read`'s loop: the records that are still to be laid make the whole list.
use Prim.Native.Nat.{◌-◌}
use mathlib.Core.Path.{◌≡◌}
use lib.Seq.{sets}
use Rattle.index_records.specs.Steps.{records_from}
use Rattle.index_records.proofs.read.Given as goal

abbrev pub invariant-loop-i : goal.invariant-loop-i
invariant-loop-i l = sets l.list l.i (records_from l.s l.at (l.n - l.i)) ≡ sets l.initial.list 0 (records_from l.s 1 l.n)
