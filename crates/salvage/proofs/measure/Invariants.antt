-- `salvage::measure` meets its contract: what is counted and what is left to count are the whole, turn after turn.
use Prim.Native.Nat.{◌+◌, ◌-◌, ◌≤◌}
use mathlib.Core.Path.{◌≡◌, ap}
use native.Mathlib.Omega.{arith}
use borrow.Author.Rules.{rules}
use lib.ListN.{length}
use Rattle.salvage.specs.Runs.{runs_of}
use Rattle.salvage.specs.Salvage.{sections}
use Rattle.salvage.proofs.Pieces.{next_goes}
use Rattle.salvage.proofs.Turns.{runs_left, sections_left, count_turn, sections_length, runs_whole, sections_whole, runs_end, sections_end}
use Rattle.salvage.proofs.measure.Given as goal

abbrev pub invariant-loop-from : goal.invariant-loop-from
invariant-loop-from l =
    (l.from ≤ length l.s) × (l.bytes ≤ l.from) × (l.runs ≤ l.from)
    × (l.bytes + length (sections_left l.s l.from) ≡ length (sections l.s)) × (l.runs + length (runs_left l.s l.from) ≡ length (runs_of l.s))

abbrev pub decreases-loop-from : goal.decreases-loop-from
decreases-loop-from l = length l.s - l.from
