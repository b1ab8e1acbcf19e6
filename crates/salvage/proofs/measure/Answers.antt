-- `salvage::measure` meets its contract: what is counted and what is left to count are the whole, turn after turn.
use Prim.Native.Nat.{◌+◌, ◌-◌, ◌≤◌}
use mathlib.Core.Path.{◌≡◌, ap}
use native.Mathlib.Omega.{arith}
use borrow.Author.Rules.{rules}
use lib.ListN.{length}
use Rattle.salvage.specs.Runs.{runs_of}
use Rattle.salvage.specs.Salvage.{sections}
use Rattle.salvage.proofs.Pieces.{next_goes}
use Rattle.salvage.proofs.Turns.{runs_left, sections_left, count_turn, sections_length, runs_whole, sections_whole, runs_end, sections_end}
use Rattle.salvage.proofs.measure.Goals as goal

pub loop-from-init : goal.loop-from-init
loop-from-init c = let s = c.args.s.now in
    (omega arith, omega arith, omega arith, omega (arith, ap length (sections_whole s)), omega (arith, ap length (runs_whole s)))

pub overflow_sub-next : goal.overflow_sub-next
overflow_sub-next c = omega (arith, c.next_good-next.ensures.after)

pub loop-from-smaller : goal.loop-from-smaller
loop-from-smaller c = let on = next_goes _ _ _ _ c.next_good-next.ensures c.loop-from-test.true in
    omega (arith, c.next_good-next.ensures.within)

pub loop-from-preserved : goal.loop-from-preserved
loop-from-preserved c = let inv = c.loop-from.invariant in
    let next = c.next_good-next.ensures in (
      next.within,
      omega (arith, next.after),
      omega (arith, next.after, c.run_count.ensures.1, c.run_count-in-loop-from.ensures.1),
      omega (arith, inv.3, sections_length _ _ _ _ next),
      omega (arith, inv.4, count_turn _ _ _ _ next, c.run_count.ensures.0, c.run_count-in-loop-from.ensures.0),
    )

pub returns : goal.returns
returns c = let inv = c.loop-from.invariant in
    let s = c.args.s.now in
    let end = c.loop-from-test.false in
    (omega (arith, inv.3, ap length (sections_end s _ end)), omega (arith, inv.4, ap length (runs_end s _ end)))
