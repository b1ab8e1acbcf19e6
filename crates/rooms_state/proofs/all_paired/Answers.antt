-- `rooms_state::all_paired` meets its contract: those before i are paired, so all are if the rest is.
use mathlib.Core.Path.{refl, sym, ◌∙◌}
use native.Mathlib.Omega.{arith}
use borrow.Author.Tests.{not-true, not-false}
use Rattle.rooms_state.proofs.Loops.{pair_stop, pair_step, pair_end}
use Rattle.rooms_state.proofs.all_paired.Goals as goal

pub loop-i-init : goal.loop-i-init
loop-i-init c = (omega arith, refl)

pub returns-then-not-is_paired : goal.returns-then-not-is_paired
returns-then-not-is_paired c = let args = c.args in
    sym (c.loop-i.invariant.1
    ∙ pair_stop args.n args.held.now args.rooms.now c.loop-i.i c.requires (omega arith)
    (sym c.is_paired.ensures ∙ not-true _ c.if-not-is_paired.true-raw))

pub loop-i-preserved : goal.loop-i-preserved
loop-i-preserved c = let args = c.args in (
  omega arith,
  c.loop-i.invariant.1
      ∙ pair_step args.n args.held.now args.rooms.now c.loop-i.i c.requires (omega arith)
      (sym c.is_paired.ensures ∙ not-false _ c.if-not-is_paired.false-raw),
)

pub returns : goal.returns
returns c = let args = c.args in
    sym (c.loop-i.invariant.1
    ∙ pair_end args.n args.held.now args.rooms.now c.loop-i.i c.requires (omega arith))
