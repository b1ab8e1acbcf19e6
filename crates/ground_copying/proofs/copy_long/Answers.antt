-- `ground_copying::copy_long` meets its contract: the bytes so far stand, and then the rest.
use Prim.Native.Nat.{◌+◌}
use mathlib.Core.Path.{refl, sym, ap, ◌∙◌}
use lib.ListN.{length}
use lib.Seq.{take-length}
use native.Mathlib.Omega.{arith}
use borrow.Author.Rules.{rules}
use Rattle.ground_placing.specs.Placed.{placed}
use Rattle.ground_placing.proofs.Placing.{placed_none}
use Rattle.ground_copying.proofs.Pieces.{turn}
use Rattle.ground_copying.proofs.copy_long.Goals as goal

pub loop-i-init : goal.loop-i-init
loop-i-init c = (sym (placed_none _ _), omega arith, refl)

pub loop-i-preserved : goal.loop-i-preserved
loop-i-preserved c = let given = c.args in
    let v = c.loop-i in (
      turn given.dst.now given.at given.src.now _ (omega arith) _ v.i (v.i + 4096) v.invariant.0 (omega arith) (omega arith)
          c.block.ensures,
      omega arith,
      search rules,
    )

pub returns : goal.returns
returns c = let given = c.args in
    let v = c.loop-i in
    turn given.dst.now given.at given.src.now _ (omega arith) _ v.i (length given.src.now) v.invariant.0 (omega arith) (omega arith)
    c.block-2.ensures
    ∙ ap (placed given.dst.now given.at) (take-length given.src.now)
