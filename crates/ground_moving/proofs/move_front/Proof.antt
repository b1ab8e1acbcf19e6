-- `ground_moving::move_front` meets its contract. The loop's invariant: all but the bytes that are left are moved, and the rest of the buffer is as it was.
use mathlib.Core.Path.{◌≡◌}
use native.Mathlib.Omega.{arith}
use lib.ListN.{length}
use Rattle.ground_placing.specs.Placed.{placed}
use Rattle.ground_moving.proofs.Moving.{moved, Moved, moved_there, move_start, move_step, move_end}
use Rattle.ground_moving.proofs.move_front.Statement.{statement}
use Rattle.ground_moving.proofs.move_front.Tie as tie

abbrev invariant-loop-left : tie.invariant-loop-left
invariant-loop-left buffer₀ from to n left₀ buffer left = Moved buffer₀ from to n left buffer

abbrev decreases-loop-left : tie.decreases-loop-left
decreases-loop-left buffer₀ from to n left₀ buffer left = left

-- where the function began
abbrev begun : tie.After-slice_known-2-1 invariant-loop-left decreases-loop-left → tie.Start invariant-loop-left decreases-loop-left
begun c = search

-- the last piece moves all that is left
ends : (c : tie.After-slice_known-2-1 invariant-loop-left decreases-loop-left)
    → let given = (begun c).args in
    let out = c.before.before.move_piece-2.new.buffer in
    (out ≡ placed given.buffer.now given.to (moved given.buffer.now given.from given.n)) × (length out ≡ length given.buffer.now)
ends c =
    let piece = c.before.before in
    move_end _ _ _ _ (omega arith) (omega arith) _ _ piece.before.before.before.loop-left.invariant _ piece.move_piece-2.ensures

pub move_front_spec : {M : Type 1} → statement M
move_front_spec =
    tie.close
    (tie.spec
    invariant-loop-left
    decreases-loop-left
    (λ c. let given = c.before.before.args in rw c.if-to-from.true (moved_there given.buffer.now given.from given.n (omega arith)))
    (λ c. move_start _ _ _ _ (omega arith) (omega arith))
    (λ c. omega arith)
    (λ c. omega arith)
    (λ c. omega arith)
    (λ c κs. (omega arith, omega arith, omega arith))
    (λ c. omega arith)
    (λ c. omega arith)
    (λ c. let piece = c.before.before in
    move_step _ _ _ _ (omega arith) (omega arith) _ _ piece.before.before.before.loop-left.invariant 512 (omega arith) _ piece.move_piece.ensures)
    (λ c. omega arith)
    (λ c. omega arith)
    (λ c. omega arith)
    (λ c κs. (omega arith, omega arith, omega arith))
    (λ c. (ends c).1)
    (λ c. (ends c).0))
