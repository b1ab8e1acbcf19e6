-- `ground_moving::move_piece` meets its contract: what is held are the bytes, before one of them is written.
use mathlib.Core.Path.{ap, ◌∙◌}
use native.Mathlib.Omega.{arith}
use lib.ListN.{take, length-take}
use Rattle.ground_placing.specs.Placed.{placed}
use Rattle.ground_moving.proofs.Moving.{piece_held}
use Rattle.ground_moving.proofs.move_piece.Goals as goal

pub slice_bounds-copy_at-end-3 : goal.slice_bounds-copy_at-end-3
slice_bounds-copy_at-end-3 c = simp length-take (omega arith)

pub copy_at-requires-2 : goal.copy_at-requires-2
copy_at-requires-2 c = simp length-take (omega arith)

pub returns : goal.returns
returns c = let given = c.args in
    c.copy_at-2.ensures
    ∙ ap (placed given.buffer.now given.to)
    (ap (take given.n) c.copy_at.ensures ∙ piece_held _ given.buffer.now given.from given.n (omega arith))
