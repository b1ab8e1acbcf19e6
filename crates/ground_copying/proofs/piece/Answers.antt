-- `ground_copying::piece` meets its contract: what is held is the piece.
use mathlib.Core.Path.{ap, ◌∙◌}
use native.Mathlib.Omega.{arith}
use Rattle.std.proofs.lemmas.List.{length-replicate}
use Rattle.ground_placing.specs.Placed.{placed}
use Rattle.ground_copying.proofs.Pieces.{held_piece}
use Rattle.ground_copying.proofs.piece.Goals as goal

pub returns : goal.returns
returns g c = let given = c.args in
    c.copy_at-2.ensures
    ∙ ap (placed given.dst.now given.at)
    (held_piece _ given.src.now _ given.i g.row.N c.copy_at.ensures (length-replicate _ 0) (omega arith))
