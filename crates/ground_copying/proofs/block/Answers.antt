-- `ground_copying::block` meets its contract: what is held begins with the bytes.
use mathlib.Core.Path.{ap, ◌∙◌}
use Rattle.ground_placing.specs.Placed.{placed}
use Rattle.ground_copying.proofs.Pieces.{held_start}
use Rattle.ground_copying.proofs.block.Goals as goal

pub returns : goal.returns
returns c = let given = c.args in
    c.copy_at-2.ensures
    ∙ ap (placed given.dst.now given.at) (held_start _ given.src.now _ c.copy_at.ensures)
