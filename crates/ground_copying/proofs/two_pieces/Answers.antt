-- `ground_copying::two_pieces` meets its contract: the first piece stands, and the last goes over some of it and to the end.
use native.Mathlib.Omega.{arith}
use Rattle.ground_copying.proofs.Pieces.{two}
use Rattle.ground_copying.proofs.two_pieces.Goals as goal

pub returns : goal.returns
returns g c = let given = c.args in
    two given.dst.now given.at given.src.now _ (omega arith) _ g.row.N (omega arith) (omega arith)
    c.piece.ensures c.piece-2.ensures
