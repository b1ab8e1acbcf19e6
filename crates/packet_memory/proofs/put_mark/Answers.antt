-- `packet_memory::put_mark` meets its contract: the three bytes stand in one piece.
use Prim.Native.Nat.{◌/◌, ◌%◌}
use mathlib.Core.List.{[], ◌∷◌}
use mathlib.Core.Path.{◌≡◌, sym, ◌∙◌}
use Rattle.ground_placing.proofs.Placing.{placed_whole}
use Rattle.packet_memory.proofs.put_mark.Goals as goal

pub returns : goal.returns
returns c = let k = c.args.kept in
    let e : c.copy_from_slice.new.self ≡ 1 ∷ k / 256 % 256 ∷ k % 256 ∷ [] = c.copy_from_slice.ensures.after ∙ rw c.to_be_bytes-kept.ensures in
    rw e (sym (placed_whole c.args.s.now (1 ∷ k / 256 % 256 ∷ k % 256 ∷ [])))
