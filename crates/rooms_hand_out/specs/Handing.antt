-- What a reader has to believe of handing out one of two networks' tables: the order of refusals, the joined body, and the output after it.
use Rattle.std.specs.Prelude.{not, List, ℕ, length, if◌then◌else◌, Result, Err}
use Rattle.ground_refusal.specs.declared.Refusal.{Refusal}
use Rattle.std.proofs.Math.Option.{Option, none, some}
use Rattle.ground_numbers.specs.Sizes.{body_most}
use Rattle.ground_refusal.specs.declared.Refusal.TheVariants.{ImpossibleState, OutsideSet}
use Rattle.gathering_state.specs.State.{lengths}
use Rattle.gathering_hand_out.specs.Handing.{joined, complete_of, handed_by, out_by}
use Rattle.rooms_state.specs.State.{room_at, possible_of, Network, mine}
use Rattle.rooms_state.specs.declared.Part.{Part}
use Rattle.rooms_state.specs.declared.Networks.{Networks}

-- the body that a network has in its rooms: their payloads in the order of the numbers
unfoldable pub body_in : Part → List ℕ → List ℕ
body_in p store = joined (room_at p.rooms) 0 (lengths p.gathering) store

-- "13 if nothing begun, 11, 13, 21", in the order of the single gathering, whose own store would have a place for each of 256 numbers: 10 is not given, and 12
-- was looked at before
unfoldable pub part_handed : Part → List ℕ → List ℕ → Result ℕ Refusal
part_handed p store out = handed_by (complete_of p.gathering body_most) (length (body_in p store)) (length out)

unfoldable pub part_out : Part → List ℕ → List ℕ → List ℕ
part_out p store out = out_by (body_in p store) out (part_handed p store out)

-- ---- both networks

unfoldable pub handed_for : Network → Networks → List ℕ → List ℕ → Result ℕ Refusal
handed_for i x store out =
    if not (possible_of x (length store)) then Err ImpossibleState else
    part_handed (mine i x) store out

unfoldable pub out_for : Network → Networks → List ℕ → List ℕ → List ℕ
out_for i x store out =
    if not (possible_of x (length store)) then out else
    part_out (mine i x) store out

-- "first 19 for a network other than 1 or 2"
unfoldable pub handed_of : Option Network → Networks → List ℕ → List ℕ → Result ℕ Refusal
handed_of none x store out = Err (OutsideSet 0)
handed_of (some i) x store out = handed_for i x store out

-- the output after it; a refusal "writes no byte"
unfoldable pub out_after : Option Network → Networks → List ℕ → List ℕ → List ℕ
out_after none x store out = out
out_after (some i) x store out = out_for i x store out
