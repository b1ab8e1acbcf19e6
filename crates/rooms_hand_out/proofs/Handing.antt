-- Laws of handing out of rooms: payloads lie in the store, what leads to each answer, and the first numbers of a part.
use Prim.Native.Nat.{ℕ, ◌+◌, ◌-◌, ◌≤◌, ◌<◌}
use Rattle.std.specs.Prelude.{Result, Ok, Err}
use mathlib.Core.Path.{◌≡◌, refl, ◌∙◌, ap}
use mathlib.Core.Bool.{true, false, false≢true}
use mathlib.Core.List.{List}
use mathlib.Core.Option.{Option, none, some}
use native.Mathlib.Omega.{arith}
use lib.ListN.{length, get_or, length-take}
use lib.Seq.{get_or-take}
use Rattle.ground_refusal.specs.declared.Refusal.{Refusal}
use Rattle.ground_refusal.specs.declared.Refusal.TheVariants.{ImpossibleState, OutsideSet}
use Rattle.gathering_state.specs.State.{lengths}
use Rattle.gathering_state.specs.declared.Gathering.{Gathering}
use Rattle.gathering_hand_out.specs.Handing.{complete_of, handed_if_room, handed_by, out_by}
use Rattle.rooms_state.specs.State.{room_at, InRooms, possible_of, Network, is_some, mine}
use Rattle.rooms_state.specs.declared.Part.{Part}
use Rattle.rooms_state.specs.declared.Networks.{Networks}
use Rattle.rooms_state.proofs.Facts.{networks_are, sound_of, in_rooms}
use Rattle.rooms_hand_out.specs.Handing.{body_in, part_handed, part_out, handed_for, out_for, handed_of, out_after}

-- the payloads of the table's numbers lie in the store as all do
pub lengths_lie : (g : Gathering) (rooms store : List ℕ) → InRooms g.held rooms store
    → (k : ℕ) → k < length (lengths g) → room_at rooms k + (get_or (lengths g) k 0 - 1) ≤ length store
unfolding lengths
lengths_lie g rooms store i k h =
    let few = length-take (g.last + 1) g.held in
    let w = i.within k in
    let t = get_or-take (g.last + 1) g.held k 0 (omega arith) in
    omega arith

-- ---- one network's part

module _ (p : Part) (store out : List ℕ) where
  pub hands_refused : (r : Refusal) → complete_of p.gathering 1045504 ≡ Err r
      → (Err r ≡ part_handed p store out) × (out ≡ part_out p store out)
  unfolding part_handed handed_by part_out out_by
  hands_refused r e = (rw e, rw e)

  pub hands_complete : complete_of p.gathering 1045504 ≡ (Ok tt) → (r : Result ℕ Refusal) → r ≡ handed_if_room (length (body_in p store)) (length out)
      → (out' : List ℕ) → out' ≡ out_by (body_in p store) out r → (r ≡ part_handed p store out) × (out' ≡ part_out p store out)
  unfolding part_handed handed_by part_out
  hands_complete e r f out' q = (rw e f, rw e (q ∙ ap (out_by (body_in p store) out) f))

-- ---- both networks

module _ (x : Networks) (store out : List ℕ) where
  pub hands_nowhere : (o : Option Network) → o ≡ none → (Err (OutsideSet 0) ≡ handed_of o x store out) × (out ≡ out_after o x store out)
  unfolding handed_of out_after
  hands_nowhere o e = rw e (refl, refl)

  pub hands_impossible : (o : Option Network) → is_some o ≡ true → possible_of x (length store) ≡ false
      → (Err ImpossibleState ≡ handed_of o x store out) × (out ≡ out_after o x store out)
  unfolding handed_of out_after handed_for out_for is_some
  hands_impossible none t f = absurd (false≢true t)
  hands_impossible (some i) t f = rw f (refl, refl)

  pub hands_part : (o : Option Network) (i : Network) → o ≡ some i → possible_of x (length store) ≡ true → (r : Result ℕ Refusal) → r ≡ part_handed (mine i x) store out
      → (out' : List ℕ) → out' ≡ part_out (mine i x) store out → (r ≡ handed_of o x store out) × (out' ≡ out_after o x store out)
  unfolding handed_of out_after handed_for out_for
  hands_part o i e f r g out' q = rw (e, f, g, q) (refl, refl)

pub part_lies : (x : Networks) (store : List ℕ) (i : Network) → possible_of x (length store) ≡ true → InRooms (mine i x).gathering.held (mine i x).rooms store
part_lies x store i f = let s = sound_of i x (networks_are x (length store) f) in in_rooms _ (mine i x) store s.own s.roomy
