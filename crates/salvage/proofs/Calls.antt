-- Laws of the call: each way out, from what leads to it, and that a refused call writes nothing.
use Prim.Native.Nat.{ℕ, ◌≤◌, ◌<◌}
use mathlib.Core.Bool.{Bool, true, false, ◌&&◌, ◌||◌}
use mathlib.Core.List.{List}
use mathlib.Core.Path.{◌≡◌, refl, sym, ap}
use native.Mathlib.Omega.{arith}
use borrow.Author.Tests.{leb-true, leb-false, ltb-false, lt-ltb, le-ltb}
use lib.Dec.{leb, ltb}
use lib.ListN.{length}
use Rattle.std.specs.Prelude.{if◌then◌else◌, Ok, Err}
use Rattle.ground_choices.proofs.Tests.{both}
use Rattle.ground_refusal.proofs.Exits.{ok_pair_inj}
use Rattle.ground_refusal.specs.Numbers.{refusal_place}
use Rattle.ground_refusal.specs.declared.Refusal.{Refusal}
use Rattle.ground_refusal.specs.declared.Refusal.TheVariants.{OutputTooSmall, CaptureTooLong}
use Rattle.salvage.specs.Runs.{runs_of}
use Rattle.salvage.specs.Salvage.{capture_most, sections, numbers, Verdict, refuses, writes, salvaging, answer_by, laid_by, salvage_of, output_after, list_after}

-- ---- the verdict

small : (a b r e : ℕ) → leb a r && leb b e ≡ false → (ltb r a || ltb e b) ≡ true
small a b r e = by (leb a r) refl
  where
    by : (x : Bool) → leb a r ≡ x → x && leb b e ≡ false → (ltb r a || ltb e b) ≡ true
    by false k h = rw (lt-ltb r a (leb-false a r k))
    by true k h = rw (le-ltb r a (leb-true a r k), lt-ltb e b (leb-false b e h))

enough : (a b r e : ℕ) → leb a r && leb b e ≡ true → (ltb r a || ltb e b) ≡ false
enough a b r e h =
    let t = both (leb a r) (leb b e) h in
    rw (le-ltb r a (leb-true a r t.0), le-ltb e b (leb-true b e t.1))

module _ (s : List ℕ) (room entries : ℕ) where
  pub too_long : capture_most < length s → salvaging s room entries ≡ refuses CaptureTooLong
  unfolding salvaging
  too_long h = rw (lt-ltb capture_most (length s) h)

  module _ (short : length s ≤ capture_most) where
    pub too_small : leb (length (sections s)) room && leb (length (numbers s)) entries ≡ false → salvaging s room entries ≡ refuses OutputTooSmall
    unfolding salvaging
    too_small h = rw (le-ltb capture_most (length s) short, small (length (sections s)) (length (numbers s)) room entries h)

    pub room_for : leb (length (sections s)) room && leb (length (numbers s)) entries ≡ true → salvaging s room entries ≡ writes
    unfolding salvaging
    room_for h = rw (le-ltb capture_most (length s) short, enough (length (sections s)) (length (numbers s)) room entries h)

-- ---- answer, output and list by the verdict

module _ (s out list : List ℕ) where
  pub by_verdict : (v : Verdict) → salvaging s (length out) (length list) ≡ v
      → (answer_by v s ≡ salvage_of s (length out) (length list))
      × ((laid_by v (sections s) out ≡ output_after s out list) × (laid_by v (numbers s) list ≡ list_after s out list))
  unfolding salvage_of output_after list_after
  by_verdict v e = (rw e, (rw e, rw e))

  -- "a refused call writes nothing"
  pub writes_nothing : (r : Refusal) → salvage_of s (length out) (length list) ≡ Err r → (output_after s out list ≡ out) × (list_after s out list ≡ list)
  unfolding salvage_of output_after list_after
  writes_nothing r = by (salvaging s (length out) (length list))
    where
      by : (v : Verdict) → answer_by v s ≡ Err r → (laid_by v (sections s) out ≡ out) × (laid_by v (numbers s) list ≡ list)
      by (refuses w) e = (refl, refl)
      by writes e = absurd (let z : ◌≡◌ {A = ℕ} 0 1 = cc in omega arith)

-- ---- what an answer says

neither : (x y : Bool) → (x || y) ≡ false → (x ≡ false) × (y ≡ false)
neither true y e = (cc, cc)
neither false y e = (refl, e)

-- what is answered where nothing is refused
pub record Answered (s : List ℕ) (room entries bytes runs : ℕ) : Type 0 where
  pub bytes_are : bytes ≡ length (sections s)
  pub runs_are : runs ≡ length (runs_of s)
  pub short : length s ≤ capture_most
  pub fits : bytes ≤ room

module _ (s : List ℕ) (room entries : ℕ) where
  abbrev small_room : Bool
  small_room = ltb room (length (sections s)) || ltb entries (length (numbers s))

  abbrev chosen : Bool → Bool → Verdict
  chosen x y = if x then refuses CaptureTooLong else if y then refuses OutputTooSmall else writes

  answered_by : (x y : Bool) → ltb capture_most (length s) ≡ x → small_room ≡ y → (bytes runs : ℕ) → answer_by (chosen x y) s ≡ Ok (bytes, runs)
      → Answered s room entries bytes runs
  answered_by true y k m bytes runs e = absurd (let z : ◌≡◌ {A = ℕ} 0 1 = cc in omega arith)
  answered_by false true k m bytes runs e = absurd (let z : ◌≡◌ {A = ℕ} 0 1 = cc in omega arith)
  answered_by false false k m bytes runs e =
      let p = ok_pair_inj e in
      let r = ltb-false room (length (sections s)) (neither _ _ m).0 in
      record { bytes_are = sym p.0; runs_are = sym p.1; short = ltb-false capture_most (length s) k; fits = omega (arith, p.0) }

  pub answered : (bytes runs : ℕ) → salvage_of s room entries ≡ Ok (bytes, runs) → Answered s room entries bytes runs
  unfolding salvage_of salvaging
  answered = answered_by (ltb capture_most (length s)) small_room refl refl

  refused_by : (x y : Bool) (r : Refusal) → answer_by (chosen x y) s ≡ Err r → refusal_place r ≡ 0
  refused_by true y r e = let z : CaptureTooLong ≡ r = cc in ap refusal_place (sym z)
  refused_by false true r e = let z : OutputTooSmall ≡ r = cc in ap refusal_place (sym z)
  refused_by false false r e = absurd (let z : ◌≡◌ {A = ℕ} 0 1 = cc in omega arith)

  -- no refusal has a place
  pub refused_place : (r : Refusal) → salvage_of s room entries ≡ Err r → refusal_place r ≡ 0
  unfolding salvage_of salvaging
  refused_place = refused_by (ltb capture_most (length s)) small_room
