-- Laws of the sections that begin at a pointer: one section after the other, and what the search for them has found so far.
use Prim.Native.Nat.{ℕ, zero, suc, ◌+◌, ◌-◌, ◌≤◌}
use mathlib.Core.Bool.{Bool, true, false, ◌&&◌}
use mathlib.Core.List.{List, [], ◌∷◌, ◌++◌, append_assoc, append-nil}
use mathlib.Core.Path.{◌≡◌, refl, sym, ap, ap₂, ◌∙◌, subst}
use native.Mathlib.Omega.{arith}
use borrow.Author.Tests.{leb-true}
use lib.Dec.{leb}
use lib.ListN.{length, take, drop, length-drop}
use lib.Seq.{take-add, drop-drop, drop-length}
use Rattle.std.specs.Prelude.{if◌then◌else◌}
use Rattle.ground_choices.proofs.Tests.{both}
use Rattle.packet_frames.specs.declared.Frame.{Frame}
use Rattle.packet_frames.specs.declared.Frame.TheVariants.{Nothing, Whole, Open}
use Rattle.packet_frames.specs.Framing.{at_stuffing, framed, too_long, is_whole, Read, nothing, before, begun_in, begun, joined}
use Rattle.packet_frames.specs.Found.{frame_of, front_of, Scanned}
use Rattle.packet_frames.proofs.Frames.{framed_least}

-- one turn of the search, with what is found after a whole section
abbrev pub turn : List ℕ → Read → Read
turn d r =
    if at_stuffing d then nothing else
    if too_long d then nothing else
    if is_whole d then before (take (framed d) d) r else
    record { sections = []; unfinished = d }

-- turns enough are enough
begun_turns : (n m : ℕ) (d : List ℕ) → length d ≤ n → length d ≤ m → begun_in n d ≡ begun_in m d
unfolding begun_in at_stuffing
begun_turns zero zero d h k = refl
begun_turns zero (suc m) [] h k = refl
begun_turns zero (suc m) (b ∷ bs) h k = absurd (omega arith)
begun_turns (suc n) zero [] h k = refl
begun_turns (suc n) zero (b ∷ bs) h k = absurd (omega arith)
begun_turns (suc n) (suc m) d h k =
    let f = framed_least d in
    let l = length-drop (framed d) d in
    let e = begun_turns n m (drop (framed d) d) (omega arith) (omega arith) in
    ap (turn d) e

-- the sections in some bytes, with no count of turns
pub begun_is : (d : List ℕ) → begun d ≡ turn d (begun (drop (framed d) d))
unfolding begun begun_in at_stuffing
begun_is [] = refl
begun_is (b ∷ bs) =
    let d = b ∷ bs in
    let f = framed_least d in
    let l = length-drop (framed d) d in
    let e = begun_turns (length bs) (length (drop (framed d) d)) (drop (framed d) d) (omega arith) (omega arith) in
    ap (turn d) e

abbrev Stepped : List ℕ → Frame → Type 0
Stepped d Nothing = begun d ≡ nothing
Stepped d (Whole n) = (begun d ≡ before (take n d) (begun (drop n d))) × (3 ≤ n) × (n ≤ length d)
Stepped d Open = begun d ≡ record { sections = []; unfinished = d }

stepped : (d : List ℕ) → Stepped d (front_of d)
unfolding front_of frame_of is_whole
stepped d = go (at_stuffing d) refl (too_long d) refl (leb 3 (length d) && leb (framed d) (length d)) refl (begun_is d)
  where
    go : (a : Bool) → at_stuffing d ≡ a → (b : Bool) → too_long d ≡ b → (c : Bool) → (leb 3 (length d) && leb (framed d) (length d)) ≡ c
        → begun d
        ≡ (if a then nothing else
        if b then nothing else
        if c then before (take (framed d) d) (begun (drop (framed d) d)) else
        record { sections = []; unfinished = d })
        → Stepped d (if a then Nothing else if b then Nothing else if c then Whole (framed d) else Open)
    go true x b y c z e = e
    go false x true y c z e = e
    go false x false y true z e = (e, framed_least d, leb-true (framed d) (length d) (both (leb 3 (length d)) (leb (framed d) (length d)) z).1)
    go false x false y false z e = e

pub front_step : (d : List ℕ) (f : Frame) → f ≡ front_of d → Stepped d f
front_step d f e = subst (Stepped d) (sym e) (stepped d)

-- what is found up to `at`, and what is still to be found
pub record Finding (d : List ℕ) (at : ℕ) : Type 0 where
  pub within : at ≤ length d
  pub sections : joined (begun d).sections ≡ take at d ++ joined (begun (drop at d)).sections
  pub unfinished : (begun d).unfinished ≡ (begun (drop at d)).unfinished

pub finding_start : (d : List ℕ) → Finding d 0
finding_start d = record { within = omega arith; sections = refl; unfinished = refl }

module _ (d : List ℕ) (at : ℕ) (v : Finding d at) where
  pub finding_nothing : Nothing ≡ front_of (drop at d) → Scanned d (record { stop = at; left = length d })
  unfolding nothing joined
  finding_nothing e =
      let s = front_step (drop at d) Nothing e in
      record {
        within = v.within;
        left_within = omega arith;
        sections = v.sections ∙ ap (λ r. take at d ++ joined r.sections) s ∙ append-nil (take at d);
        unfinished = v.unfinished ∙ ap (λ r. r.unfinished) s ∙ sym (drop-length d);
      }

  pub finding_open : Open ≡ front_of (drop at d) → Scanned d (record { stop = at; left = at })
  unfolding joined
  finding_open e =
      let s = front_step (drop at d) Open e in
      record {
        within = v.within;
        left_within = v.within;
        sections = v.sections ∙ ap (λ r. take at d ++ joined r.sections) s ∙ append-nil (take at d);
        unfinished = v.unfinished ∙ ap (λ r. r.unfinished) s;
      }

  pub finding_whole : (n : ℕ) → Whole n ≡ front_of (drop at d) → Finding d (at + n) × (3 ≤ n)
  unfolding before joined
  finding_whole n e =
      let s = front_step (drop at d) (Whole n) e in
      let l = length-drop at d in
      let w = v.within in
      let h = s.1 in
      let k = s.2 in (
        record {
          within = omega arith;
          sections =
              v.sections
              ∙ ap (λ r. take at d ++ joined r.sections) s.0
              ∙ sym (append_assoc (take at d) (take n (drop at d)) (joined (begun (drop n (drop at d))).sections))
              ∙ ap₂ (λ x y. x ++ joined (begun y).sections) (sym (take-add at n d)) (drop-drop n at d);
          unfinished = v.unfinished ∙ ap (λ r. r.unfinished) s.0 ∙ ap (λ y. (begun y).unfinished) (drop-drop n at d);
        },
        h,
      )
