-- Laws of the pieces of a capture: the section that begins it, or the bytes before the first one.
use Prim.Native.Nat.{ℕ, zero, suc, ◌+◌, ◌-◌, ◌≤◌, ◌<◌}
use mathlib.Core.Bool.{Bool, true, false}
use mathlib.Core.List.{List, [], ◌∷◌, ◌++◌}
use mathlib.Core.Path.{◌≡◌, refl, sym, ap, ◌∙◌}
use native.Mathlib.Omega.{arith}
use native.Mathlib.Numerals.{add-one}
use lib.ListN.{length, get_or, take, drop, length-drop, drop_of_length-le}
use lib.Seq.{take_all, drop-cons}
use Rattle.std.specs.Prelude.{if◌then◌else◌}
use Rattle.salvage.specs.Reading.{stated, begins, good_length, gap, Piece, kept, skipped, skip, pieces_after, pieces, Next}
use Rattle.salvage.proofs.Begins.{begins_long, begins_none, length_some, length_none, length_kept}

-- ---- the first piece

passed : (n : ℕ) (s : List ℕ) → pieces_after n s ≡ pieces (drop n s)
unfolding pieces_after
passed zero s = refl
passed (suc n) [] = refl
passed (suc n) (b ∷ s) = passed n s

after_first : (n b : ℕ) (s : List ℕ) → 0 < n → pieces_after (n - 1) s ≡ pieces (drop n (b ∷ s))
after_first zero b s h = absurd (omega arith)
after_first (suc n) b s h = ap (λ (k : ℕ). pieces_after k s) k ∙ passed n s
  where
    k : suc n - 1 ≡ n
    k = omega arith

pub kept_first : (s : List ℕ) → begins s ≡ true → pieces s ≡ kept (stated s) ∷ pieces (drop (length (stated s)) s)
unfolding pieces_after
kept_first [] e = absurd (let l = begins_long [] e in omega arith)
kept_first (b ∷ s) e = rw e (ap (λ ps. kept (stated (b ∷ s)) ∷ ps) (after_first _ b s (omega (arith, begins_long (b ∷ s) e))))

skipped_first : (b : ℕ) (s : List ℕ) → begins (b ∷ s) ≡ false → pieces (b ∷ s) ≡ skip b (pieces s)
unfolding pieces_after
skipped_first b s e = rw e

pub pieces_none : pieces [] ≡ []
unfolding pieces_after
pieces_none = refl

-- ---- the bytes before the first section

pub gap_none : gap [] ≡ 0
unfolding gap
gap_none = refl

pub gap_here : (s : List ℕ) → begins s ≡ true → gap s ≡ 0
unfolding gap
gap_here [] e = refl
gap_here (b ∷ s) e = rw e

pub gap_next : (b : ℕ) (s : List ℕ) → begins (b ∷ s) ≡ false → gap (b ∷ s) ≡ suc (gap s)
unfolding gap
gap_next b s e = rw e

-- at a place of a capture
pub gap_at_end : (s : List ℕ) (i : ℕ) → length s ≤ i → gap (drop i s) ≡ 0
gap_at_end s i h = rw (drop_of_length-le s h) gap_none

pub gap_at_other : (s : List ℕ) (i : ℕ) → i < length s → begins (drop i s) ≡ false → gap (drop i s) ≡ suc (gap (drop (i + 1) s))
gap_at_other s i h e =
    rw (add-one, drop-cons s i 0 h) (gap_next (get_or s i 0) (drop (suc i) s) (ap begins (sym (drop-cons s i 0 h)) ∙ e))

-- what a byte more is, by whether a section begins with it
by_first : (A : List ℕ → Type 0) (s : List ℕ) → A [] → ((b : ℕ) (t : List ℕ) → begins (b ∷ t) ≡ true → A (b ∷ t))
    → ((b : ℕ) (t : List ℕ) → begins (b ∷ t) ≡ false → A t → A (b ∷ t)) → A s
by_first A [] none here next = none
by_first A (b ∷ t) none here next = by (begins (b ∷ t)) refl (by_first A t none here next)
  where
    by : (x : Bool) → begins (b ∷ t) ≡ x → A t → A (b ∷ t)
    by true e h = here b t e
    by false e h = next b t e h

pub gap_within : (s : List ℕ) → gap s ≤ length s
gap_within s =
    by_first (λ t. gap t ≤ length t) s
    (omega (arith, gap_none))
    (λ b t e. omega (arith, gap_here (b ∷ t) e))
    (λ b t e h. omega (arith, gap_next b t e))

-- behind them a section begins, or nothing is left
pub gap_stops : (s : List ℕ) → begins (drop (gap s) s) ≡ false → gap s ≡ length s
gap_stops s =
    by_first (λ t. begins (drop (gap t) t) ≡ false → gap t ≡ length t) s
    (λ e. gap_none)
    (λ b t e k. absurd (let j = rw (gap_here (b ∷ t) e) at k in let z : ◌≡◌ {A = ℕ} 0 1 = cc in omega arith))
    (λ b t e h k. gap_next b t e ∙ ap suc (h (rw (gap_next b t e) at k)))

pub gap_skips : (s : List ℕ) (i : ℕ) → i < gap s → begins (drop i s) ≡ false
gap_skips s =
    by_first (λ t. (i : ℕ) → i < gap t → begins (drop i t) ≡ false) s
    (λ i h. absurd (omega (arith, gap_none)))
    (λ b t e i h. absurd (omega (arith, gap_here (b ∷ t) e)))
    step
  where
    step : (b : ℕ) (t : List ℕ) → begins (b ∷ t) ≡ false → ((i : ℕ) → i < gap t → begins (drop i t) ≡ false)
        → (i : ℕ) → i < gap (b ∷ t) → begins (drop i (b ∷ t)) ≡ false
    step b t e h zero k = e
    step b t e h (suc i) k = h i (omega (arith, gap_next b t e))

-- the piece of some bytes; of none there is none
abbrev pub skipped_of : List ℕ → List Piece
skipped_of [] = []
skipped_of (b ∷ s) = skipped (b ∷ s) ∷ []

skip_onto : (b : ℕ) (t u : List ℕ) → skip b (pieces u) ≡ skipped (b ∷ []) ∷ pieces u → skip b (skipped_of t ++ pieces u) ≡ skipped (b ∷ t) ∷ pieces u
skip_onto b [] u e = e
skip_onto b (c ∷ t) u e = refl

-- a byte skipped before a section, or before the end, is a piece of its own
skip_before : (b : ℕ) (u : List ℕ) → gap u ≡ 0 → skip b (pieces u) ≡ skipped (b ∷ []) ∷ pieces u
skip_before b [] z = rw pieces_none
skip_before b (c ∷ u) z = by (begins (c ∷ u)) refl
  where
    by : (x : Bool) → begins (c ∷ u) ≡ x → skip b (pieces (c ∷ u)) ≡ skipped (b ∷ []) ∷ pieces (c ∷ u)
    by true e = rw (kept_first (c ∷ u) e)
    by false e = absurd (omega (arith, gap_next c u e))

-- no bytes stand before the first section that comes after those
pub gap_gone : (s : List ℕ) → gap (drop (gap s) s) ≡ 0
gap_gone s = by (begins (drop (gap s) s)) refl
  where
    by : (x : Bool) → begins (drop (gap s) s) ≡ x → gap (drop (gap s) s) ≡ 0
    by true e = gap_here _ e
    by false e = gap_at_end s (gap s) (omega (arith, gap_stops s e))

pub gap_pieces : (s : List ℕ) → pieces s ≡ skipped_of (take (gap s) s) ++ pieces (drop (gap s) s)
gap_pieces s =
    by_first (λ t. pieces t ≡ skipped_of (take (gap t) t) ++ pieces (drop (gap t) t)) s
    (rw gap_none)
    (λ b t e. rw (gap_here (b ∷ t) e))
    (λ b t e h. rw (gap_next b t e) (skipped_first b t e ∙ ap (skip b) h ∙ skip_onto b _ _ (skip_before b _ (gap_gone t))))

-- ---- the next section from a place on

pub tail_part : (s : List ℕ) (at : ℕ) → take (length s - at) (drop at s) ≡ drop at s
tail_part s at = take_all (length s - at) (drop at s) (rw length-drop (omega arith))

pub next_found : (s : List ℕ) (from at size : ℕ) → at ≤ length s → at + gap (drop at s) ≡ from + gap (drop from s)
    → size ≡ good_length (drop at s) → (size ≡ 0 → ⊥) → Next s from at size
next_found s from at size h e g some =
    let b = length_kept (drop at s) (λ z. some (g ∙ z)) in
    let n = length_some (drop at s) b in
    record {
      after = omega (arith, gap_here (drop at s) b);
      long = g;
      within = omega (arith, begins_long (drop at s) b, length-drop at s);
    }

pub next_none : (s : List ℕ) (from at : ℕ) → at ≤ length s → length s ≤ at → at + gap (drop at s) ≡ from + gap (drop from s) → Next s from at 0
next_none s from at h h' e =
    record {
      after = omega (arith, gap_at_end s at h');
      long = sym (length_none (drop at s) (rw (drop_of_length-le s h') begins_none));
      within = omega arith;
    }

-- it is a step on
pub next_goes : (s : List ℕ) (from at size : ℕ) → Next s from at size → from < length s → from < at + size
next_goes s from at size next h = by (begins (drop from s)) refl
  where
    by : (x : Bool) → begins (drop from s) ≡ x → from < at + size
    by true e =
        let here : at ≡ from = omega (arith, next.after, gap_here (drop from s) e) in
        let long = next.long ∙ ap (λ (k : ℕ). good_length (drop k s)) here ∙ length_some (drop from s) e in
        omega (arith, begins_long (drop from s) e)
    by false e = omega (arith, next.after, gap_at_other s from h e)
