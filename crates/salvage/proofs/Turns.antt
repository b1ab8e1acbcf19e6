-- Laws of a turn of reading: from a place on, the runs are those of the next gap and the next section, and then the others; so are the
-- sections and the numbers.
use Prim.Native.Nat.{ℕ, zero, suc, ◌+◌, ◌-◌, ◌*◌, ◌/◌, ◌≤◌}
use mathlib.Core.Bool.{Bool, true, false}
use mathlib.Core.List.{List, [], ◌∷◌, ◌++◌}
use mathlib.Core.Path.{◌≡◌, refl, sym, ap, ◌∙◌}
use native.Mathlib.Nat.{add-zero}
use native.Mathlib.Numerals.{towards_suc}
use native.Mathlib.Omega.{arith}
use borrow.Author.Tests.{ne_eqb}
use lib.ListN.{length, take, drop, set, length-append, length-drop, drop_of_length-le}
use lib.Seq.{length-take-le, drop-drop}
use Rattle.crc.specs.Crc.{digit}
use Rattle.ground_placing.specs.Placed.{placed}
use Rattle.ground_placing.specs.Put.{Put}
use Rattle.ground_placing.proofs.Placing.{stored}
use Rattle.ground_placing.proofs.Putting.{put_none}
use Rattle.salvage.specs.Reading.{stated, begins, good_length, gap, Next, Piece, pieces, sections_of}
use Rattle.salvage.specs.Runs.{Run, runs_from, runs_of, run_at, numbers_of}
use Rattle.salvage.specs.Salvage.{sections, numbers}
use Rattle.salvage.proofs.Begins.{begins_long, begins_none, stated_part, length_some, length_none}
use Rattle.salvage.proofs.Pieces.{kept_first, pieces_none, gap_next, gap_within, gap_gone, skipped_of, gap_pieces}

-- ---- the run of so many bytes

pub run_none : (k : Bool) (at : ℕ) → run_at k at 0 ≡ []
unfolding run_at
run_none k at = refl

pub run_some : (k : Bool) (at n : ℕ) → (n ≡ 0 → ⊥) → run_at k at n ≡ record { is_kept = k; first = at; size = n } ∷ []
unfolding run_at
run_some k at n h = rw (ne_eqb n 0 h)

-- how many it is does not hang on where it stands
run_counted : (k : Bool) (at n : ℕ) → length (run_at k at n) ≡ length (run_at true 0 n)
unfolding run_at
run_counted k at zero = refl
run_counted k at (suc n) = rw (ne_eqb (suc n) 0 (λ h. omega arith))

pub numbers_none : (k : Bool) (at : ℕ) → numbers_of (run_at k at 0) ≡ []
unfolding numbers_of
numbers_none k at = rw (run_none k at)

pub numbers_some : (k : Bool) (at n : ℕ) → (n ≡ 0 → ⊥) → numbers_of (run_at k at n) ≡ digit k ∷ at ∷ n ∷ []
unfolding numbers_of
numbers_some k at n h = rw (run_some k at n h)

-- ---- what is made of the runs, one list after the other

pub numbers_append : (rs qs : List Run) → numbers_of (rs ++ qs) ≡ numbers_of rs ++ numbers_of qs
unfolding numbers_of
numbers_append [] qs = refl
numbers_append (r ∷ rs) qs = ap (λ l. digit r.is_kept ∷ r.first ∷ r.size ∷ l) (numbers_append rs qs)

pub numbers_length : (rs : List Run) → length (numbers_of rs) ≡ length rs * 3
unfolding numbers_of
numbers_length [] = refl
numbers_length (r ∷ rs) = omega (arith, numbers_length rs)

-- a run of some bytes has three numbers
pub three_numbers : (k : Bool) (at n : ℕ) → (n ≡ 0 → ⊥) → length (numbers_of (run_at k at n)) ≡ 3
three_numbers k at n h = ap length (numbers_some k at n h)

-- a run put
pub put_no_run : (d : List ℕ) (k : Bool) (at first size : ℕ) → size ≡ 0 → at ≤ length d → Put d at (numbers_of (run_at k first size)) d at
put_no_run d k at first size e h = rw (e, numbers_none k first) (put_none d at h)

pub put_a_run : (d : List ℕ) (k : Bool) (at first size mark : ℕ) → (size ≡ 0 → ⊥) → mark ≡ digit k → at + length (numbers_of (run_at k first size)) ≤ length d
    → Put d at (numbers_of (run_at k first size)) (set (set (set d at mark) (at + 1) first) (at + 2) size) (at + 3)
put_a_run d k at first size mark some e room =
    let n = numbers_some k first size some in
    let l = ap length n in
    record {
      fits = room;
      written = rw (n, e) (simp towards_suc (stored d at (digit k ∷ first ∷ size ∷ []) (omega arith)));
      after = omega arith;
    }

-- a section put, as a part of the capture
pub put_section : (s d e : List ℕ) (b at n : ℕ) → at + n ≤ length s → b + length (take n (drop at s)) ≤ length d
    → e ≡ placed d b (take (at + n - at) (drop at s)) → Put d b (take n (drop at s)) e (b + n)
put_section s d e b at n within room is =
    let size : at + n - at ≡ n = omega arith in
    let long = length-take-le n (drop at s) (rw length-drop (omega arith)) in
    record { fits = room; written = rw size at is; after = omega (arith, long) }

-- ---- the turn

-- a section that begins
module _ (s : List ℕ) (e : begins s ≡ true) where
  kept_now : (at : ℕ) → runs_from at (pieces s) ≡ run_at true at (good_length s) ++ runs_from (at + good_length s) (pieces (drop (good_length s) s))
  unfolding runs_from
  kept_now at =
      rw (length_some s e, run_some true at (length (stated s)) (λ h. omega (arith, begins_long s e))) (ap (runs_from at) (kept_first s e))

  section_now : sections_of (pieces s) ≡ take (good_length s) s ++ sections_of (pieces (drop (good_length s) s))
  unfolding sections_of
  section_now = rw (length_some s e, stated_part s) (ap sections_of (kept_first s e))

-- where no bytes stand before the first section, it comes next, or nothing is left
by_next : (A : List ℕ → Type 0) → A [] → ((t : List ℕ) → begins t ≡ true → A t) → (s : List ℕ) → gap s ≡ 0 → A s
by_next A none here [] z = none
by_next A none here (b ∷ s) z = by (begins (b ∷ s)) refl
  where
    by : (x : Bool) → begins (b ∷ s) ≡ x → A (b ∷ s)
    by true e = here (b ∷ s) e
    by false e = absurd (omega (arith, gap_next b s e))

kept_next : (at : ℕ) (s : List ℕ) → gap s ≡ 0
    → runs_from at (pieces s) ≡ run_at true at (good_length s) ++ runs_from (at + good_length s) (pieces (drop (good_length s) s))
kept_next at =
    by_next (λ t. runs_from at (pieces t) ≡ run_at true at (good_length t) ++ runs_from (at + good_length t) (pieces (drop (good_length t) t)))
    (rw (length_none [] begins_none, run_none true at, add-zero))
    (λ t e. kept_now t e at)

kept_sections : (s : List ℕ) → gap s ≡ 0 → sections_of (pieces s) ≡ take (good_length s) s ++ sections_of (pieces (drop (good_length s) s))
kept_sections =
    by_next (λ t. sections_of (pieces t) ≡ take (good_length t) t ++ sections_of (pieces (drop (good_length t) t)))
    (rw (length_none [] begins_none))
    section_now

gap_runs : (at : ℕ) (t : List ℕ) (ps : List Piece) → runs_from at (skipped_of t ++ ps) ≡ run_at false at (length t) ++ runs_from (at + length t) ps
unfolding runs_from
gap_runs at [] ps = rw (run_none false at, add-zero)
gap_runs at (b ∷ t) ps = rw (run_some false at (suc (length t)) (λ h. omega arith))

gap_sections : (t : List ℕ) (ps : List Piece) → sections_of (skipped_of t ++ ps) ≡ sections_of ps
unfolding sections_of
gap_sections [] ps = refl
gap_sections (b ∷ t) ps = refl

-- the runs, the sections and the numbers from a place of the capture on
abbrev pub runs_left : List ℕ → ℕ → List Run
runs_left s from = runs_from from (pieces (drop from s))

abbrev pub sections_left : List ℕ → ℕ → List ℕ
sections_left s from = sections_of (pieces (drop from s))

abbrev pub numbers_left : List ℕ → ℕ → List ℕ
numbers_left s from = numbers_of (runs_left s from)

module _ (s : List ℕ) (from at size : ℕ) (next : Next s from at size) where
  rest : drop (gap (drop from s)) (drop from s) ≡ drop at s
  rest = drop-drop (gap (drop from s)) from s ∙ ap (λ (n : ℕ). drop n s) (sym next.after)

  passed_by : length (take (gap (drop from s)) (drop from s)) ≡ at - from
  passed_by = length-take-le (gap (drop from s)) (drop from s) (gap_within (drop from s)) ∙ omega (arith, next.after)

  none_before : gap (drop at s) ≡ 0
  none_before = ap gap (sym rest) ∙ gap_gone (drop from s)

  seam : from + (at - from) ≡ at
  seam = omega (arith, next.after)

  behind : drop size (drop at s) ≡ drop (at + size) s
  behind = drop-drop size at s

  kept_run : runs_left s at ≡ run_at true at size ++ runs_left s (at + size)
  kept_run = kept_next at (drop at s) none_before ∙ rw (sym next.long, behind)

  pub runs_turn : runs_left s from ≡ run_at false from (at - from) ++ (run_at true at size ++ runs_left s (at + size))
  runs_turn =
      ap (runs_from from) (gap_pieces (drop from s))
      ∙ gap_runs from (take (gap (drop from s)) (drop from s)) (pieces (drop (gap (drop from s)) (drop from s)))
      ∙ rw (passed_by, rest, seam) (ap (λ l. run_at false from (at - from) ++ l) kept_run)

  pub sections_turn : sections_left s from ≡ take size (drop at s) ++ sections_left s (at + size)
  sections_turn =
      ap sections_of (gap_pieces (drop from s))
      ∙ gap_sections (take (gap (drop from s)) (drop from s)) (pieces (drop (gap (drop from s)) (drop from s)))
      ∙ rw rest (kept_sections (drop at s) none_before ∙ rw (sym next.long, behind))

  pub numbers_turn : numbers_left s from ≡ numbers_of (run_at false from (at - from)) ++ (numbers_of (run_at true at size) ++ numbers_left s (at + size))
  numbers_turn =
      ap numbers_of runs_turn ∙ numbers_append (run_at false from (at - from)) _
      ∙ ap (λ l. numbers_of (run_at false from (at - from)) ++ l) (numbers_append (run_at true at size) _)

  pub count_turn : length (runs_left s from) ≡ length (run_at true 0 (at - from)) + (length (run_at true 0 size) + length (runs_left s (at + size)))
  count_turn =
      ap length runs_turn ∙ length-append (run_at false from (at - from)) _
      ∙ rw (length-append (run_at true at size) (runs_left s (at + size)), run_counted false from (at - from), run_counted true at size)

  pub sections_length : length (sections_left s from) ≡ size + length (sections_left s (at + size))
  sections_length =
      ap length sections_turn ∙ length-append (take size (drop at s)) _
      ∙ ap (λ (n : ℕ). n + length (sections_left s (at + size)))
      (length-take-le size (drop at s) (rw length-drop (omega (arith, next.within))))

-- at the end nothing is left
module _ (s : List ℕ) (from : ℕ) (h : length s ≤ from) where
  pub runs_end : runs_left s from ≡ []
  unfolding runs_from
  runs_end = rw (drop_of_length-le s h, pieces_none)

  pub sections_end : sections_left s from ≡ []
  unfolding sections_of
  sections_end = rw (drop_of_length-le s h, pieces_none)

  pub numbers_end : numbers_left s from ≡ []
  unfolding numbers_of
  numbers_end = rw runs_end

-- and from the start on all is
module _ (s : List ℕ) where
  pub runs_whole : runs_left s 0 ≡ runs_of s
  unfolding runs_of
  runs_whole = refl

  pub sections_whole : sections_left s 0 ≡ sections s
  unfolding sections
  sections_whole = refl

  pub numbers_whole : numbers_left s 0 ≡ numbers s
  unfolding numbers runs_of
  numbers_whole = refl

  -- three numbers tell a run
  pub runs_told : (n : ℕ) → n ≡ length (numbers s) → n / 3 ≡ length (runs_of s)
  unfolding numbers
  runs_told n e = omega (arith, numbers_length (runs_of s))
