-- Laws of lines: the first line and the rest, found by a line's length.
use Prim.Native.Nat.{ℕ, suc, ◌+◌, ◌-◌, ◌≤◌, ◌<◌}
use mathlib.Core.Bool.{Bool, true, false, cond}
use mathlib.Core.Path.{◌≡◌, refl, sym, ap, ◌∙◌}
use mathlib.Core.Logic.{⊎_elim}
use mathlib.Core.List.{List, [], ◌∷◌, ◌++◌}
use native.Mathlib.Omega.{arith}
use native.Mathlib.Numerals.{add-one}
use borrow.Author.Tests.{le-leb, lt-leb, lt-ltb, le-ltb}
use lib.Dec.{eqb, ltb}
use lib.ListN.{length, take, drop, length-drop, drop_of_length-le}
use lib.Seq.{drop-drop}
use Rattle.std.specs.List.{position, position_or_len}
use Rattle.std.specs.Option.{unwrap_or}
use Rattle.std.specs.Prelude.{Some, None}
use Rattle.program_printing.proofs.Digits.{below_or_not}
use Rattle.std.proofs.lemmas.List.Recursion.{is_position_or_len}
use Rattle.program_printing.specs.Characters.{ascii}
use Rattle.program_date_lines.specs.Report.{on_first, lines_of, line_of, numbered, header, report_of}
use Rattle.program_date_lines.specs.Lines.{line_length}

-- ---- the first LF, or the end

length_position : (s : List ℕ) → line_length s ≡ position_or_len (λ b. eqb b 10) s
unfolding line_length
length_position s =
    is_position_or_len line_length (λ b. eqb b 10) refl (λ b r. ap (λ n. cond (eqb b 10) 0 n) (omega arith)) s

pub length_within : (s : List ℕ) → line_length s ≤ length s
unfolding line_length
length_within [] = omega arith
length_within (b ∷ s) = by (eqb b 10) (length_within s)
  where
    by : (t : Bool) → line_length s ≤ length s → cond t 0 (suc (line_length s)) ≤ suc (length s)
    by true h = omega arith
    by false h = omega arith

found_or_end : (n l : ℕ) → n ≤ l → unwrap_or (cond (ltb n l) (Some n) None) l ≡ n
found_or_end n l h =
    ⊎_elim
    (λ found. rw (lt-ltb n l found))
    (λ not_found. rw (le-ltb n l not_found) (omega arith))
    (below_or_not n l)

pub end_found : (s : List ℕ) → unwrap_or (position (λ b. eqb b 10) s) (length s) ≡ line_length s
end_found s = let e = length_position s in
    found_or_end _ (length s) (omega (arith, e, length_within s)) ∙ sym e

-- ---- the first line and the rest

abbrev parted : List ℕ → ℕ → List (List ℕ)
parted s n = take n s ∷ lines_of (drop (suc n) s)

first_alone : (b : ℕ) (t : Bool) → cond t ([] ∷ []) (on_first b []) ≡ parted (b ∷ []) (cond t 0 1)
unfolding lines_of
first_alone b true = refl
first_alone b false = refl

first_of : (b : ℕ) (s : List ℕ) (t : Bool) → lines_of s ≡ parted s (line_length s)
    → cond t ([] ∷ lines_of s) (on_first b (lines_of s)) ≡ parted (b ∷ s) (cond t 0 (suc (line_length s)))
first_of b s true e = refl
first_of b s false e = ap (on_first b) e

pub first_line : (s : List ℕ) → 0 < length s → lines_of s ≡ parted s (line_length s)
unfolding lines_of line_length
first_line [] h = absurd (omega arith)
first_line (b ∷ []) h = first_alone b (eqb b 10)
first_line (b ∷ c ∷ s) h = first_of b (c ∷ s) (eqb b 10) (first_line (c ∷ s) (omega arith))

pub numbered_none : (number : ℕ) (s : List ℕ) (i : ℕ) → length s ≤ i → numbered number (lines_of (drop i s)) ≡ []
unfolding lines_of numbered
numbered_none number s i h = rw (drop_of_length-le s h)

-- one line, and the lines after it
pub numbered_turn : (number : ℕ) (s : List ℕ) (from end : ℕ) → from < length s → end ≡ from + line_length (drop from s)
    → numbered number (lines_of (drop from s)) ≡ line_of number (take (end - from) (drop from s)) ++ numbered (number + 1) (lines_of (drop (end + 1) s))
unfolding numbered
numbered_turn number s from end h e =
    rw (first_line (drop from s) (simp length-drop (omega arith)), drop-drop, add-one number, n, m)
  where
    n : end - from ≡ line_length (drop from s)
    n = omega arith

    m : end + 1 ≡ from + suc (line_length (drop from s))
    m = omega arith

-- ---- the whole report

pub report_lines : (s : List ℕ) → length s ≤ 65536 → report_of s ≡ header ++ numbered 1 (lines_of s)
unfolding report_of
report_lines s h = rw (le-leb (length s) 65536 h)

pub report_over : (s : List ℕ) → 65536 < length s → report_of s ≡ header ++ ascii "0 refused 22\n"
unfolding report_of
report_over s h = rw (lt-leb (length s) 65536 h)
