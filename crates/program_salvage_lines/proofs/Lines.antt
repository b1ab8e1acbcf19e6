-- Laws of the list's lines: one run, a turn of reading, and the whole.
use Prim.Native.Nat.{ℕ, ◌+◌, ◌-◌, ◌≤◌, ◌<◌}
use mathlib.Core.Bool.{Bool, true, false}
use mathlib.Core.List.{List, [], ◌∷◌, ◌++◌, append_assoc, append-nil}
use mathlib.Core.Path.{◌≡◌, refl, ap, ◌∙◌}
use borrow.Author.Tests.{lt-ltb, le-ltb}
use lib.ListN.{length, drop}
use Rattle.salvage.specs.Reading.{Next}
use Rattle.salvage.specs.Runs.{Run, run_at, runs_of}
use Rattle.salvage.specs.Salvage.{capture_most}
use Rattle.salvage.proofs.Turns.{run_none, run_some, runs_left, runs_turn, runs_end, runs_whole}
use Rattle.program_printing.specs.Characters.{ascii, decimal_of}
use Rattle.program_salvage_lines.specs.Report.{word_of, line_of, lines_of, header, report_of}

pub lines_none : lines_of [] ≡ []
unfolding lines_of
lines_none = refl

pub line_none : (k : Bool) (first size : ℕ) → size ≡ 0 → lines_of (run_at k first size) ≡ []
line_none k first size e = rw (e, run_none k first) lines_none

-- a line after its word, after its first offset, and after the space behind that
abbrev pub after_space : ℕ → List ℕ
after_space size = decimal_of size ++ ascii "\n"

abbrev pub after_first : ℕ → List ℕ
after_first size = ascii " " ++ after_space size

abbrev pub after_word : ℕ → ℕ → List ℕ
after_word first size = decimal_of first ++ after_first size

pub line_some : (k : Bool) (first size : ℕ) → (size ≡ 0 → ⊥)
    → lines_of (run_at k first size) ≡ word_of k ++ after_word first size
unfolding lines_of line_of
line_some k first size h = rw (run_some k first size h, append-nil)

lines_append : (rs qs : List Run) → lines_of (rs ++ qs) ≡ lines_of rs ++ lines_of qs
unfolding lines_of
lines_append [] qs = refl
lines_append (r ∷ rs) qs = ap (λ l. line_of r ++ l) (lines_append rs qs) ∙ rw append_assoc

-- a turn of reading: the lines of the gap and of the section, and then the others
module _ (s : List ℕ) (from at size : ℕ) (next : Next s from at size) where
  pub lines_turn : lines_of (runs_left s from) ≡ lines_of (run_at false from (at - from)) ++ (lines_of (run_at true at size) ++ lines_of (runs_left s (at + size)))
  lines_turn =
      ap lines_of (runs_turn s from at size next) ∙ lines_append (run_at false from (at - from)) _
      ∙ ap (λ l. lines_of (run_at false from (at - from)) ++ l) (lines_append (run_at true at size) _)

pub lines_end : (s : List ℕ) (from : ℕ) → length s ≤ from → lines_of (runs_left s from) ≡ []
lines_end s from h = rw (runs_end s from h) lines_none

pub lines_whole : (s : List ℕ) → lines_of (runs_left s 0) ≡ lines_of (runs_of s)
lines_whole s = ap lines_of (runs_whole s)

-- ---- the whole list

pub report_lines : (s : List ℕ) → length s ≤ capture_most → report_of s ≡ header ++ lines_of (runs_of s)
unfolding report_of
report_lines s h = rw (le-ltb capture_most (length s) h)

pub report_over : (s : List ℕ) → capture_most < length s → report_of s ≡ header ++ ascii "refused 36\n"
unfolding report_of
report_over s h = rw (lt-ltb capture_most (length s) h)
