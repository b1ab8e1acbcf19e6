-- No list of runs is longer than its header and 20 bytes for each of 10,083 runs.
use Prim.Native.Nat.{ℕ, ◌+◌, ◌*◌, ◌≤◌, ◌<◌}
use mathlib.Core.Bool.{Bool, true, false}
use mathlib.Core.List.{List, [], ◌∷◌, ◌++◌}
use mathlib.Core.Path.{◌≡◌, ap}
use native.Mathlib.Omega.{arith}
use lib.ListN.{length, length-append}
use Rattle.salvage.specs.Runs.{Run, runs_of}
use Rattle.salvage.specs.Salvage.{capture_most}
use Rattle.salvage.specs.Said.{Follow}
use Rattle.salvage.proofs.Standing.{runs_most}
use Rattle.salvage.proofs.Whole.{runs_follow}
use Rattle.program_printing.specs.Characters.{ascii, decimal_of}
use Rattle.program_printing.proofs.Digits.{decimal_most}
use Rattle.program_salvage_lines.specs.Report.{word_of, line_of, lines_of}

word_most : (k : Bool) → length (word_of k) ≤ 8
word_most true = omega arith
word_most false = omega arith

line_most : (r : Run) → r.first < 100000 → r.size < 100000 → length (line_of r) ≤ 20
unfolding line_of
line_most r f n =
    let rest = decimal_of r.size ++ ascii "\n" in
    omega (
      arith,
      word_most r.is_kept,
      length-append (word_of r.is_kept) (decimal_of r.first ++ (ascii " " ++ rest)),
      length-append (decimal_of r.first) (ascii " " ++ rest),
      length-append (decimal_of r.size) (ascii "\n"),
      decimal_most 4 r.first f,
      decimal_most 4 r.size n,
    )

follow_within : (at end : ℕ) (rs : List Run) → Follow at rs end → at ≤ end
follow_within at end [] f = omega arith
follow_within at end (r ∷ rs) f = omega (arith, follow_within (at + r.size) end rs f.2)

within : (at end : ℕ) (rs : List Run) → Follow at rs end → end ≤ capture_most → length (lines_of rs) ≤ 20 * length rs
unfolding lines_of
within at end [] f h = omega arith
within at end (r ∷ rs) f h =
    let w = follow_within (at + r.size) end rs f.2 in
    omega (
      arith,
      length-append (line_of r) (lines_of rs),
      line_most r (omega (arith, f.0)) (omega arith),
      within (at + r.size) end rs f.2 h,
    )

pub lines_most : (s : List ℕ) → length s ≤ capture_most → length (lines_of (runs_of s)) ≤ 201660
lines_most s h = omega (arith, within 0 (length s) (runs_of s) (runs_follow s) h, runs_most s)
