-- No report is longer than 19 bytes and 17 for each byte of the input.
use Prim.Native.Nat.{ℕ, zero, suc, ◌+◌, ◌*◌, ◌/◌, ◌^◌, max, ◌≤◌, ◌<◌}
use Rattle.std.specs.Prelude.{Result, Ok, Err}
use Rattle.ground_refusal.specs.declared.Refusal.{Refusal}
use mathlib.Core.Path.{◌≡◌, refl, ap}
use mathlib.Core.List.{List, ◌++◌}
use mathlib.Core.Logic.{⊎_elim}
use native.Mathlib.Nat.{eq-zero-or-pos}
use native.Mathlib.Omega.{arith}
use lib.IntN.{pos}
use lib.ListN.{length, take, drop, length-append, length-drop}
use lib.Seq.{length-take-le}
use Rattle.time_days.specs.Calendar.{weekday_of}
use Rattle.time_days.proofs.Answers.{weekday_accepted}
use Rattle.time_local.specs.Text.{read_text}
use Rattle.program_printing.specs.Characters.{ascii, decimal_of, hex_of}
use Rattle.program_printing.proofs.Digits.{digits_length, below_or_not, decimal_most, refused_most}
use Rattle.program_date_lines.specs.Report.{day_text, field_text, time_text, time_answered, line_of, lines_of, numbered, report_of}
use Rattle.program_date_lines.specs.Lines.{line_length}
use Rattle.program_date_lines.proofs.Text.{text_length}
use Rattle.program_date_lines.proofs.Lines.{first_line, length_within, numbered_none, report_lines, report_over}

day_most : (field day : ℕ) (answer : Result ℕ Refusal) → weekday_of day ≡ answer → length (day_text field answer) ≤ 12
day_most field day (Ok w) e =
    omega (
      arith,
      length-append (hex_of 10 field) (ascii " " ++ decimal_of w),
      digits_length 16 10 field,
      decimal_most 0 w (omega (arith, weekday_accepted day w e)),
    )
day_most field day (Err r) e = omega (arith, refused_most r)

field_most : (field : ℕ) → length (field_text field) ≤ 12
unfolding field_text
field_most field = day_most field (field / 2 ^ 24) (weekday_of (field / 2 ^ 24)) refl

answer_most : (s : List ℕ) (answer : Result ℕ Refusal) → read_text s (pos 0) ≡ answer → 7 + length (time_text answer) ≤ max 17 (length s)
answer_most s (Ok field) e = omega (arith, field_most field, text_length s e)
answer_most s (Err r) e = omega (arith, refused_most r)

line_most : (number : ℕ) (s : List ℕ) → number < 100000 → length (line_of number s) ≤ max 17 (length s)
unfolding line_of time_answered
line_most number s h =
    let answer = time_text (read_text s (pos 0)) in
    omega (
      arith,
      length-append (decimal_of number) (ascii " " ++ (answer ++ ascii "\n")),
      length-append answer (ascii "\n"),
      decimal_most 4 number h,
      answer_most s (read_text s (pos 0)) refl,
    )

-- a line's own bytes pay for its report
numbered_step : (number : ℕ) (s : List ℕ) → 0 < length s → number < 100000
    → length (numbered (suc number) (lines_of (drop (suc (line_length s)) s))) ≤ 17 * length (drop (suc (line_length s)) s)
    → length (numbered number (lines_of s)) ≤ 17 * length s
unfolding numbered
numbered_step number s h k rest =
    let l = line_length s in
    let within = length_within s in
    rw (first_line s h, length-append)
    (omega (arith, rest, line_most number (take l s) k, length-take-le l s within, length-drop (suc l) s))

numbered_within : (n number : ℕ) (s : List ℕ) → length s ≤ n → number + length s ≤ 100000 → length (numbered number (lines_of s)) ≤ 17 * length s
numbered_within zero number s h k = omega (arith, ap length (numbered_none number s 0 h))
numbered_within (suc n) number s h k =
    ⊎_elim
    (λ none. omega (arith, ap length (numbered_none number s 0 (omega arith))))
    (λ some.
    let left = length-drop (suc (line_length s)) s in
    numbered_step number s some (omega arith)
    (numbered_within n (suc number) (drop (suc (line_length s)) s) (omega (arith, left)) (omega (arith, left))))
    (eq-zero-or-pos (length s))

pub report_most : (s : List ℕ) → length (report_of s) ≤ 1114131
report_most s =
    ⊎_elim
    (λ over. rw (report_over s over) (omega arith))
    (λ within. rw (report_lines s within) (omega (arith, numbered_within (length s) 1 s (omega arith) (omega arith))))
    (below_or_not 65536 (length s))
