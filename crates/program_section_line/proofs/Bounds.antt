-- No line is longer than 11 bytes.
use Prim.Native.Nat.{ℕ, ◌≤◌, ◌<◌}
use Rattle.std.specs.Prelude.{Result, Ok, Err}
use Rattle.ground_refusal.specs.declared.Refusal.{Refusal}
use Rattle.section_reader.specs.declared.Heading.{Heading}
use mathlib.Core.Path.{◌≡◌, refl, ap}
use mathlib.Core.List.{List, ◌++◌}
use mathlib.Core.Logic.{⊎_elim}
use native.Mathlib.Omega.{arith}
use borrow.Author.Tests.{le-leb, lt-leb}
use lib.ListN.{length, get_or, length-append}
use Rattle.ground_refusal.specs.declared.Refusal.TheVariants.{TooLarge}
use Rattle.section_reader.specs.Section.{heading_of, read_section}
use Rattle.section_reader.proofs.Accepting.{accepted, accepted_short}
use Rattle.program_printing.specs.Characters.{ascii, decimal_of}
use Rattle.program_printing.proofs.Digits.{below_or_not, decimal_most, refused_most}
use Rattle.program_section_line.specs.Line.{judged_of, heading_text, section_answered}

-- ---- the judgement

pub judged_within : (s : List ℕ) → length s ≤ 65536 → judged_of s ≡ read_section s
unfolding judged_of
judged_within s h = rw (le-leb (length s) 65536 h)

pub judged_over : (s : List ℕ) → 65536 < length s → judged_of s ≡ Err TooLarge
unfolding judged_of
judged_over s h = rw (lt-leb (length s) 65536 h)

-- ---- how long

-- a section's number is its byte 6, and its payload has at most 4,084 bytes
section_most : (s : List ℕ) (judgement : Result (Heading × ℕ) Refusal) → get_or s 6 0 < 256 → read_section s ≡ judgement → length (heading_text judgement) ≤ 10
unfolding heading_of
section_most s (Ok (h, n)) byte e =
    let a = accepted s h n e in
    omega (
      arith,
      length-append (decimal_of h.number) (ascii " " ++ decimal_of n),
      decimal_most 2 h.number (omega (arith, ap (λ k. k.number) a.heading)),
      decimal_most 3 n (omega (arith, accepted_short s h n a)),
    )
section_most s (Err r) byte e = refused_most r

pub answer_most : (s : List ℕ) → get_or s 6 0 < 256 → length (section_answered s) ≤ 10
unfolding section_answered
answer_most s byte =
    ⊎_elim
    (λ over. rw (judged_over s over) (refused_most TooLarge))
    (λ within. rw (judged_within s within) (section_most s (read_section s) byte refl))
    (below_or_not 65536 (length s))
