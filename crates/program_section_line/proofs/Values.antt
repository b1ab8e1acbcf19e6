-- Document 01's sentences on the line, as theorems.
use Prim.Native.Nat.{ℕ, ◌<◌}
use Rattle.std.specs.Prelude.{Ok}
use mathlib.Core.List.{List, ◌++◌}
use mathlib.Core.Path.{◌≡◌}
use native.Mathlib.Omega.{arith}
use lib.ListN.{length}
use Rattle.section_reader.specs.Section.{read_section}
use Rattle.section_reader.specs.declared.Heading.{Heading}
use Rattle.section_reader.proofs.Accepting.{accepted, framed_long}
use Rattle.program_printing.specs.Characters.{ascii, digit_character, digits_of, places_within, places_of, decimal_of, refused_text}
use Rattle.program_section_line.specs.Line.{section_answered, line_of}
use Rattle.program_section_line.proofs.Bounds.{judged_within, judged_over}

-- "prints its number, a space and the payload length": of every good section, as none is above 64 KiB
pub good_line : (s : List ℕ) (h : Heading) (n : ℕ) → read_section s ≡ Ok (h, n)
    → line_of s ≡ (decimal_of h.number ++ (ascii " " ++ decimal_of n)) ++ ascii "\n"
unfolding line_of section_answered
good_line s h n e = rw (judged_within s (omega (arith, framed_long s (accepted s h n e).framed)), e)

-- 22: "a program's input above 64 KiB"
pub over_line : (s : List ℕ) → 65536 < length s → line_of s ≡ ascii "refused 22\n"
unfolding line_of section_answered refused_text digit_character digits_of places_of places_within
over_line s over = rw (judged_over s over)
