-- What a reader has to believe of the section program: its whole output for any input, byte for byte.
use Rattle.std.specs.Prelude.{ℕ, cond, List, ◌++◌, leb, length, Result, Ok, Err}
use Rattle.ground_refusal.specs.declared.Refusal.{Refusal}
use Rattle.section_reader.specs.declared.Heading.{Heading}
use Rattle.ground_refusal.specs.declared.Refusal.TheVariants.{TooLarge}
use Rattle.section_reader.specs.Section.{read_section}
use Rattle.program_printing.specs.Input.{most_input}
use Rattle.program_printing.specs.Characters.{ascii, decimal_of, refused_text}

-- 22 is "a program's input above 64 KiB"
unfoldable pub judged_of : List ℕ → Result (Heading × ℕ) Refusal
judged_of input = cond (leb (length input) most_input) (read_section input) (Err TooLarge)

-- "its number, a space and the payload length, or `refused` and the refusal"
abbrev pub heading_text : Result (Heading × ℕ) Refusal → List ℕ
heading_text (Ok (heading, length)) = decimal_of heading.number ++ (ascii " " ++ decimal_of length)
heading_text (Err r) = refused_text r

unfoldable pub section_answered : List ℕ → List ℕ
section_answered input = heading_text (judged_of input)

unfoldable pub line_of : List ℕ → List ℕ
line_of input = section_answered input ++ ascii "\n"
