-- What a reader has to believe of the slow gathering's answers to C: which value each becomes; a refusal is always `refused_of`.
use Rattle.std.specs.Prelude.{ℕ, Result, Ok, Err}
use Rattle.ground_refusal.specs.declared.Refusal.{Refusal}
use Rattle.section_reader.specs.declared.Heading.{Heading}
use Rattle.c_answers.specs.Packing.{packed}
use Rattle.c_answers.specs.Answers.{answer_of, refused_of, heading_fields}

-- the heading of the section that began the fixed table, as a section's
abbrev pub headed_answer : Result Heading Refusal → ℕ
headed_answer (Ok h) = answer_of 0 (packed (heading_fields h))
headed_answer (Err why) = refused_of why

-- how many sections are missing; the smallest is the place of handing out's 13
abbrev pub lacking_answer : Result (ℕ × ℕ) Refusal → ℕ
lacking_answer (Ok (n, k)) = answer_of 0 n
lacking_answer (Err why) = refused_of why
