-- What a reader has to believe of the answer to C: which number each choice becomes.
use Rattle.std.specs.Prelude.{ℕ, List, [], ◌∷◌, Result, Ok, Err, Option, Some, None}
use Rattle.ground_refusal.specs.declared.Refusal.{Refusal}
use Rattle.c_answers.specs.Packing.{packed}
use Rattle.c_answers.specs.Answers.{answer_of, refused_of}

-- 1 for a message that is shown, its number, where it begins in the body, its length: an accepted body has no more of each than its field allows
unfoldable pub choice_fields : ℕ → ℕ → ℕ → List (ℕ × ℕ)
choice_fields number at length = (8, 1) ∷ (8, number) ∷ (24, at) ∷ (16, length) ∷ []

-- 0 where there is none to show
abbrev pub choice_answer : Result (Option (ℕ × ℕ × ℕ)) Refusal → ℕ
choice_answer (Ok (Some (number, at, length))) = answer_of 0 (packed (choice_fields number at length))
choice_answer (Ok None) = answer_of 0 0
choice_answer (Err why) = refused_of why
