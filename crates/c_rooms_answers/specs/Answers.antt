-- What a reader has to believe of this answer to C: which value it becomes; a refusal is always `refused_of`.
use Rattle.std.specs.Prelude.{ℕ, Result, Ok, Err}
use Rattle.ground_refusal.specs.declared.Refusal.{Refusal}
use Rattle.c_answers.specs.Answers.{answer_of, refused_of}

-- a gathering that has ended has no value of its own
abbrev pub ended_answer : Result Unit Refusal → ℕ
ended_answer (Ok tt) = answer_of 0 0
ended_answer (Err why) = refused_of why
