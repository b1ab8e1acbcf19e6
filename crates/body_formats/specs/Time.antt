-- What a reader has to believe of time fields in a body: a number of 40 bits, which crate times judges.
use Rattle.std.specs.Prelude.{ℕ, Result, Ok, Err, Option, Some, None}
use Rattle.ground_refusal.specs.declared.Refusal.{Refusal}
use Rattle.time_fields.specs.declared.Moment.{Moment}
use Rattle.time_fields.specs.Field.{read_time, read_end}
use Rattle.body_formats.specs.Reading.{Fault, fine, faulty}
use Rattle.body_formats.specs.Format.{Format, only, number}

abbrev pub time_fault : Result Moment Refusal → Fault
time_fault (Ok m) = fine
time_fault (Err r) = faulty r

abbrev pub end_fault : Result (Option Moment) Refusal → Fault
end_fault (Ok (Some m)) = fine
end_fault (Ok None) = fine
end_fault (Err r) = faulty r

unfoldable pub time : Format ℕ
time = only (λ f at. time_fault (read_time f at)) (number 5)

unfoldable pub end_time : Format ℕ
end_time = only (λ f at. end_fault (read_end f at)) (number 5)
