-- What a reader has to believe of the times of a form: start and end typed together, and a live end asked for.
use Rattle.std.specs.Prelude.{List, Bool, ℕ, ℤ, if◌then◌else◌, Result, Ok, Err}
use Rattle.ground_refusal.specs.declared.Refusal.{Refusal}
use Rattle.time_fields.specs.Field.{live_mark}
use Rattle.time_local.specs.Text.{read_text}

-- "Typed 'live' is 24; a live end is asked for otherwise": then the end's text is not looked at
unfoldable pub end_typed : Bool → List ℕ → ℤ → Result ℕ Refusal
end_typed live s offset = if live then Ok live_mark else read_text s offset

unfoldable pub with_end : ℕ → Result ℕ Refusal → Result (ℕ × ℕ) Refusal
with_end start (Ok end) = Ok (start, end)
with_end start (Err r) = Err r

unfoldable pub together : Result ℕ Refusal → Result ℕ Refusal → Result (ℕ × ℕ) Refusal
together (Ok start) end = with_end start end
together (Err r) end = Err r

-- "Refusals of the start come before those of the end": a form is filled in from the top, and the first slip is named
unfoldable pub typed_times : List ℕ → Bool → List ℕ → ℤ → Result (ℕ × ℕ) Refusal
typed_times start live end offset = together (read_text start offset) (end_typed live end offset)
