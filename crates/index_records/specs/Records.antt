-- What a reader has to believe of the message records: one for each message, in order, where "each begins, its length, start, end, class, level".
use Rattle.std.specs.Prelude.{ℕ, ◌+◌, ◌-◌, List, [], ◌∷◌, ◌++◌, length, drop, leb, Result}
use Rattle.ground_refusal.specs.declared.Refusal.{Refusal}
use Rattle.ground_refusal.specs.declared.Refusal.TheVariants.{OutputTooSmall}
use Rattle.body_formats.specs.Reading.{Reading, found, refused, and_then, need}
use Rattle.body_formats.specs.Body.{reading}
use Rattle.body_formats.specs.Answers.{step_of}
use Rattle.index.specs.Index.{Message, message, Index, index, index_kind}
use Rattle.index_records.specs.declared.Record.{Record}

-- the message m, whose EBM_length stands at p
abbrev pub record_of : Message → ℕ → Record
record_of m p =
    record { at = p + 2; length = length (message.print m) - 2; start = m.start; end = m.end; class = m.class; level = m.level }

unfoldable pub records_of : List Message → ℕ → List Record
records_of [] p = []
records_of (m ∷ ms) p = record_of m p ∷ records_of ms (p + length (message.print m))

-- the table, and how many records it has; "21: output buffer or record list too small", after everything else
unfoldable pub recording : ℕ → List ℕ → ℕ → Reading Index
recording kind s room =
    and_then (reading index index_kind kind s) (λ t q.
    need (leb (length t.messages) room) OutputTooSmall (found t (length t.messages)))

-- how many records are laid, or why none is
unfoldable pub body_recorded : ℕ → List ℕ → ℕ → Result ℕ Refusal
body_recorded kind s room = step_of (recording kind s room)

-- "records past the count stay", and a refusal writes no record
abbrev pub recorded_over : List Record → Reading Index → List Record
recorded_over list (found t n) = records_of t.messages 1 ++ drop n list
recorded_over list (refused r) = list

unfoldable pub recorded : ℕ → List ℕ → List Record → List Record
recorded kind s list = recorded_over list (recording kind s (length list))
