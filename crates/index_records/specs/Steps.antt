-- What a reader has to believe of the steps to the records: what stands at a position, a message's record by fixed places, and the plan before the first one.
use Rattle.std.specs.Prelude.{ℕ, zero, suc, ◌+◌, ◌/◌, ◌%◌, ◌≤◌, min, ◌≡◌, List, [], ◌∷◌, length, Result, Ok, Err}
use Rattle.ground_refusal.specs.declared.Refusal.{Refusal}
use Rattle.body_formats.specs.Reading.{Reading, found, refused}
use Rattle.ground_numbers.specs.Sizes.{body_most}
use Rattle.body_formats.specs.Answers.{step_of, number_read}
use Rattle.body_walk.specs.Entries.{number_worth}
use Rattle.index.specs.Index.{Index}
use Rattle.index.specs.Places.{start_place, end_place, class_place}
use Rattle.index_records.specs.Records.{records_of, recording}
use Rattle.index_records.specs.declared.Record.{Record}

-- the number of w bytes at p, 0 where the body has none there
unfoldable pub standing : List ℕ → ℕ → ℕ → ℕ
standing s p w = number_worth (number_read w s (length s) p)

-- the record of the message whose EBM_length of two bytes stands at p, and the position after the message
abbrev pub placed_from : List ℕ → ℕ → Record × ℕ
placed_from s p = (
  record {
    at = p + 2;
    length = standing s p 2;
    start = standing s (p + 2 + start_place) 5;
    end = standing s (p + 2 + end_place) 5;
    class = standing s (p + 2 + class_place) 1 / 16;
    level = standing s (p + 2 + class_place) 1 % 16;
  },
  p + 2 + standing s p 2,
)

unfoldable pub placed_at : List ℕ → ℕ → Record × ℕ
placed_at s p = placed_from s (min p body_most)

-- the records of n messages, the first one's EBM_length standing at p
abbrev pub records_from : List ℕ → ℕ → ℕ → List Record
records_from s p zero = []
records_from s p (suc n) = (placed_at s p).0 ∷ records_from s (placed_at s p).1 n

-- the records that are laid, none where the body is refused
abbrev pub records_in : Reading Index → List Record
records_in (found t n) = records_of t.messages 1
records_in (refused r) = []

abbrev pub count_in : Reading Index → ℕ
count_in (found t n) = n
count_in (refused r) = 0

-- how many records a plan lays, none where it is a refusal
abbrev pub many_planned : Result ℕ Refusal → ℕ
many_planned (Ok n) = n
many_planned (Err r) = 0

-- so many records, the body's from position 1 on, and there is room for them
pub record Planned (kind : ℕ) (s : List ℕ) (room : ℕ) (plan : Result ℕ Refusal) : Type 0 where
  pub said : plan ≡ step_of (recording kind s room)
  pub many : many_planned plan ≡ count_in (recording kind s room)
  pub laid : records_from s 1 (many_planned plan) ≡ records_in (recording kind s room)
  pub fits : many_planned plan ≤ room
