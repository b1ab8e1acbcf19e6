-- What a reader has to believe of what a box shows: which messages concern it, which are on, which of these comes first, and the answer for every input.
use Rattle.std.specs.Prelude.{ℕ, zero, suc, ◌≡◌, Bool, true, false, ◌&&◌, cond, List, [], ◌∷◌, Result, Ok, Err, Option, Some, None}
use Rattle.ground_refusal.specs.declared.Refusal.{Refusal}
use Rattle.ground_refusal.specs.declared.Refusal.TheVariants.{DigitAboveNine, ImpossibleDay}
use Rattle.time_fields.specs.Field.{is_instant, moment_of}
use Rattle.time_fields.specs.Showing.{showing}
use Rattle.time_fields.specs.declared.Moment.{Moment}
use Rattle.time_fields.specs.declared.Showing.{Showing}
use Rattle.time_fields.specs.declared.Showing.TheVariants.{Before, On, Ended}
use Rattle.body_formats.specs.Reading.{Reading, found, refused}
use Rattle.body_formats.specs.Body.{reading}
use Rattle.index.specs.Index.{Message, Index, index, index_kind}
use Rattle.index_fields.specs.Asked.{message_part}
use Rattle.screen_order.specs.Order.{comes_first, rank_by}
use Rattle.screen_code.specs.Code.{is_code, has}

-- ---- a message

-- "A message concerns the box if one of its resource codes equals the box's code digit for digit"
unfoldable pub concerns : List ℕ → Message → Bool
concerns code m = has code m.resources

-- 01: "on" at an instant
abbrev pub is_on : Result Showing Refusal → Bool
is_on (Ok On) = true
is_on (Ok Before) = false
is_on (Ok Ended) = false
is_on (Err r) = false

-- it may be shown: it concerns the box and is on
unfoldable pub eligible : List ℕ → Moment → Message → Bool
eligible code present m = concerns code m && is_on (showing m.start m.end present)

-- "the smallest level number, then the earliest start, then the first in the table": the row of these numbers, of message number i
unfoldable pub rank : ℕ → Message → List ℕ
rank i m = rank_by m.level (moment_of m.start).day (moment_of m.start).second i

-- ---- which one is shown

-- message number i of the table is m
unfoldable pub Numbered : List Message → ℕ → Message → Type 0
Numbered [] i m = ⊥
Numbered (x ∷ xs) zero m = x ≡ m
Numbered (x ∷ xs) (suc i) m = Numbered xs i m

-- message i concerns the box, is on, and comes before every other one that does and is
pub record Shown (code : List ℕ) (present : Moment) (ms : List Message) (i : ℕ) : Type 0 where
  pub message : Message
  pub is_there : Numbered ms i message
  pub may : eligible code present message ≡ true
  pub least : (j : ℕ) (other : Message) → Numbered ms j other → eligible code present other ≡ true → (j ≡ i → ⊥)
      → comes_first (rank i message) (rank j other) ≡ true

-- ---- the same, worked out from the first message to the last

-- the message to show of those looked at
pub data Leader : Type 0 where
  nobody : Leader
  leads : ℕ → Message → Leader

-- after one more that may be shown
abbrev pub passed_by : Leader → ℕ → Message → Leader
passed_by nobody i m = leads i m
passed_by (leads j held) i m = cond (comes_first (rank i m) (rank j held)) (leads i m) (leads j held)

-- of messages numbered from i on, after others of which one leads
unfoldable pub leader : List ℕ → Moment → Leader → ℕ → List Message → Leader
leader code present so_far i [] = so_far
leader code present so_far i (m ∷ ms) = leader code present (cond (eligible code present m) (passed_by so_far i m) so_far) (suc i) ms

-- ---- the answer

-- the message's number and the part of the body that it fills
abbrev pub shown_as : ℕ → Result (ℕ × ℕ) Refusal → Result (Option (ℕ × ℕ × ℕ)) Refusal
shown_as i (Ok (at, n)) = Ok (Some (i, at, n))
shown_as i (Err r) = Err r

abbrev pub answer_of : List ℕ → Leader → Result (Option (ℕ × ℕ × ℕ)) Refusal
answer_of s nobody = Ok None
answer_of s (leads i m) = shown_as i (message_part s i)

abbrev pub chosen_in : List ℕ → List ℕ → Moment → Reading Index → Result (Option (ℕ × ℕ × ℕ)) Refusal
chosen_in code s present (refused r) = Err r
chosen_in code s present (found t q) = answer_of s (leader code present nobody 0 t.messages)

-- "18 for an own code not of 23 bytes or with a byte above 9, 20 for the instant, then the index reader's"
unfoldable pub choice_of : ℕ → List ℕ → List ℕ → Moment → Result (Option (ℕ × ℕ × ℕ)) Refusal
choice_of kind s code present =
    cond (is_code code)
    (cond (is_instant present) (chosen_in code s present (reading index index_kind kind s)) (Err (ImpossibleDay 0)))
    (Err (DigitAboveNine 0))
