-- What the steps of the choice say to each other: what is known of a message that stands in an accepted body, and what each step tells of it.
use Rattle.std.specs.Prelude.{ℕ, ◌+◌, ◌*◌, ◌≤◌, ◌≡◌, Bool, true, false, cond, List, length, get_or, Result, Ok, Err, Option, Some, None}
use Rattle.ground_refusal.specs.declared.Refusal.{Refusal}
use Rattle.time_fields.specs.Field.{read_time, moment_of}
use Rattle.time_fields.specs.Showing.{showing}
use Rattle.time_fields.specs.declared.Moment.{Moment}
use Rattle.body_formats.specs.Format.{every, some}
use Rattle.body_formats.specs.Resource.{resource}
use Rattle.body_asking.specs.Agreement.{InTurn}
use Rattle.index.specs.Index.{Message, message}
use Rattle.index_fields.specs.Asked.{message_part, start, level}
use Rattle.index_fields.specs.Agreement.{FieldsAsked, MessageAsked}
use Rattle.screen_order.specs.declared.Candidate.{Candidate}
use Rattle.screen_code.specs.Code.{is_code}
use Rattle.screen_choice.specs.Choice.{concerns, is_on, eligible, Leader, nobody, leads, passed_by, leader}

-- ---- answers taken apart

abbrev pub worth_of : Result (ℕ × ℕ) Refusal → ℕ
worth_of (Ok (x, after)) = x
worth_of (Err r) = 0

abbrev pub moment_said : Result Moment Refusal → Moment
moment_said (Ok m) = m
moment_said (Err r) = record { day = 0; second = 0 }

abbrev pub choice_told : Option Candidate → Result (Option (ℕ × ℕ × ℕ)) Refusal
choice_told None = Ok None
choice_told (Some c) = Ok (Some (c.number, c.at, c.length))

-- ---- one message

-- m stands at `at` with n bytes, and the twelve bytes are those of the code
pub record Stands (s : List ℕ) (at n : ℕ) (own code : List ℕ) (m : Message) : Type 0 where
  pub asked : FieldsAsked s at n m
  pub codes : every resource.writable m.resources ≡ true
  pub own_is : own ≡ resource.print code
  pub is_code_lem : is_code code ≡ true

-- some message stands there
abbrev pub Placed : List ℕ → ℕ → ℕ → List ℕ → Type 0
Placed s at n own = (code : List ℕ) × (m : Message) × Stands s at n own code m

pub record Lengthed (s : List ℕ) (p n : ℕ) : Type 0 where
  pub is : n ≡ get_or s p 0 * 256 + get_or s (p + 1) 0
  pub small : n ≤ 65535

abbrev pub Concerning : List ℕ → ℕ → ℕ → List ℕ → Bool → Type 0
Concerning s at n own r = (code : List ℕ) (m : Message) → Stands s at n own code m → r ≡ concerns code m

abbrev pub Timely : List ℕ → ℕ → ℕ → Moment → Bool → Type 0
Timely s at n present r = (m : Message) → FieldsAsked s at n m → r ≡ is_on (showing m.start m.end present)

-- what is kept of a message, by its fields
unfoldable pub candidate_of : List ℕ → ℕ → ℕ → ℕ → Candidate
candidate_of s at n i =
    record {
      number = i;
      at = at;
      length = n;
      level = worth_of (level s at n);
      day = (moment_said (read_time (worth_of (start s at n)) 0)).day;
      second = (moment_said (read_time (worth_of (start s at n)) 0)).second;
    }

-- ---- the one to show, as it is kept and as it is defined

-- c is what is kept of message number i, which is m
pub record Keeps (s : List ℕ) (c : Candidate) (i : ℕ) (m : Message) : Type 0 where
  pub number_is : c.number ≡ i
  pub part_is : message_part s i ≡ Ok (c.at, c.length)
  pub level_is : c.level ≡ m.level
  pub day_is : c.day ≡ (moment_of m.start).day
  pub second_is : c.second ≡ (moment_of m.start).second

abbrev pub Told : List ℕ → Option Candidate → Leader → Type 0
Told s None nobody = Unit
Told s None (leads i m) = ⊥
Told s (Some c) nobody = ⊥
Told s (Some c) (leads i m) = Keeps s c i m

abbrev pub Considered : List ℕ → ℕ → ℕ → ℕ → List ℕ → Moment → Option Candidate → Option Candidate → Type 0
Considered s at n i own present best r =
    (code : List ℕ) (m : Message) (so_far : Leader) → Stands s at n own code m → message_part s i ≡ Ok (at, n) → Told s best so_far
    → Told s r (cond (eligible code present m) (passed_by so_far i m) so_far)

-- ---- all messages

-- messages that a writer takes stand one after the other from p to the end, numbered from i on
pub record Standing (s : List ℕ) (i : ℕ) (ms : List Message) (p : ℕ) : Type 0 where
  pub end : ℕ
  pub in_turn : InTurn (MessageAsked s) i ms p end
  pub writable : every message.writable ms ≡ true
  pub small : some message.too_large ms ≡ false

-- `count` messages stand in the body, and the twelve bytes are those of the code
pub record Table (s : List ℕ) (count : ℕ) (own code : List ℕ) (ms : List Message) : Type 0 where
  pub standing : Standing s 0 ms 1
  pub counted : count ≡ length ms
  pub own_is : own ≡ resource.print code
  pub is_code_lem : is_code code ≡ true

abbrev pub Tabled : List ℕ → ℕ → List ℕ → Type 0
Tabled s count own = (code : List ℕ) × (ms : List Message) × Table s count own code ms

abbrev pub Walked : List ℕ → ℕ → List ℕ → Moment → Option Candidate → Type 0
Walked s count own present r =
    (code : List ℕ) (ms : List Message) → Table s count own code ms → Told s r (leader code present nobody 0 ms)
