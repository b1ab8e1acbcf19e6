-- What is promised of the choice, of an index body that is read: which message is shown, when there is none, and what is refused.
use Rattle.std.specs.Prelude.{ℕ, ◌+◌, ◌≤◌, ◌<◌, ◌≡◌, Bool, true, false, ◌&&◌, ◌||◌, List, [], ◌↔◌, leb, eqb, length, get_or, Result, Ok, Err, Option, Some, None}
use Rattle.ground_refusal.specs.Numbers.{refusal_number}
use Rattle.ground_refusal.specs.declared.Refusal.{Refusal}
use Rattle.ground_refusal.specs.declared.Refusal.TheVariants.{DigitAboveNine, ImpossibleDay, OutputTooSmall}
use Rattle.ground_numbers.specs.Sizes.{body_most}
use Rattle.crc.specs.Crc.{AreBytes}
use Rattle.time_fields.specs.Field.{is_instant, moment_of}
use Rattle.time_fields.specs.Showing.{earlier, showing}
use Rattle.time_fields.specs.declared.Moment.{Moment}
use Rattle.time_fields.specs.declared.Showing.TheVariants.{On}
use Rattle.body_formats.specs.Body.{body_read}
use Rattle.index.specs.Index.{Message, Index, index, index_kind}
use Rattle.index_fields.specs.Asked.{message_part}
use Rattle.promises.specs.Demand2.{Holds}
use Rattle.promises.specs.Determined.{Determined}
use Rattle.screen_order.specs.Order.{comes_first}
use Rattle.screen_code.specs.Code.{is_code}
use Rattle.screen_choice.specs.Choice.{concerns, eligible, rank, Numbered, Shown, choice_of}

-- ---- what the words mean

pub record Words : Type 0 where
  -- "A message concerns the box if one of its resource codes equals the box's code digit for digit"
  pub concerns_exactly : (code : List ℕ) (m : Message)
      → (concerns code m ≡ true) ↔ ((k : ℕ) × (k < length m.resources) × (get_or m.resources k [] ≡ code))
  -- those that are "on"
  pub eligible_exactly : (code : List ℕ) (present : Moment) (m : Message)
      → (eligible code present m ≡ true) ↔ ((concerns code m ≡ true) × (showing m.start m.end present ≡ Ok On))
  -- "the smallest level number,
  pub smallest_level : (i j : ℕ) (a b : Message) → a.level < b.level → comes_first (rank i a) (rank j b) ≡ true
  -- then the earliest start,
  pub earliest_start : (i j : ℕ) (a b : Message) → a.level ≡ b.level → earlier (moment_of a.start) (moment_of b.start) ≡ true
      → comes_first (rank i a) (rank j b) ≡ true
  -- then the first in the table"
  pub first_in_table : (i j : ℕ) (a b : Message) → a.level ≡ b.level → moment_of a.start ≡ moment_of b.start → i < j
      → comes_first (rank i a) (rank j b) ≡ true
  -- of two, one comes first, and not the other
  pub one_way : (i j : ℕ) (a b : Message) → comes_first (rank i a) (rank j b) ≡ true → comes_first (rank j b) (rank i a) ≡ true → ⊥

-- ---- of a body of this kind, which holds the table t

-- the answers that the request's words allow: a message that is the one to show, with the part of the body that it fills; that there is none, if none
-- concerns the box and is on
abbrev pub Allowed : List ℕ → List ℕ → Moment → Index → Result (Option (ℕ × ℕ × ℕ)) Refusal → Type 0
Allowed s code present t (Ok (Some (i, at, n))) = Shown code present t.messages i × (message_part s i ≡ Ok (at, n))
Allowed s code present t (Ok None) = (i : ℕ) (m : Message) → Numbered t.messages i m → eligible code present m ≡ true → ⊥
Allowed s code present t (Err r) = ⊥

pub record Chooses (kind : ℕ) (s code : List ℕ) (present : Moment) (t : Index) : Type 0 where
  -- message i is answered exactly if it is the one to show, with the part of the body that it fills
  pub shows_exactly : (i at n : ℕ) → (choice_of kind s code present ≡ Ok (Some (i, at, n))) ↔ Allowed s code present t (Ok (Some (i, at, n)))
  -- which each message has
  pub has_part : (i : ℕ) (m : Message) → Numbered t.messages i m → (at : ℕ) × (n : ℕ) × (message_part s i ≡ Ok (at, n))
  -- "or say that there is none, exactly if there is none"
  pub none_exactly : (choice_of kind s code present ≡ Ok None) ↔ Allowed s code present t (Ok None)
  -- nothing is refused
  pub accepted : (r : Refusal) → choice_of kind s code present ≡ Err r → ⊥
  -- two choices that the words allow are equal
  pub determined : Determined (Allowed s code present t)

-- ---- of a message that is shown

-- its part lies in the body, and each number fits its field: a byte, three and two
pub record Within (s : List ℕ) (i at n : ℕ) : Type 0 where
  pub number : i < 256
  pub in_body_lem : at + n ≤ length s
  pub body : length s ≤ body_most
  pub part : n < 65536

-- ---- refusals

-- 2 and 22, which come first, and those of fields; 18 and 20 are also the choice's own
abbrev pub is_given : ℕ → Bool
is_given number = (eqb number 2 || eqb number 22) || (leb 14 number && leb number 20)

-- ---- all of it

pub record Promise : Type 0 where
  pub words : Words
  pub chooses : (kind : ℕ) (s code : List ℕ) (present : Moment) (t : Index) → AreBytes s → is_code code ≡ true → is_instant present ≡ true
      → Holds index index_kind kind s t → Chooses kind s code present t
  pub within : (kind : ℕ) (s code : List ℕ) (present : Moment) → AreBytes s → (i at n : ℕ) → choice_of kind s code present ≡ Ok (Some (i, at, n)) → Within s i at n
  -- no two messages of a table are the one to show
  pub only_one : (code : List ℕ) (present : Moment) (ms : List Message) (i j : ℕ) → Shown code present ms i → Shown code present ms j → i ≡ j
  -- "Refusals: 18 for an own code not of 23 bytes or with a byte above 9, 20 for the instant, then the index reader's"
  pub no_code : (kind : ℕ) (s code : List ℕ) (present : Moment) → is_code code ≡ false → choice_of kind s code present ≡ Err (DigitAboveNine 0)
  pub no_instant : (kind : ℕ) (s code : List ℕ) (present : Moment) → is_code code ≡ true → is_instant present ≡ false
      → choice_of kind s code present ≡ Err (ImpossibleDay 0)
  pub as_the_reader : (kind : ℕ) (s code : List ℕ) (present : Moment) → AreBytes s → is_code code ≡ true → is_instant present ≡ true → (r : Refusal)
      → (choice_of kind s code present ≡ Err r) ↔ (body_read index index_kind kind s ≡ Err r)
  pub given : (kind : ℕ) (s code : List ℕ) (present : Moment) → AreBytes s → (r : Refusal) → choice_of kind s code present ≡ Err r
      → is_given (refusal_number r) ≡ true
  -- never 21: nothing is written
  pub never_21 : (kind : ℕ) (s code : List ℕ) (present : Moment) → AreBytes s → choice_of kind s code present ≡ Err OutputTooSmall → ⊥
