-- What a reader has to believe of the slow gathering's refusals: M-112's, then 01's orders, each number with its condition, by the account of what is kept.
use Rattle.std.specs.Prelude.{ℕ, ◌+◌, ◌≡◌, Bool, true, false, not, ◌&&◌, ◌||◌, List, [], ◌∷◌, ◌++◌, ◌↔◌, leb, ltb, length, take, Ok, Err}
use Rattle.ground_refusal.specs.declared.Refusal.{Refusal}
use Rattle.ground_refusal.specs.declared.Refusal.TheVariants as refusal
use Rattle.section_reader.specs.Section.{heading_of, payload_of}
use Rattle.section_reader.specs.declared.Heading.{Heading}
use Rattle.gathering_state.specs.State.{has_room}
use Rattle.gathering_tables.specs.Tables.{same_table, is_newer}
use Rattle.gathering_feed.specs.declared.Answer.TheVariants.{Taken, HeldAlready}
use Rattle.gathering_account.specs.Account.{Section, Account, idle, table, in_order}
use Rattle.gathering_account.specs.Answering.{present, differs, agreeing}
use Rattle.teaching_rows.specs.Rows.{whole_in_use}
use Rattle.teaching_questions.specs.Questions.{absent_from}
use Rattle.teaching_table.specs.Table.{account_in}
use Rattle.teaching_feed.specs.Feeding.{row_fits, answer_of}
use Rattle.promises_orders.specs.Order.{Line, ◌when◌, Given, None}
use Rattle.promises_orders.specs.Sections.{section_lines}

-- ---- feeding

-- 9, 10, 11 of a good, current section with the heading h, which is fed after what the account tells
unfoldable pub good_lines : (ℕ → Bool) → Account → Heading → List ℕ → List Line
-- "Nothing begun: no 9 or 11"
good_lines room idle h p = refusal.StoreTooShort when not (room h.last) ∷ []
good_lines room (table t S) h p =
    -- 9: "another table", neither the fixed one nor a newer version of it
    refusal.OtherHeading when (not (is_newer t h) && not (same_table t h))
    -- 10: "store shorter than (last + 1) × 4,084 bytes"; the fixed table found room
    ∷ refusal.StoreTooShort when (is_newer t h && not (room h.last))
    -- 11: "same heading and number, other payload; or the gathering is spoiled already"; a newer table's section starts over "spoiled or not"
    ∷ refusal.Contradiction when (not (is_newer t h) && (differs (record { number = h.number; contents = p }) S || not (agreeing S)))
    ∷ []

-- "A repeat": a section of this number has come, and this one is not of a newer table
unfoldable pub is_repeated : Account → Heading → Bool
is_repeated idle h = false
is_repeated (table t S) h = not (is_newer t h) && present h.number S

-- "37 teaching buffer full, before all others"; "12, before 1 to 7"; then 01's: "1 to 7, 8, 9, 10, 11"
unfoldable pub teaching_lines : List ℕ → ℕ → ℕ → List ℕ → List Line
teaching_lines buffer used store s =
    refusal.TeachingBufferFull when not (row_fits (length buffer) used (length s))
    ∷ refusal.ImpossibleState when not (whole_in_use buffer used)
    ∷ section_lines s
    ++ refusal.NotCurrent when not (heading_of s).current
    ∷ good_lines (has_room store) (account_in store (take used buffer)) (heading_of s) (payload_of s)

-- feeding has two values: "A repeat with the same payload is answered "held already"", any other section is taken
pub record TaughtAsListed (buffer : List ℕ) (used store : ℕ) (s : List ℕ) : Type 0 where
  pub refused_exactly : (r : Refusal) → (answer_of buffer used store s ≡ Err r) ↔ Given r (teaching_lines buffer used store s)
  pub taken_exactly : (answer_of buffer used store s ≡ Ok Taken)
      ↔ (None (teaching_lines buffer used store s) × (is_repeated (account_in store (take used buffer)) (heading_of s) ≡ false))
  pub held_exactly : (answer_of buffer used store s ≡ Ok HeldAlready)
      ↔ (None (teaching_lines buffer used store s) × (is_repeated (account_in store (take used buffer)) (heading_of s) ≡ true))

-- ---- handing out

-- "13 if nothing begun; [..] 11; 13; [..] 21", into an output of `room` bytes; the fixed table found room, so no 10
unfoldable pub account_lines : Account → ℕ → List Line
account_lines idle room = refusal.Missing 0 when true ∷ []
account_lines (table t S) room =
    -- 11: "the gathering is spoiled already"
    refusal.Contradiction when not (agreeing S)
    -- 13: "a section is missing; the smallest missing number is shown"
    ∷ refusal.Missing (absent_from 0 (t.last + 1) S) when leb (absent_from 0 (t.last + 1) S) t.last
    -- 21: "output buffer [..] too small"
    ∷ refusal.OutputTooSmall when ltb room (length (in_order (t.last + 1) S))
    ∷ []

-- "12" first, and never 37: "handing out never gives 37"
unfoldable pub teaching_handing_lines : List ℕ → ℕ → ℕ → ℕ → List Line
teaching_handing_lines buffer used store room =
    refusal.ImpossibleState when not (whole_in_use buffer used)
    ∷ account_lines (account_in store (take used buffer)) room
