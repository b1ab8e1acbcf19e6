-- What a reader has to believe of asking the slow gathering: heading, missing numbers and body, told by the account of what is kept.
use Rattle.std.specs.Prelude.{ℕ, ◌+◌, ◌≡◌, true, not, List, leb, length, take, if◌then◌else◌, Result, Ok, Err}
use Rattle.ground_refusal.specs.declared.Refusal.{Refusal}
use Rattle.ground_refusal.specs.declared.Refusal.TheVariants.{Contradiction, ImpossibleState, Missing}
use Rattle.section_reader.specs.declared.Heading.{Heading}
use Rattle.gathering_hand_out.specs.Handing.{handed_if_room, out_by}
use Rattle.gathering_account.specs.Account.{Section, Account, idle, table, in_order, body_of}
use Rattle.gathering_account.specs.Answering.{agreeing, undisputed}
use Rattle.gathering_account.specs.Latest.{sections_of_table}
use Rattle.teaching_rows.specs.Rows.{strings_in, whole_in_use}
use Rattle.teaching_questions.specs.Questions.{absent_from, absent_count}
use Rattle.teaching_table.specs.Table.{account_in}

-- ---- by the account

-- the heading of the fixed table; "13 if nothing begun"
unfoldable pub headed_to : Account → Result Heading Refusal
headed_to idle = Err (Missing 0)
headed_to (table t S) = Ok t

-- how many numbers are missing, and the smallest; of a spoiled table, of what came before the first contradiction, as the quick one's state keeps it
unfoldable pub lacking_table : Heading → List Section → Result (ℕ × ℕ) Refusal
lacking_table t S = Ok (absent_count (t.last + 1) (undisputed S), absent_from 0 (t.last + 1) (undisputed S))

unfoldable pub lacking_to : Account → Result (ℕ × ℕ) Refusal
lacking_to idle = Err (Missing 0)
lacking_to (table t S) = lacking_table t S

-- "11; 13; [..] 21", or the body, into an output of `room` bytes
unfoldable pub handed_table : Heading → List Section → ℕ → Result ℕ Refusal
handed_table t S room =
    if not (agreeing S) then Err Contradiction else
    if leb (absent_from 0 (t.last + 1) S) t.last then Err (Missing (absent_from 0 (t.last + 1) S)) else
    handed_if_room (length (in_order (t.last + 1) S)) room

-- "13 if nothing begun"
unfoldable pub handed_to : Account → ℕ → Result ℕ Refusal
handed_to idle room = Err (Missing 0)
handed_to (table t S) room = handed_table t S room

-- ---- of a buffer: "12", if the bytes in use are no whole rows; else by the account of what is kept

unfoldable pub heading_of : List ℕ → ℕ → ℕ → Result Heading Refusal
heading_of buffer used store = if not (whole_in_use buffer used) then Err ImpossibleState else headed_to (account_in store (take used buffer))

unfoldable pub lacking_of : List ℕ → ℕ → ℕ → Result (ℕ × ℕ) Refusal
lacking_of buffer used store = if not (whole_in_use buffer used) then Err ImpossibleState else lacking_to (account_in store (take used buffer))

unfoldable pub handed_of : List ℕ → ℕ → ℕ → List ℕ → Result ℕ Refusal
handed_of buffer used store out =
    if not (whole_in_use buffer used) then Err ImpossibleState else
    handed_to (account_in store (take used buffer)) (length out)

-- the joined body "at the start of the output; bytes after it stay"; a refusal "writes no byte"
unfoldable pub out_after : List ℕ → ℕ → ℕ → List ℕ → List ℕ
out_after buffer used store out = out_by (body_of (account_in store (take used buffer))) out (handed_of buffer used store out)

-- ---- what the code has found of a buffer, before it answers

-- a table is fixed; these are the strings from the one on that began it
pub record Begun (buffer : List ℕ) (used store : ℕ) (t : Heading) (kept : List ℕ) : Type 0 where
  pub whole : whole_in_use buffer used ≡ true
  pub is : account_in store (take used buffer) ≡ table t (sections_of_table t (strings_in kept))

-- every answer is this refusal
pub record Unbegun (buffer : List ℕ) (used store : ℕ) (r : Refusal) : Type 0 where
  pub heading : Err r ≡ heading_of buffer used store
  pub lacking : Err r ≡ lacking_of buffer used store
  pub handed : (out : List ℕ) → Err r ≡ handed_of buffer used store out
