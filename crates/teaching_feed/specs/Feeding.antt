-- What a reader has to believe of feeding the slow gathering: the answer, told by the account of what is kept, and that the string is kept.
use Rattle.std.specs.Prelude.{ℕ, ◌+◌, Bool, not, ◌&&◌, List, leb, length, take, if◌then◌else◌, Result, Err}
use Rattle.ground_refusal.specs.declared.Refusal.{Refusal}
use Rattle.ground_placing.specs.Placed.{placed}
use Rattle.ground_refusal.specs.declared.Refusal.TheVariants.{ImpossibleState, TeachingBufferFull}
use Rattle.gathering_state.specs.State.{has_room}
use Rattle.gathering_feed.specs.declared.Answer.{Answer}
use Rattle.gathering_account.specs.Answering.{answer_to}
use Rattle.teaching_rows.specs.Rows.{length_bytes, row, whole_in_use}
use Rattle.teaching_table.specs.Table.{account_in}
use Rattle.teaching_feed.specs.declared.Taught.{Taught}

-- "8 + n bytes": the row of a string of n bytes fits a buffer of `room` bytes after those in use
unfoldable pub row_fits : ℕ → ℕ → ℕ → Bool
row_fits room used n = leb (used + (length_bytes + n)) room

-- "37 teaching buffer full, before all others"; "Else, if they are no whole row of length and string: 12, before 1 to 7"; else the answer of the account of
-- what is kept, "told the quick one's store length"
unfoldable pub answer_of : List ℕ → ℕ → ℕ → List ℕ → Result Answer Refusal
answer_of buffer used store s =
    if not (row_fits (length buffer) used (length s)) then Err TeachingBufferFull else
    if not (whole_in_use buffer used) then Err ImpossibleState else
    answer_to (has_room store) (account_in store (take used buffer)) s

-- "Every fed string that fits is kept in the teaching buffer, [..] refused ones and repeats too; one answered 37 is not kept", nor is one answered 12
unfoldable pub keeps : List ℕ → ℕ → List ℕ → Bool
keeps buffer used s = row_fits (length buffer) used (length s) && whole_in_use buffer used

unfoldable pub used_after : List ℕ → ℕ → List ℕ → ℕ
used_after buffer used s = if keeps buffer used s then used + (length_bytes + length s) else used

-- its row stands after the bytes in use; all others stay
unfoldable pub buffer_after : List ℕ → ℕ → List ℕ → List ℕ
buffer_after buffer used s = if keeps buffer used s then placed buffer used (row s) else buffer

-- the answer, and the bytes in use after it
unfoldable pub taught_of : List ℕ → ℕ → ℕ → List ℕ → Taught
taught_of buffer used store s = record { answer = answer_of buffer used store s; used = used_after buffer used s }
