-- Any other feed keeps the string, whatever the answer.
use Prim.Native.Nat.{ℕ, ◌+◌}
use Rattle.std.specs.Prelude.{Result}
use Rattle.ground_refusal.specs.declared.Refusal.{Refusal}
use mathlib.Core.Path.{◌≡◌}
use mathlib.Core.Bool.{true}
use mathlib.Core.List.{List}
use lib.ListN.{length, take}
use Rattle.ground_placing.specs.Placed.{placed}
use Rattle.gathering_state.specs.State.{has_room}
use Rattle.gathering_feed.specs.declared.Answer.{Answer}
use Rattle.gathering_account.specs.Answering.{answer_to}
use Rattle.teaching_rows.specs.Rows.{length_bytes, row, whole_in_use}
use Rattle.teaching_table.specs.Table.{account_in}
use Rattle.teaching_feed.specs.Feeding.{row_fits, answer_of, keeps, used_after, buffer_after, taught_of}
use Rattle.teaching_feed.proofs.Fitting.{Fed}

pub fed_kept : (buffer : List ℕ) (used store : ℕ) (s : List ℕ) → row_fits (length buffer) used (length s) ≡ true → whole_in_use buffer used ≡ true
    → (r : Result Answer Refusal) → r ≡ answer_to (has_room store) (account_in store (take used buffer)) s
    → (n : ℕ) → n ≡ used + (length_bytes + length s) → (after : List ℕ) → after ≡ placed buffer used (row s)
    → Fed buffer used store s (record { answer = r; used = n }) after
unfolding taught_of answer_of used_after buffer_after keeps
fed_kept buffer used store s f w r q n e after p = (rw (f, w, q, e), rw (f, w) p)
