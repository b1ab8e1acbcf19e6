-- 37 and 12 change nothing.
use Prim.Native.Nat.{ℕ}
use Rattle.std.specs.Prelude.{Err}
use mathlib.Core.Path.{◌≡◌}
use mathlib.Core.Bool.{true, false}
use mathlib.Core.List.{List}
use lib.ListN.{length}
use Rattle.ground_refusal.specs.declared.Refusal.TheVariants.{ImpossibleState, TeachingBufferFull}
use Rattle.teaching_rows.specs.Rows.{whole_in_use}
use Rattle.teaching_feed.specs.Feeding.{row_fits, answer_of, keeps, used_after, buffer_after, taught_of}
use Rattle.teaching_feed.proofs.Fitting.{Fed}

module _ (buffer : List ℕ) (used store : ℕ) (s : List ℕ) where
  pub fed_full : row_fits (length buffer) used (length s) ≡ false → Fed buffer used store s (record { answer = Err TeachingBufferFull; used = used }) buffer
  unfolding taught_of answer_of used_after buffer_after keeps
  fed_full f = (rw f, rw f)

  pub fed_impossible : row_fits (length buffer) used (length s) ≡ true → whole_in_use buffer used ≡ false
      → Fed buffer used store s (record { answer = Err ImpossibleState; used = used }) buffer
  unfolding taught_of answer_of used_after buffer_after keeps
  fed_impossible f w = (rw (f, w), rw (f, w))
