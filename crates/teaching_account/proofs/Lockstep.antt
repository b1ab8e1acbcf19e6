-- The theorem: over every run of feeds that the teaching buffer has room for, the slow gathering is in lockstep with the quick one, since each is as the
-- account says; neither is compared with the other's state.
use Prim.Native.Nat.{ℕ, ◌^◌, ◌≤◌, ◌<◌}
use mathlib.Core.Path.{◌≡◌, refl, sym, ap, ap₂, ◌∙◌}
use mathlib.Core.Bool.{true}
use mathlib.Core.List.{List, [], ◌∷◌, ◌++◌}
use native.Mathlib.Omega.{arith}
use lib.ListN.{length, take}
use Rattle.gathering_state.specs.State.{has_room}
use Rattle.gathering_state.specs.declared.Gathering.{Gathering}
use Rattle.gathering_hand_out.specs.Handing.{out_by}
use Rattle.gathering_account.specs.Account.{Account, idle, table, account, body_of}
use Rattle.gathering_account.specs.Gathers.{Box, fresh_box, box_after, ByteStrings, Fixes, handing, handed_output}
use Rattle.gathering_account.proofs.Answering.{feed_answers, run_answers}
use Rattle.gathering_account.proofs.Feeds.{fresh_run}
use Rattle.gathering_account.proofs.Demand3.{fixes, handing_answers}
use Rattle.teaching_rows.specs.Rows.{length_bytes, rows, whole_in_use}
use Rattle.teaching_table.specs.Table.{account_in}
use Rattle.teaching_hand_out.specs.Asking.{headed_to, lacking_to, handed_to, heading_of, lacking_of, handed_of, out_after}
use Rattle.teaching_account.specs.Lockstep.{Slow, fresh_slow, slow_after, SameHeading, Lockstep}
use Rattle.teaching_account.proofs.Keeping.{Keeps, kept_whole, kept_account, kept_answer, full_answer, full_feed, run_keeps, run_answers as slow_answers}
use Rattle.teaching_account.proofs.Handing.{answers_told}
use Rattle.teaching_account.proofs.Missing.{stands_missing}

-- ---- by the account

heads : (a : Account) (g : Gathering) → Fixes a g → SameHeading (headed_to a) g
unfolding SameHeading headed_to Fixes
heads idle g f = (refl, f)
heads (table t S) g f = f

module _ (buffer : List ℕ) (used store : ℕ) (a : Account) (w : whole_in_use buffer used ≡ true) (e : account_in store (take used buffer) ≡ a) where
  heading_is : heading_of buffer used store ≡ headed_to a
  unfolding heading_of
  heading_is = rw w (ap headed_to e)

  lacking_is : lacking_of buffer used store ≡ lacking_to a
  unfolding lacking_of
  lacking_is = rw w (ap lacking_to e)

  handed_is : (out : List ℕ) → handed_of buffer used store out ≡ handed_to a (length out)
  unfolding handed_of
  handed_is out = rw w (ap (λ x. handed_to x (length out)) e)

  out_is : (out : List ℕ) → out_after buffer used store out ≡ out_by (body_of a) out (handed_to a (length out))
  unfolding out_after
  out_is out = ap₂ (λ x y. out_by (body_of x) out y) e (handed_is out)

-- ---- the theorem

module _ (buffer store : List ℕ) (few : length buffer < 256 ^ length_bytes) (fed : List (List ℕ)) (are_bytes : ByteStrings fed)
    (fits : length (rows fed) ≤ length buffer) where
  abbrev n : ℕ
  n = length buffer

  abbrev slow : Slow
  slow = slow_after (fresh_slow buffer) fed

  abbrev box : Box
  box = box_after (fresh_box store) fed

  abbrev a : Account
  a = account (has_room (length store)) idle fed

  fresh : Keeps n (fresh_slow buffer) []
  unfolding fresh_slow rows
  fresh = record { used = refl; rows_are = refl; long = refl }

  kept : Keeps n slow fed
  kept = run_keeps n few fed [] (fresh_slow buffer) fresh fits

  whole : whole_in_use slow.buffer slow.used ≡ true
  whole = kept_whole n few slow fed kept fits

  told : account_in (length store) (take slow.used slow.buffer) ≡ a
  told = kept_account n few slow fed kept fits (length store)

  -- what is in use is exactly the rows of what was fed
  pub keeps_fed : take slow.used slow.buffer ≡ rows fed
  keeps_fed = kept.rows_are

  pub lockstep : Lockstep buffer store fed
  unfolding account
  lockstep =
      record {
        answers = slow_answers n few (length store) fed [] (fresh_slow buffer) fresh fits ∙ sym (run_answers store fed are_bytes);
        next = λ s h. kept_answer n few slow fed kept fits s h (length store) ∙ sym (feed_answers store fed are_bytes s);
        full = λ s h. (full_answer n few slow fed kept fits s (length store) h, full_feed n few slow fed kept fits s h);
        hands_out = λ out. handed_is slow.buffer slow.used (length store) a whole told out ∙ (answers_told (handing_answers store fed are_bytes out)).0;
        writes = λ out. out_is slow.buffer slow.used (length store) a whole told out ∙ (answers_told (handing_answers store fed are_bytes out)).1;
        heading = rw (heading_is slow.buffer slow.used (length store) a whole told) (heads a box.state (fixes (fresh_run store fed are_bytes)));
        missing = rw (lacking_is slow.buffer slow.used (length store) a whole told) (stands_missing (fresh_run store fed are_bytes));
      }
