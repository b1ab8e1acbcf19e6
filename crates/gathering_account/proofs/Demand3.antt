-- Demand 3, for any list of byte strings, good and bad, that are fed to a fresh state and any store: "a body is handed out exactly when the good, current
-- sections of the fixed table cover every number and no two of one number differ, and it is their contents in number order".
use Prim.Native.Nat.{ℕ, ◌≤◌}
use Rattle.std.specs.Prelude.{Ok}
use mathlib.Core.Path.{◌≡◌}
use mathlib.Core.List.{List}
use native.Mathlib.Omega.{arith}
use lib.ListN.{length}
use Rattle.ground_refusal.specs.declared.Refusal.{Refusal}
use Rattle.gathering_state.specs.State.{has_room}
use Rattle.gathering_account.specs.Account.{Account, idle, account, Covered, Complete, body_of}
use Rattle.gathering_account.specs.Gathers.{Box, fresh_box, ByteStrings, box_after, handing, HandsOut, Refuses, Fixes, Gathers, Answers, nothing_begun_lem, two_differ, one_missing, too_small, handed_out}
use Rattle.gathering_account.proofs.Standing.{Stands, fresh_stands, calm_stands, spoiled_stands}
use Rattle.gathering_account.proofs.Feeds.{fresh_run}
use Rattle.gathering_account.proofs.Finding.{finds}
use Rattle.gathering_account.proofs.Handing.{answers_by}

-- ---- what the answers say of a body

module _ {box : Box} {out : List ℕ} where
  no_body : {A : Type 0} {r : Refusal} → Refuses box out r → (n : ℕ) → handing box out ≡ Ok n → A
  no_body e n f = let z : ◌≡◌ {A = ℕ} 0 1 = cc in absurd (omega arith)

  only_complete : {a : Account} → Answers box out a → (n : ℕ) → handing box out ≡ Ok n → Complete a
  only_complete (nothing_begun_lem e) n b = no_body e n b
  only_complete (two_differ d e) n b = no_body e n b
  only_complete (one_missing k a m e) n b = no_body e n b
  only_complete (too_small c l e) n b = no_body e n b
  only_complete (handed_out c l e) n b = c

  when_complete : {a : Account} → Answers box out a → Complete a → length (body_of a) ≤ length out → HandsOut box out (body_of a)
  unfolding Complete Covered
  when_complete (nothing_begun_lem e) c l = absurd c
  when_complete (two_differ d e) c l = absurd (d c.1)
  when_complete (one_missing k a m e) c l = absurd (m.missing (c.0 k m.of_table))
  when_complete (too_small c m e) d l = absurd (omega arith)
  when_complete (handed_out c m e) d l = e

  what_body : {a : Account} → Answers box out a → (n : ℕ) → handing box out ≡ Ok n → HandsOut box out (body_of a)
  what_body (nothing_begun_lem e) n b = no_body e n b
  what_body (two_differ d e) n b = no_body e n b
  what_body (one_missing k a m e) n b = no_body e n b
  what_body (too_small c l e) n b = no_body e n b
  what_body (handed_out c l e) n b = e

pub fixes : {bytes : ℕ} {box : Box} {a : Account} → Stands bytes box a → Fixes a box.state
unfolding Fixes
fixes (fresh_stands z l) = z
fixes (calm_stands x l z k) = (x.same.kind, x.same.extension, x.same.version, x.same.last)
fixes (spoiled_stands x l z k o) = (x.same.kind, x.same.extension, x.same.version, x.same.last)

-- ---- the theorems

module _ (store : List ℕ) (fed : List (List ℕ)) (are_bytes : ByteStrings fed) (out : List ℕ) where
  -- every answer of handing out after a run, refusals too
  pub handing_answers : Answers (box_after (fresh_box store) fed) out (account (has_room (length store)) idle fed)
  handing_answers = answers_by (box_after (fresh_box store) fed) out (finds (length store) (box_after (fresh_box store) fed) (fresh_run store fed are_bytes))

  pub demand_3 : Gathers (account (has_room (length store)) idle fed) (box_after (fresh_box store) fed) out
  demand_3 =
      record {
        fixed = fixes (fresh_run store fed are_bytes);
        only_when = only_complete handing_answers;
        when = when_complete handing_answers;
        body_is = what_body handing_answers;
      }
