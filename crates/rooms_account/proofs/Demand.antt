-- Demand 3 for each network, after any run: a body is handed out exactly when what it was fed and not refused for room is complete, and it is their contents in
-- number order.
use Prim.Native.Nat.{ℕ, ◌≤◌}
use mathlib.Core.Path.{◌≡◌, refl, sym, ◌∙◌}
use mathlib.Core.Bool.{true}
use mathlib.Core.List.{List, [], ◌∷◌}
use mathlib.Core.Option.{some}
use native.Mathlib.Omega.{arith}
use lib.ListN.{length}
use Rattle.std.specs.Prelude.{if◌then◌else◌, Ok}
use Rattle.ground_refusal.specs.declared.Refusal.{Refusal}
use Rattle.gathering_account.specs.Account.{Account, idle, Complete, Covered, body_of}
use Rattle.gathering_account.specs.Gathers as G
use Rattle.gathering_account.specs.Gathers.{Answers, nothing_begun_lem, two_differ, one_missing, too_small, handed_out, Refuses}
use Rattle.gathering_account.proofs.Demand3.{fixes}
use Rattle.rooms_state.specs.State.{Network}
use Rattle.rooms_hand_out.specs.Handing.{handed_of, out_after, handed_for, out_for}
use Rattle.rooms_account.specs.Alone.{Call, feeding, handing_out, ending, after}
use Rattle.rooms_account.specs.Runs.{Box, fresh_box, Asked, next, run, ByteCalls, owns, free_for}
use Rattle.rooms_account.specs.Demand.{account_at, account_of, HandsOut, Gathers}
use Rattle.rooms_account.proofs.Shadow.{shadow_handed, shadow_out}
use Rattle.rooms_account.proofs.Handing.{own_answers}
use Rattle.rooms_account.proofs.Calls.{possible, part, Owns}
use Rattle.rooms_account.proofs.Runs.{Turn, own_turn, other_turn, turn, ByteCall, first_bytes, rest_bytes, next_possible, run_possible}
use Rattle.rooms_account.proofs.Runs.{fresh_possible, fresh_owns}

-- ---- the account of a run

at_is : (i : Network) (x : Box) (a : Account) (c : Call) → account_at i x a c ≡ after a c (free_for i x c)
unfolding account_at after
at_is i x a (feeding s) = refl
at_is i x a (handing_out out) = refl
at_is i x a ending = refl

pub run_owns : (i : Network) (asked : List Asked) (x : Box) → possible x ≡ true → ByteCalls asked → (a : Account) → Owns i x a
    → Owns i (run x asked) (account_of i x a asked)
unfolding run account_of
run_owns i [] x ok b a own = own
run_owns i (c ∷ asked) x ok b a own =
    run_owns i asked (next x c) (next_possible x ok c first) (rest_bytes c asked b)
    (if owns i c then account_at i x a c.call else a) (go (turn i x ok c first own))
  where
    first : ByteCall c
    first = first_bytes c asked b

    go : Turn i x c a → Owns i (next x c) (if owns i c then account_at i x a c.call else a)
    go (own_turn o t n own') = rw (o, at_is i x a c.call) own'
    go (other_turn o own') = rw o own'

-- ---- handing out

module _ (i : Network) (x : Box) (ok : possible x ≡ true) {a : Account} (own : Owns i x a) (out : List ℕ) where
  abbrev box : G.Box
  box = record { state = (part i x).gathering; store = own.shadow }

  handed_is : handed_of (some i) x.state x.store out ≡ G.handing box out
  unfolding handed_of handed_for
  handed_is = rw ok (shadow_handed (part i x) x.store own.shadow own.shadows out)

  out_is : out_after (some i) x.state x.store out ≡ G.handed_output box out
  unfolding out_after out_for
  out_is = rw ok (shadow_out (part i x) x.store own.shadow own.shadows out)

  no_body : {A : Type 0} {r : Refusal} → Refuses box out r → (n : ℕ) → G.handing box out ≡ Ok n → A
  no_body e n f = let z : ◌≡◌ {A = ℕ} 0 1 = cc in absurd (omega arith)

  hands : G.HandsOut box out (body_of a) → HandsOut i x out (body_of a)
  hands h = record { answers = handed_is ∙ h.answers; writes = out_is ∙ h.writes }

  only_complete : {d : Account} → Answers box out d → (n : ℕ) → G.handing box out ≡ Ok n → Complete d
  only_complete (nothing_begun_lem e) n b = no_body e n b
  only_complete (two_differ d e) n b = no_body e n b
  only_complete (one_missing k a m e) n b = no_body e n b
  only_complete (too_small c l e) n b = no_body e n b
  only_complete (handed_out c l e) n b = c

  when_complete : {d : Account} → Answers box out d → Complete d → length (body_of d) ≤ length out → G.HandsOut box out (body_of d)
  unfolding Complete Covered
  when_complete (nothing_begun_lem e) c l = absurd c
  when_complete (two_differ d e) c l = absurd (d c.1)
  when_complete (one_missing k a m e) c l = absurd (m.missing (c.0 k m.of_table))
  when_complete (too_small c m e) d l = absurd (omega arith)
  when_complete (handed_out c m e) d l = e

  what_body : {d : Account} → Answers box out d → (n : ℕ) → G.handing box out ≡ Ok n → G.HandsOut box out (body_of d)
  what_body (nothing_begun_lem e) n b = no_body e n b
  what_body (two_differ d e) n b = no_body e n b
  what_body (one_missing k a m e) n b = no_body e n b
  what_body (too_small c l e) n b = no_body e n b
  what_body (handed_out c l e) n b = e

  pub gathers : Gathers i a x out
  gathers =
      let answers = own_answers (part i x) x.store own out in
      record {
        fixed = fixes own.stands;
        only_when = λ n e. only_complete answers n (sym handed_is ∙ e);
        when = λ c l. hands (when_complete answers c l);
        body_is = λ n e. hands (what_body answers n (sym handed_is ∙ e));
      }

-- ---- the theorem

-- "Demand 3 holds for each network, with 'the store has room' read as a free room; a section refused for room counts as not fed"
pub demand_3 : (i : Network) (store : List ℕ) (asked : List Asked) → ByteCalls asked → (out : List ℕ)
    → Gathers i (account_of i (fresh_box store) idle asked) (run (fresh_box store) asked) out
demand_3 i store asked b out =
    gathers i (run (fresh_box store) asked) (run_possible asked (fresh_box store) (fresh_possible store) b)
    (run_owns i asked (fresh_box store) (fresh_possible store) b idle (fresh_owns i store)) out
