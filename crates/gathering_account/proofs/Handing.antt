-- What handing out answers by what a box finds.
use Prim.Native.Nat.{ℕ, ◌≤◌}
use Rattle.std.specs.Prelude.{Ok, Err}
use mathlib.Core.Path.{◌≡◌, refl, sym, ◌∙◌, ap}
use mathlib.Core.Bool.{Bool, true, false}
use mathlib.Core.List.{List}
use native.Mathlib.Omega.{arith}
use borrow.Author.Tests.{ltb-true, ltb-false}
use lib.Dec.{ltb}
use lib.ListN.{length}
use Rattle.ground_refusal.specs.declared.Refusal.{Refusal}
use Rattle.ground_refusal.specs.declared.Refusal.TheVariants.{Contradiction, Missing, OutputTooSmall}
use Rattle.ground_placing.specs.Placed.{placed}
use Rattle.section_reader.specs.declared.Heading.{Heading}
use Rattle.gathering_hand_out.specs.Handing.{body_held as joined_body, complete_of, out_by}
use Rattle.gathering_hand_out.proofs.Handing.{fitting_small, fitting_body, hands_refused, hands_complete}
use Rattle.gathering_account.specs.Account.{Section, Account, table, Complete, body_of}
use Rattle.gathering_account.specs.Gathers.{Box, Refuses, Answers, nothing_begun_lem, two_differ, one_missing, too_small, handed_out}
use Rattle.gathering_account.proofs.Finding.{Finds, finds_nothing, finds_differing, finds_missing, finds_whole}

module _ (box : Box) (out : List ℕ) where
  abbrev joined : List ℕ
  joined = joined_body box.state box.store

  refuses : (r : Refusal) → complete_of box.state (length box.store) ≡ Err r → Refuses box out r
  refuses r e = let h = hands_refused box.state box.store out r e in record { answers = sym h.0; writes = sym h.1 }

  -- all is there: its body, if the output has room for it
  hands : (t : Heading) (S : List Section) → Complete (table t S) → complete_of box.state (length box.store) ≡ (Ok tt) → joined ≡ body_of (table t S)
      → (b : Bool) → ltb (length out) (length joined) ≡ b → Answers box out (table t S)
  unfolding out_by
  hands t S c e b true f =
      let l = ltb-true (length out) (length joined) f in
      let m = ap length b in
      let h = hands_complete box.state box.store out e (Err OutputTooSmall) (fitting_small _ _ l) out refl in
      too_small {h = t} {S = S} c (omega arith) (record { answers = sym h.0; writes = sym h.1 })
  hands t S c e b false f =
      let l = ltb-false (length out) (length joined) f in
      let m = ap length b in
      let h = hands_complete box.state box.store out e (Ok (length joined)) (fitting_body _ _ l) (placed out 0 joined) refl in
      handed_out {h = t} {S = S} c (omega arith) (record { answers = sym h.0 ∙ ap Ok m; writes = sym h.1 ∙ ap (placed out 0) b })

  pub answers_by : {a : Account} → Finds box.state box.store a → Answers box out a
  answers_by (finds_nothing e) = nothing_begun_lem (refuses (Missing 0) e)
  answers_by (finds_differing d e) = two_differ d (refuses Contradiction e)
  answers_by (finds_missing k a s e) = one_missing k a s (refuses (Missing k) e)
  answers_by (finds_whole {t} {S} c e b) = hands t S c e b (ltb (length out) (length joined)) refl
