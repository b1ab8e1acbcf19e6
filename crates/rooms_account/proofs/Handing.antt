-- What handing out tells by the account: each answer of the single gathering, as a function of the account alone.
use Prim.Native.Nat.{ℕ, zero, suc, ◌+◌, ◌≤◌, ◌<◌}
use Rattle.std.specs.Prelude.{Result, Ok, Err}
use mathlib.Core.Path.{◌≡◌, refl, sym, ◌∙◌, ap}
use mathlib.Core.Bool.{true, false}
use mathlib.Core.List.{List}
use mathlib.Core.Logic.{◌⊎◌, inl, inr}
use native.Mathlib.Nat.{eq-or-lt_of_le}
use native.Mathlib.Omega.{arith}
use lib.ListN.{length}
use Rattle.ground_choices.proofs.Tests.{both, refuted}
use Rattle.ground_placing.specs.Placed.{placed}
use Rattle.ground_refusal.specs.declared.Refusal.{Refusal}
use Rattle.ground_refusal.specs.declared.Refusal.TheVariants.{Contradiction, Missing, OutputTooSmall}
use Rattle.section_reader.specs.declared.Heading.{Heading}
use Rattle.gathering_hand_out.specs.Handing.{handed_if_room, out_by}
use Rattle.gathering_hand_out.proofs.Handing.{fitting_small, fitting_body}
use Rattle.gathering_account.specs.Account.{Section, Account, idle, table, Present, Covered, Complete, body_of}
use Rattle.gathering_account.specs.Answering.{present, agreeing}
use Rattle.gathering_account.specs.Gathers.{Box, SmallestMissing, Answers, nothing_begun_lem, two_differ, one_missing, too_small, handed_out, handing, handed_output}
use Rattle.gathering_account.specs.Calls.{covering}
use Rattle.gathering_account.proofs.Agreeing.{present_is, is_present, agreeing_is, agree_agreeing}
use Rattle.gathering_account.proofs.Finding.{finds}
use Rattle.gathering_account.proofs.Handing.{answers_by}
use Rattle.rooms_state.specs.declared.Part.{Part}
use Rattle.rooms_hand_out.specs.Handing.{part_handed, part_out}
use Rattle.rooms_account.specs.Alone.{absent_from, handed_to, out_to}
use Rattle.rooms_account.proofs.Shadow.{shadow_handed, shadow_out}
use Rattle.rooms_account.proofs.Feeding.{Own}

-- ---- the tests of an account

covering_is : (n : ℕ) (S : List Section) → covering n S ≡ true → (k : ℕ) → k < n → Present k S
unfolding covering
covering_is zero S e k l = absurd (omega arith)
covering_is (suc n) S e k l = go (eq-or-lt_of_le below) (λ i. covering_is n S parts.0 k i)
  where
    parts : (covering n S ≡ true) × (present n S ≡ true)
    parts = both (covering n S) (present n S) e

    below : k ≤ n
    below = omega arith

    go : (k ≡ n) ⊎ (k < n) → (k < n → Present k S) → Present k S
    go (inl q) next = present_is k S (rw q parts.1)
    go (inr i) next = next i

is_covering : (n : ℕ) (S : List Section) → ((k : ℕ) → k < n → Present k S) → covering n S ≡ true
unfolding covering
is_covering zero S f = refl
is_covering (suc n) S f = rw (is_covering n S (λ k l. f k (omega arith)), is_present n S (f n (omega arith)))

-- the first number of which there is no section
absent_is : (S : List Section) (n k j : ℕ) → ((i : ℕ) → k ≤ i → i < j → present i S ≡ true) → present j S ≡ false → k ≤ j → j < k + n → absent_from S k n ≡ j
unfolding absent_from
absent_is S zero k j f e l m = absurd (omega arith)
absent_is S (suc n) k j f e l m =
    go (eq-or-lt_of_le l) (λ i. absent_is S n (suc k) j (λ t a b. f t (omega arith) b) e (omega arith) (omega arith))
  where
    go : (k ≡ j) ⊎ (k < j) → (k < j → absent_from S (suc k) n ≡ j) → absent_from S k (suc n) ≡ j
    go (inl q) next = let a : present k S ≡ false = ap (λ (i : ℕ). present i S) q ∙ e in rw a q
    go (inr i) next = let a = f k (omega arith) i in rw a (next i)

absent_smallest : (S : List Section) (last k : ℕ) → SmallestMissing k last S → absent_from S 0 (last + 1) ≡ k
unfolding Present
absent_smallest S last k m =
    let top = m.of_table in
    absent_is S (last + 1) 0 k (λ i l b. is_present i S (m.smallest i b))
    (sym (refuted (present k S) (λ e. m.missing (present_is k S e)))) (omega arith) (omega arith)

-- ---- what is handed by the account

module _ (h : Heading) (S : List Section) (room : ℕ) where
  hands_differing : agreeing S ≡ false → handed_to (table h S) room ≡ Err Contradiction
  unfolding handed_to
  hands_differing a = rw a

  module _ (a : agreeing S ≡ true) where
    hands_missing : covering (h.last + 1) S ≡ false → (k : ℕ) → absent_from S 0 (h.last + 1) ≡ k → handed_to (table h S) room ≡ Err (Missing k)
    unfolding handed_to
    hands_missing c k e = rw (a, c, e)

    hands_whole : covering (h.last + 1) S ≡ true → handed_to (table h S) room ≡ handed_if_room (length (body_of (table h S))) room
    unfolding handed_to
    hands_whole c = rw (a, c)

complete_tests : (h : Heading) (S : List Section) → Complete (table h S) → (agreeing S ≡ true) × (covering (h.last + 1) S ≡ true)
unfolding Complete Covered
complete_tests h S c = (agree_agreeing S c.1, is_covering (h.last + 1) S (λ k l. c.0 k (omega arith)))

-- the answer and the output of one network's handing out
abbrev Hands : Account → List ℕ → Result ℕ Refusal → List ℕ → Type 0
Hands a out r out' = (r ≡ handed_to a (length out)) × (out' ≡ out_to a out)

out_by_lem : (a : Account) (out : List ℕ) (r : Result ℕ Refusal) → r ≡ handed_to a (length out) → out_by (body_of a) out r ≡ out_to a out
unfolding out_to
out_by_lem a out r e = ap (out_by (body_of a) out) e

refused_hands : (a : Account) (out : List ℕ) (r : Refusal) → Err r ≡ handed_to a (length out) → Hands a out (Err r) out
unfolding out_by
refused_hands a out r e = (e, out_by_lem a out (Err r) e)

body_hands : (a : Account) (out : List ℕ) (m : ℕ) → Ok m ≡ handed_to a (length out) → Hands a out (Ok m) (placed out 0 (body_of a))
unfolding out_by
body_hands a out m e = (e, out_by_lem a out (Ok m) e)

module _ (box : Box) (out : List ℕ) where
  hands_by : {a : Account} → Answers box out a → Hands a out (handing box out) (handed_output box out)
  unfolding handed_to Present Covered
  hands_by (nothing_begun_lem r) = rw (r.answers, r.writes) (refused_hands idle out (Missing 0) refl)
  hands_by (two_differ {h} {S} d r) =
      rw (r.answers, r.writes)
      (refused_hands (table h S) out Contradiction (sym (hands_differing h S (length out) (sym (refuted (agreeing S) (λ i. d (agreeing_is S i)))))))
  hands_by (one_missing {h} {S} k agree m r) =
      let top = m.of_table in
      let not_all = sym (refuted (covering (h.last + 1) S) (λ e. m.missing (covering_is (h.last + 1) S e k (omega arith)))) in
      rw (r.answers, r.writes)
      (refused_hands (table h S) out (Missing k)
      (sym (hands_missing h S (length out) (agree_agreeing S agree) not_all k (absent_smallest S h.last k m))))
  hands_by (too_small {h} {S} c l r) =
      let t = complete_tests h S c in
      rw (r.answers, r.writes)
      (refused_hands (table h S) out OutputTooSmall (fitting_small _ _ l ∙ sym (hands_whole h S (length out) t.0 t.1)))
  hands_by (handed_out {h} {S} c l r) =
      let t = complete_tests h S c in
      rw (r.answers, r.writes)
      (body_hands (table h S) out (length (body_of (table h S))) (fitting_body _ _ l ∙ sym (hands_whole h S (length out) t.0 t.1)))

module _ (p : Part) (store : List ℕ) {a : Account} (own : Own p store a) (out : List ℕ) where
  abbrev box : Box
  box = record { state = p.gathering; store = own.shadow }

  -- what the single gathering over a store of its own would answer
  pub own_answers : Answers box out a
  own_answers = answers_by box out (finds 1045504 box own.stands)

  pub own_handed : part_handed p store out ≡ handed_to a (length out)
  own_handed = shadow_handed p store own.shadow own.shadows out ∙ (hands_by box out own_answers).0

  pub own_out : part_out p store out ≡ out_to a out
  own_out = shadow_out p store own.shadow own.shadows out ∙ (hands_by box out own_answers).1
