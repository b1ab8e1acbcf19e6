-- What the quick gathering hands out is what the account hands out: each of its answers is that of the account's definition.
use Prim.Native.Nat.{ℕ, zero, suc, ◌+◌, ◌≤◌, ◌<◌}
use mathlib.Core.Path.{◌≡◌, refl, sym, ap, ◌∙◌}
use mathlib.Core.Bool.{Bool, true, false, not, false≢true}
use mathlib.Core.List.{List}
use mathlib.Core.Logic.{◌⊎◌, inl, inr}
use native.Mathlib.Nat.{eq-or-lt_of_le}
use native.Mathlib.Omega.{arith}
use borrow.Author.Tests.{le-leb, lt-leb, lt-ltb, le-ltb}
use lib.ListN.{length}
use Rattle.std.specs.Prelude.{if◌then◌else◌, Ok, Err}
use Rattle.ground_choices.proofs.Tests.{refuted}
use Rattle.ground_refusal.specs.declared.Refusal.TheVariants.{OutputTooSmall}
use Rattle.section_reader.specs.declared.Heading.{Heading}
use Rattle.gathering_hand_out.specs.Handing.{handed_if_room, out_by}
use Rattle.gathering_account.specs.Account.{Section, Account, idle, table, Agree, Present, Covered, Complete, in_order, body_of}
use Rattle.gathering_account.specs.Answering.{present, agreeing}
use Rattle.gathering_account.specs.Gathers.{Box, handing, handed_output, SmallestMissing, Answers, nothing_begun_lem, two_differ, one_missing, too_small, handed_out}
use Rattle.gathering_account.proofs.Agreeing.{present_is, is_present, agreeing_is, agree_agreeing}
use Rattle.teaching_questions.specs.Questions.{absent_from}
use Rattle.teaching_hand_out.specs.Asking.{handed_table, handed_to}

-- ---- the smallest missing number

abbrev Next : ℕ → ℕ → List Section → ℕ → Type 0
Next j n S k = (if present j S then absent_from (suc j) n S else j) ≡ k

absent_at : (n j k : ℕ) (S : List Section) → j ≤ k → k < j + n → ((i : ℕ) → i < k → present i S ≡ true) → present k S ≡ false → absent_from j n S ≡ k
unfolding absent_from
absent_at zero j k S a b f g = absurd (omega arith)
absent_at (suc n) j k S a b f g = go (eq-or-lt_of_le a) (λ l. absent_at n (suc j) k S (omega arith) (omega arith) f g)
  where
    go : (j ≡ k) ⊎ (j < k) → (j < k → absent_from (suc j) n S ≡ k) → Next j n S k
    go (inl e) next = rw (ap (λ i. present i S) e ∙ g) e
    go (inr l) next = rw (f j l) (next l)

absent_all : (n j : ℕ) (S : List Section) → ((i : ℕ) → i < j + n → present i S ≡ true) → absent_from j n S ≡ j + n
unfolding absent_from
absent_all zero j S f = omega arith
absent_all (suc n) j S f = rw (f j (omega arith)) (absent_all n (suc j) S (λ i l. f i (omega arith)) ∙ omega arith)

-- ---- by what the account has

module _ (t : Heading) (S : List Section) (room : ℕ) where
  differing : (Agree S → ⊥) → agreeing S ≡ false
  differing d = sym (refuted (agreeing S) (λ e. d (agreeing_is S e)))

  module _ (a : Agree S) where
    lacking : (k : ℕ) → SmallestMissing k t.last S → absent_from 0 (t.last + 1) S ≡ k
    lacking k m =
        let h = m.of_table in
        absent_at (t.last + 1) 0 k S (omega arith) (omega arith) (λ i l. is_present i S (m.smallest i l))
        (sym (refuted (present k S) (λ e. m.missing (present_is k S e))))

    whole : Covered t.last S → absent_from 0 (t.last + 1) S ≡ t.last + 1
    unfolding Covered
    whole c = absent_all (t.last + 1) 0 S (λ i l. is_present i S (c i (omega arith))) ∙ omega arith

    table_whole : Covered t.last S → handed_table t S room ≡ handed_if_room (length (in_order (t.last + 1) S)) room
    unfolding handed_table
    table_whole c = rw (agree_agreeing S a, whole c, lt-leb (t.last + 1) t.last (omega arith))

  -- 21, or the body
  small : room < length (in_order (t.last + 1) S) → handed_if_room (length (in_order (t.last + 1) S)) room ≡ Err OutputTooSmall
  unfolding handed_if_room
  small l = rw (lt-ltb room (length (in_order (t.last + 1) S)) l)

  roomy : length (in_order (t.last + 1) S) ≤ room → handed_if_room (length (in_order (t.last + 1) S)) room ≡ Ok (length (in_order (t.last + 1) S))
  unfolding handed_if_room
  roomy l = rw (le-ltb room (length (in_order (t.last + 1) S)) l)

-- the answer, and what is written
abbrev pub Told : Box → List ℕ → Account → Type 0
Told box out a =
    (handed_to a (length out) ≡ handing box out) × (out_by (body_of a) out (handed_to a (length out)) ≡ handed_output box out)

module _ {box : Box} {out : List ℕ} where
  pub answers_told : {a : Account} → Answers box out a → Told box out a
  unfolding handed_to handed_table out_by body_of Complete
  answers_told (nothing_begun_lem r) = (sym r.answers, sym r.writes)
  answers_told (two_differ {h} {S} d r) = let e = differing h S 0 d in (rw e (sym r.answers), rw e (sym r.writes))
  answers_told (one_missing {h} {S} k a m r) =
      let e = agree_agreeing S a in
      let f = lacking h S 0 a k m in
      let g = le-leb k h.last m.of_table in
      (rw (e, f, g) (sym r.answers), rw (e, f, g) (sym r.writes))
  answers_told (too_small {h} {S} c l r) =
      let e = table_whole h S (length out) c.1 c.0 ∙ small h S (length out) l in
      (e ∙ sym r.answers, ap (out_by (in_order (h.last + 1) S) out) e ∙ sym r.writes)
  answers_told (handed_out {h} {S} c l r) =
      let e = table_whole h S (length out) c.1 c.0 ∙ roomy h S (length out) l in
      (e ∙ sym r.answers, ap (out_by (in_order (h.last + 1) S) out) e ∙ sym r.writes)
