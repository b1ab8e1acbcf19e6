-- Demand 3 with both ways of handing out, over any run of calls: each call keeps what a box stands for, and so what the account says of the next one holds.
use Prim.Native.Nat.{ℕ, zero, suc, ◌+◌, ◌≤◌, ◌<◌}
use Rattle.std.specs.Prelude.{Ok, Err}
use mathlib.Core.Path.{◌≡◌, refl, sym, ◌∙◌, ap}
use mathlib.Core.Bool.{Bool, true, false, false≢true}
use mathlib.Core.List.Memᴰ
use mathlib.Core.List.{List, [], ◌∷◌, map}
use mathlib.Core.Logic.{◌⊎◌, inl, inr}
use native.Mathlib.Nat.{eq-or-lt_of_le}
use native.Mathlib.Omega.{arith}
use lib.ListN.{length}
use Rattle.crc.specs.Crc.{AreBytes}
use Rattle.ground_refusal.specs.declared.Refusal.{Refusal}
use Rattle.ground_refusal.specs.declared.Refusal.TheVariants.{Contradiction, Missing}
use Rattle.ground_choices.proofs.Tests.{both, refuted}
use Rattle.gathering_state.specs.State.{has_room}
use Rattle.gathering_state.proofs.State.{counts_right}
use Rattle.gathering_hand_out.specs.Handing.{body_held as joined_body, complete_of}
use Rattle.gathering_pack.specs.declared.Packed.{Packed}
use Rattle.gathering_pack.proofs.Packing.{packs_refused, packs_complete, packs_counted, packs_long}
use Rattle.gathering_account.specs.Account.{heard, Section, Account, idle, table, account_after, account, Present, Covered, Complete, body_of}
use Rattle.gathering_account.specs.Answering.{present, agreeing}
use Rattle.gathering_account.specs.Gathers.{Box, fresh_box, feed, box_after}
use Rattle.gathering_account.specs.Calls.{packed_answer, pack, Packs, PacksNothing, PackAnswers, none_to_pack, differing, lacking, packed, Call, feeding, handing_out, packing, ByteCalls, box_after_call, box_after_calls, covering, is_complete, account_after_call, account_of_calls, Serves}
use Rattle.gathering_account.proofs.Agreeing.{present_is, is_present, agreeing_is, agree_agreeing}
use Rattle.gathering_account.proofs.Standing.{Stands, fresh_stands, stands_possible, stands_store, stands_few}
use Rattle.gathering_account.proofs.Feeds.{feed_stands}
use Rattle.gathering_account.proofs.Finding.{Finds, finds_nothing, finds_differing, finds_missing, finds_whole, finds}
use Rattle.gathering_account.proofs.Handing.{answers_by}
use Rattle.gathering_account.proofs.Answering.{stands_answers}
use Rattle.gathering_account.proofs.Demand3.{fixes}

-- ---- the test of completeness

covering_is : (n : ℕ) (S : List Section) → covering n S ≡ true → (k : ℕ) → k < n → Present k S
unfolding covering
covering_is zero S e k l = absurd (omega arith)
covering_is (suc n) S e k l = go (eq-or-lt_of_le below) (λ i. covering_is n S parts.0 k i)
  where
    parts : (covering n S ≡ true) × (present n S ≡ true)
    parts = both (covering n S) (present n S) e

    below : k ≤ n
    below = omega arith

    go : (k ≡ n) ⊎ (k < n) → (k < n → Present k S) → Present k S
    go (inl q) next = present_is k S (rw q parts.1)
    go (inr i) next = next i

is_covering : (n : ℕ) (S : List Section) → ((k : ℕ) → k < n → Present k S) → covering n S ≡ true
unfolding covering
is_covering zero S f = refl
is_covering (suc n) S f = rw (is_covering n S (λ k l. f k (omega arith)), is_present n S (f n (omega arith)))

complete_is : (a : Account) → is_complete a ≡ true → Complete a
unfolding is_complete Complete Covered
complete_is idle e = absurd (false≢true e)
complete_is (table h S) e =
    let b = both (covering (h.last + 1) S) (agreeing S) e in
    ((λ k l. covering_is (h.last + 1) S b.0 k (omega arith)), agreeing_is S b.1)

is_complete_lem : (a : Account) → Complete a → is_complete a ≡ true
unfolding is_complete Complete Covered
is_complete_lem idle c = absurd c
is_complete_lem (table h S) c = rw (is_covering (h.last + 1) S (λ k l. c.0 k (omega arith)), agree_agreeing S c.1)

-- ---- packing, by what a box finds

module _ (box : Box) where
  packs_nothing : (r : Refusal) → complete_of box.state (length box.store) ≡ Err r → PacksNothing box r
  unfolding pack
  packs_nothing r e = let p = packs_refused box.state box.store r e in record { answers = sym (ap (λ (x : Packed). x.answer) p.0); leaves = rw (← p.0, ← p.1) }

  module _ (few : length box.state.held ≤ 256) where
    packs_all : (body : List ℕ) → complete_of box.state (length box.store) ≡ (Ok tt) → joined_body box.state box.store ≡ body → Packs box body
    unfolding pack fresh_box
    packs_all body e b =
        let p = packs_complete box.state box.store e in
        let told : packed_answer box ≡ Ok (length body) = sym (ap (λ (x : Packed). x.answer) p.0) ∙ ap (λ (l : List ℕ). Ok (length l)) b in
        record { answers = told; leaves = rw (← b, ← p.0, ← p.1); counted = packs_counted box.state box.store few (length body) told }

    packs_by : {a : Account} → Finds box.state box.store a → PackAnswers box a
    packs_by (finds_nothing e) = none_to_pack (packs_nothing (Missing 0) e)
    packs_by (finds_differing d e) = differing d (packs_nothing Contradiction e)
    packs_by (finds_missing k a s e) = lacking k a s (packs_nothing (Missing k) e)
    packs_by (finds_whole {t} {S} c e b) = packed c (packs_all (body_of (table t S)) e b)

-- ---- what the answers say of a body

module _ {box : Box} where
  no_body : {A : Type 0} {r : Refusal} → PacksNothing box r → (n : ℕ) → packed_answer box ≡ Ok n → A
  no_body e n f = let z : ◌≡◌ {A = ℕ} 0 1 = cc in absurd (omega arith)

  only_complete : {a : Account} → PackAnswers box a → (n : ℕ) → packed_answer box ≡ Ok n → Complete a
  only_complete (none_to_pack e) n b = no_body e n b
  only_complete (differing d e) n b = no_body e n b
  only_complete (lacking k a m e) n b = no_body e n b
  only_complete (packed c e) n b = c

  when_complete : {a : Account} → PackAnswers box a → Complete a → Packs box (body_of a)
  unfolding Complete Covered
  when_complete (none_to_pack e) c = absurd c
  when_complete (differing d e) c = absurd (d c.1)
  when_complete (lacking k a m e) c = absurd (m.missing (c.0 k m.of_table))
  when_complete (packed c e) d = e

-- ---- each call keeps what a box stands for

module _ (bytes : ℕ) (box : Box) where
  abbrev packed_account : Account → Account
  packed_account a = account_after_call (has_room bytes) a packing

  -- a whole table's box is fresh, and its store as long as it was
  packs_fresh : {a : Account} → Stands bytes box a → Complete a → Packs box (body_of a) → Stands bytes (pack box) (packed_account a)
  unfolding account_after_call pack fresh_box
  packs_fresh {a} st c p =
      rw (is_complete_lem a c)
      (fresh_stands (ap (λ (b : Box). b.state) p.leaves) (packs_long box.state box.store (stands_few st) ∙ stands_store st))

  -- any other box stays
  packs_still : {a : Account} → Stands bytes box a → (Complete a → ⊥) → {r : Refusal} → PacksNothing box r → Stands bytes (pack box) (packed_account a)
  unfolding account_after_call
  packs_still {a} st c p = rw (p.leaves, ← (refuted (is_complete a) (λ e. c (complete_is a e)))) st

  packed_stands : {a : Account} → Stands bytes box a → PackAnswers box a → Stands bytes (pack box) (packed_account a)
  unfolding Complete Covered
  packed_stands st (none_to_pack e) = packs_still st (λ c. c) e
  packed_stands st (differing d e) = packs_still st (λ c. d c.1) e
  packed_stands st (lacking k x m e) = packs_still st (λ c. m.missing (c.0 k m.of_table)) e
  packed_stands st (packed c e) = packs_fresh st c e

  call_stands : {a : Account} (c : Call) → ((s : List ℕ) → feeding s ≡ c → AreBytes s) → Stands bytes box a
      → Stands bytes (box_after_call box c) (account_after_call (has_room bytes) a c)
  unfolding box_after_call account_after_call
  call_stands (feeding s) are_bytes st = feed_stands bytes box s (are_bytes s refl) st
  call_stands (handing_out out) are_bytes st = st
  call_stands packing are_bytes st = packed_stands st (packs_by box (stands_few st) (finds bytes box st))

calls_stand : (bytes : ℕ) (calls : List Call) → ByteCalls calls → (box : Box) (a : Account) → Stands bytes box a
    → Stands bytes (box_after_calls box calls) (account_of_calls (has_room bytes) a calls)
unfolding box_after_calls account_of_calls ByteCalls
calls_stand bytes [] are_bytes box a st = st
calls_stand bytes (c ∷ calls) are_bytes box a st =
    calls_stand bytes calls (λ s i. are_bytes s (Memᴰ.tail i)) (box_after_call box c) (account_after_call (has_room bytes) a c)
    (call_stands bytes box c (λ s e. are_bytes s (Memᴰ.head e)) st)

-- ---- the theorem

-- a box that stands for an account serves as it says
serves : (bytes : ℕ) (box : Box) {a : Account} → Stands bytes box a → Serves (has_room bytes) a box
serves bytes box st =
    let found = finds bytes box st in
    let packs = packs_by box (stands_few st) found in
    let possible = stands_possible st in
    record {
      fixed = fixes st;
      possible = possible;
      counts = counts_right box.state possible;
      feeds = λ s. stands_answers bytes box s st;
      hands_out = λ out. answers_by box out found;
      packs = packs;
      packs_exactly = (λ p. only_complete packs p.0 p.1, λ c. (_, (when_complete packs c).answers));
    }

pub calls_serve : (store : List ℕ) (calls : List Call) → ByteCalls calls
    → Serves (has_room (length store)) (account_of_calls (has_room (length store)) idle calls) (box_after_calls (fresh_box store) calls)
unfolding fresh_box
calls_serve store calls are_bytes =
    serves (length store) (box_after_calls (fresh_box store) calls) (calls_stand (length store) calls are_bytes (fresh_box store) idle (fresh_stands refl refl))

-- a run of feeds alone is one of calls
pub feeds_alone : (room : ℕ → Bool) (box : Box) (a : Account) (fed : List (List ℕ))
    → (box_after_calls box (map feeding fed) ≡ box_after box fed) × (account_of_calls room a (map feeding fed) ≡ account room a fed)
unfolding box_after_calls box_after_call account_of_calls account_after_call box_after account
feeds_alone room box a [] = (refl, refl)
feeds_alone room box a (s ∷ fed) = feeds_alone room (feed box s) (account_after room a (heard s)) fed
