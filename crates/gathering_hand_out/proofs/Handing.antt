-- Laws of handing out: what leads to each answer, and what is known where a table is complete.
use Prim.Native.Nat.{ℕ, ◌+◌, ◌-◌, ◌*◌, ◌≤◌, ◌<◌}
use Rattle.std.specs.Prelude.{Result, Ok, Err}
use mathlib.Core.Path.{◌≡◌, refl, sym, ◌∙◌, ap}
use mathlib.Core.Bool.{true, false, not}
use mathlib.Core.List.{List}
use native.Mathlib.Nat.{zero-add}
use native.Mathlib.Omega.{arith}
use borrow.Author.Tests.{not-false, eq-eqb, ne_eqb, eqb-true, lt-ltb, le-ltb, ltb-false}
use lib.Dec.{eqb, ltb}
use lib.ListN.{length, get_or, length-take}
use Rattle.ground_refusal.specs.declared.Refusal.{Refusal}
use Rattle.ground_refusal.specs.declared.Refusal.TheVariants.{Contradiction, Missing, OutputTooSmall}
use Rattle.ground_placing.specs.Placed.{placed}
use Rattle.gathering_state.specs.Lists.{smallest_missing, total}
use Rattle.gathering_state.specs.State.{possible_of, nothing_begun, place, has_room, lengths}
use Rattle.gathering_state.specs.declared.Gathering.{Gathering}
use Rattle.gathering_state.proofs.Lists.{greatest_at, greatest_take, total_most}
use Rattle.gathering_state.proofs.State.{place_within, possible_short}
use Rattle.ground_choices.proofs.Tests.{past}
use Rattle.gathering_hand_out.specs.Handing.{joined, body_held, missing_of, complete_of, handed_if_room, handed_by, handed_of, out_by, out_after, InStore}
use Rattle.gathering_hand_out.proofs.Joining.{joined_length, joined_most}

-- ---- is all of a table there?

module _ (ls : List ℕ) (k : ℕ) (e : k ≡ smallest_missing ls) where
  pub missing_some : k < length ls → Err (Missing k) ≡ missing_of ls
  unfolding missing_of
  missing_some h = simp (← e, lt-ltb k (length ls) h)

  pub missing_none : length ls ≤ k → (Ok tt) ≡ missing_of ls
  unfolding missing_of
  missing_none h = simp (← e, le-ltb k (length ls) h)

-- a table that is all there, in a store of `bytes` bytes
pub record Whole (g : Gathering) (bytes : ℕ) : Type 0 where
  pub possible : possible_of g ≡ true
  pub begun : nothing_begun g ≡ false
  pub roomy : has_room bytes g.last ≡ true
  pub calm : g.spoiled ≡ 0
  pub full : length (lengths g) ≤ smallest_missing (lengths g)

module _ (g : Gathering) (bytes : ℕ) where
  module _ (p : possible_of g ≡ true) where
    pub complete_fresh : nothing_begun g ≡ true → complete_of g bytes ≡ Err (Missing 0)
    unfolding complete_of
    complete_fresh b = simp (p, b)

    module _ (b : nothing_begun g ≡ false) where
      module _ (r : has_room bytes g.last ≡ true) where
        pub complete_spoiled : (g.spoiled ≡ 0 → ⊥) → complete_of g bytes ≡ Err Contradiction
        unfolding complete_of
        complete_spoiled s = simp (p, b, r, ne_eqb _ _ s)

        pub complete_calm : g.spoiled ≡ 0 → complete_of g bytes ≡ missing_of (lengths g)
        unfolding complete_of
        complete_calm s = simp (p, b, r, eq-eqb _ _ s)

  pub whole_complete : Whole g bytes → complete_of g bytes ≡ Ok tt
  whole_complete w = complete_calm w.possible w.begun w.roomy w.calm ∙ sym (missing_none (lengths g) _ refl w.full)

  refused_not_complete : (r : Refusal) → ◌≡◌ {A = Result Unit Refusal} (Err r) (Ok tt) → ⊥
  refused_not_complete r e = cc

  pub complete_whole : complete_of g bytes ≡ (Ok tt) → Whole g bytes
  unfolding complete_of missing_of
  complete_whole e =
      let a = past (not (possible_of g)) _ _ _ (refused_not_complete _) e in
      let b = past (nothing_begun g) _ _ _ (refused_not_complete _) a.1 in
      let c = past (not (has_room bytes g.last)) _ _ _ (refused_not_complete _) b.1 in
      let d = past (not (eqb g.spoiled 0)) _ _ _ (refused_not_complete _) c.1 in
      let f = past (ltb (smallest_missing (lengths g)) (length (lengths g))) _ _ _ (refused_not_complete _) d.1 in
      record {
        possible = not-false _ a.0;
        begun = b.0;
        roomy = not-false _ c.0;
        calm = eqb-true _ _ (not-false _ d.0);
        full = ltb-false _ _ f.0;
      }

-- ---- the payloads of a whole table lie in the store

module _ (held store : List ℕ) (i : InStore held store) where
  pub in_store_at : (k : ℕ) → k < length held → place k + (get_or held k 0 - 1) ≤ length store
  in_store_at k h = let w = i.within k h in let a = greatest_at held k in let s = i.short in omega arith

  pub in_store_length : length (joined place 0 held store) ≡ total held
  in_store_length = joined_length place store 0 held (λ k h. rw (zero-add k) (in_store_at k h))

module _ (g : Gathering) (store : List ℕ) where
  pub few_in_store : length (lengths g) ≤ 256 → Whole g (length store) → InStore (lengths g) store
  unfolding lengths
  few_in_store few w =
      let m = length-take (g.last + 1) g.held in
      record {
        few = few;
        short = let a = greatest_take (g.last + 1) g.held in let b = possible_short g w.possible in omega arith;
        within = λ k h. place_within (length store) g.last k w.roomy (omega arith);
      }

  pub whole_in_store : length g.held ≤ 256 → Whole g (length store) → InStore (lengths g) store
  unfolding lengths
  whole_in_store l w = let m = length-take (g.last + 1) g.held in few_in_store (omega arith) w

-- no possible state joins to more than 256 × 4,084 bytes, whatever the store holds
pub body_most_lem : (g : Gathering) (store : List ℕ) → length g.held ≤ 256 → possible_of g ≡ true → length (body_held g store) ≤ 256 * 4084
unfolding body_held lengths
body_most_lem g store l p =
    let few = length-take (g.last + 1) g.held in
    let taken = greatest_take (g.last + 1) g.held in
    let short = possible_short g p in
    let long = joined_most place store 0 (lengths g) in
    let most = total_most (lengths g) (omega arith) in
    omega arith

-- ---- the answer and the output

module _ (n room : ℕ) where
  pub fitting_small : room < n → Err OutputTooSmall ≡ handed_if_room n room
  unfolding handed_if_room
  fitting_small r = simp (lt-ltb room n r)

  pub fitting_body : n ≤ room → Ok n ≡ handed_if_room n room
  unfolding handed_if_room
  fitting_body r = simp (le-ltb room n r)

  refused_no_body : (r : Refusal) (m : ℕ) → Err r ≡ Ok m → ⊥
  refused_no_body r m e = let z : ◌≡◌ {A = ℕ} 0 1 = cc in omega arith

  pub fitting_is : (m : ℕ) → handed_if_room n room ≡ Ok m → (m ≡ n) × (m ≤ room)
  unfolding handed_if_room
  fitting_is m e =
      let b = past (ltb room n) _ _ _ (refused_no_body _ m) e in
      let c : m ≡ n = (let f = b.1 in cc) in
      let d = ltb-false room n b.0 in
      (c, omega arith)

-- the answers for payloads that lie in the store, n bytes of them
module _ (at : ℕ → ℕ) (held store out : List ℕ) (lie : (k : ℕ) → k < length held → at k + (get_or held k 0 - 1) ≤ length store) (n : ℕ) (e : n ≡ total held) where
  abbrev body : List ℕ
  body = joined at 0 held store

  body_long : length body ≡ n
  body_long = joined_length at store 0 held (λ k h. rw (zero-add k) (lie k h)) ∙ sym e

  pub held_small : length out < n → (Err OutputTooSmall ≡ handed_if_room (length body) (length out)) × (out ≡ out_by body out (Err OutputTooSmall))
  unfolding out_by
  held_small r = (rw body_long (fitting_small n (length out) r), refl)

  pub held_body : n ≤ length out → (out' : List ℕ) → out' ≡ placed out 0 body
      → (Ok n ≡ handed_if_room (length body) (length out)) × (out' ≡ out_by body out (Ok n))
  unfolding out_by
  held_body r out' q = (rw body_long (fitting_body n (length out) r), q)

module _ (g : Gathering) (store out : List ℕ) where
  pub hands_refused : (r : Refusal) → complete_of g (length store) ≡ Err r → (Err r ≡ handed_of g store out) × (out ≡ out_after g store out)
  unfolding handed_of handed_by out_after out_by
  hands_refused r e = (rw e, rw e)

  pub hands_complete : complete_of g (length store) ≡ (Ok tt) → (r : Result ℕ Refusal) → r ≡ handed_if_room (length (body_held g store)) (length out)
      → (out' : List ℕ) → out' ≡ out_by (body_held g store) out r → (r ≡ handed_of g store out) × (out' ≡ out_after g store out)
  unfolding handed_of handed_by out_after
  hands_complete e r f out' q = (rw e f, rw e (q ∙ ap (out_by (body_held g store) out) f))

  -- a whole table whose body has room is handed out
  pub whole_handed : Whole g (length store) → length (body_held g store) ≤ length out
      → (Ok (length (body_held g store)) ≡ handed_of g store out) × (placed out 0 (body_held g store) ≡ out_after g store out)
  unfolding out_by
  whole_handed w r = hands_complete (whole_complete g (length store) w) _ (fitting_body _ _ r) _ refl

  -- whatever is handed out is that
  pub handed_whole : (n : ℕ) → handed_of g store out ≡ Ok n → Whole g (length store) × (n ≡ length (body_held g store)) × (n ≤ length out)
  unfolding handed_of handed_by
  handed_whole n e = go (complete_of g (length store)) refl e
    where
      go : (c : Result Unit Refusal) → complete_of g (length store) ≡ c → handed_by c (length (body_held g store)) (length out) ≡ Ok n
          → Whole g (length store) × (n ≡ length (body_held g store)) × (n ≤ length out)
      go (Err r) f e = let z : ◌≡◌ {A = ℕ} 0 1 = cc in absurd (omega arith)
      go (Ok tt) f e = let a = fitting_is (length (body_held g store)) (length out) n e in (complete_whole g (length store) f, a.0, a.1)
