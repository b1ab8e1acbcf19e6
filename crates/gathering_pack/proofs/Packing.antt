-- Laws of packing: a payload moved to the front overwrites none that is still to be moved, what leads to each answer, and that it answers as handing out does.
use Prim.Native.Nat.{ℕ, ◌+◌, ◌-◌, ◌≤◌, ◌<◌}
use Rattle.std.specs.Prelude.{Result, Ok, Err}
use mathlib.Core.Path.{◌≡◌, refl, sym, ◌∙◌, ap}
use mathlib.Core.Bool.{true}
use mathlib.Core.List.{List, [], ◌∷◌}
use native.Mathlib.Omega.{arith}
use lib.ListN.{length, get_or, take, drop}
use Rattle.ground_refusal.specs.declared.Refusal.{Refusal}
use Rattle.ground_placing.specs.Placed.{placed}
use Rattle.ground_placing.proofs.Placing.{placed_back, placed_length}
use Rattle.ground_moving.proofs.Moving.{alike_later}
use Rattle.gathering_state.specs.Lists.{total}
use Rattle.gathering_state.specs.State.{fresh_state, possible_of, place, lengths}
use Rattle.gathering_state.specs.declared.Gathering.{Gathering}
use Rattle.gathering_state.proofs.Lists.{greatest_at, total_most, total_end}
use Rattle.gathering_state.proofs.State.{place_apart, possible_begun, fresh_possible}
use Rattle.gathering_hand_out.specs.Handing.{joined, body_held, complete_of, handed_by, handed_of, out_by, out_after, InStore}
use Rattle.gathering_hand_out.proofs.Joining.{Joining, join_start, join_step, join_end}
use Rattle.gathering_hand_out.proofs.Handing.{Whole, whole_complete, complete_whole, whole_in_store, in_store_at, in_store_length, fitting_body}
use Rattle.gathering_pack.specs.Packing.{packed_by, packed_of, state_by, packing_of, store_packed}

-- ---- payloads moved together

-- payloads that lie in the store have room there together
pub in_store_fits : (held store : List ℕ) → InStore held store → total held ≤ length store
unfolding place total
in_store_fits [] store i = omega arith
in_store_fits (n ∷ ns) store i =
    let most = total_most (n ∷ ns) i.short in
    let last = i.within (length ns) (omega arith) in
    omega arith

-- the payloads of the first k numbers stand together at the front, o bytes of them, and these end no further back than number k's place
pub record Together (held store : List ℕ) (k o : ℕ) (d : List ℕ) : Type 0 where
  pub joining : Joining place store held store k o d
  pub below : o ≤ place k

pub together_start : (held store : List ℕ) → Together held store 0 0 store
together_start held store = record { joining = join_start place store held store; below = omega arith }

module _ (held store : List ℕ) (i : InStore held store) (k o : ℕ) (d : List ℕ) (t : Together held store k o d) where
  -- number k's payload goes no further back than it stands, and lies in the store
  pub together_fits : k < length held → (n : ℕ) → n ≡ get_or held k 0 - 1 → (a : ℕ) → a ≡ place k → (o ≤ a) × (a + n ≤ length d)
  together_fits h n e a p =
      let room = in_store_at held store i k h in
      let below = t.below in
      let long = t.joining.long in
      (omega arith, omega arith)

  -- what lies past them is as it was
  past : drop o d ≡ drop o store
  past =
      let j = t.joining in
      let fits = in_store_fits held store i in
      let long = j.sent_long in
      let left = j.left in
      let end : 0 + length j.sent ≡ o = omega arith in
      rw j.laid (rw end at (placed_back store 0 j.sent (omega arith)))

  -- so number k's payload, which is read next, is
  unread : drop (place k) d ≡ drop (place k) store
  unread = alike_later d store o (place k) t.below past

  pub together_step : k < length held → (n : ℕ) → n ≡ get_or held k 0 - 1 → (a : ℕ) → a ≡ place k → (d' : List ℕ) → d' ≡ placed d o (take n (drop a d))
      → Together held store (k + 1) (o + n) d'
  together_step h n e a p d' q =
      let room = in_store_at held store i k h in
      let short = greatest_at held k in
      let few = i.short in
      let next = place_apart k (k + 1) (omega arith) in
      let below = t.below in
      record {
        joining = join_step place store held store k o d t.joining h (in_store_fits held store i) n e a p (omega arith) d' (q ∙ ap (placed d o) read);
        below = omega arith;
      }
    where
      read : take n (drop a d) ≡ take (a + n - a) (drop a store)
      read = let z : a + n - a ≡ n = omega arith in rw (z, p) (ap (take n) unread)

  pub together_end : length held ≤ k → (o ≡ total held) × (d ≡ placed store 0 (joined place 0 held store))
  together_end h =
      let none = total_end held k h in
      let left = t.joining.left in
      (omega arith, join_end place store held store k o d t.joining h)

-- ---- the answer, the state and the store

module _ (g : Gathering) (store : List ℕ) where
  pub answers_refused : (r : Refusal) → complete_of g (length store) ≡ Err r → (Err r ≡ packed_of g store) × (store ≡ store_packed g store)
  unfolding store_packed packed_of packed_by out_by
  answers_refused r e = (rw e, rw e)

  answers_complete : complete_of g (length store) ≡ Ok tt
      → (Ok (length (body_held g store)) ≡ packed_of g store) × (placed store 0 (body_held g store) ≡ store_packed g store)
  unfolding store_packed packed_of packed_by out_by
  answers_complete e = (rw e, rw e)

  -- the state follows from the answer
  pub state_refused : (r : Refusal) → Err r ≡ packed_of g store → record { answer = Err r; state = g } ≡ packing_of g store
  unfolding packing_of state_by
  state_refused r e = rw (← e)

  pub state_packed : (n : ℕ) → Ok n ≡ packed_of g store → (f : Gathering) → f ≡ fresh_state → record { answer = Ok n; state = f } ≡ packing_of g store
  unfolding packing_of state_by
  state_packed n e f q = rw (← e, q)

  pub packs_refused : (r : Refusal) → complete_of g (length store) ≡ Err r
      → (record { answer = Err r; state = g } ≡ packing_of g store) × (store ≡ store_packed g store)
  packs_refused r e = let a = answers_refused r e in (state_refused r a.0, a.1)

  pub packs_complete : complete_of g (length store) ≡ Ok tt
      → (record { answer = Ok (length (body_held g store)); state = fresh_state } ≡ packing_of g store) × (placed store 0 (body_held g store) ≡ store_packed g store)
  packs_complete e = let a = answers_complete e in (state_packed _ a.0 fresh_state refl, a.1)

  -- whatever is packed is the body of a whole table
  pub packed_whole : (n : ℕ) → (packing_of g store).answer ≡ Ok n → Whole g (length store) × (n ≡ length (body_held g store))
  unfolding packing_of packed_of packed_by
  packed_whole n e = go (complete_of g (length store)) refl e
    where
      go : (c : Result Unit Refusal) → complete_of g (length store) ≡ c → packed_by c (length (body_held g store)) ≡ Ok n → Whole g (length store) × (n ≡ length (body_held g store))
      go (Err r) f e = let z : ◌≡◌ {A = ℕ} 0 1 = cc in absurd (omega arith)
      go (Ok tt) f e = (complete_whole g (length store) f, cc)

  -- and leaves a fresh state
  pub packed_fresh : (n : ℕ) → (packing_of g store).answer ≡ Ok n → (packing_of g store).state ≡ fresh_state
  unfolding packing_of state_by
  packed_fresh n e = go (packed_of g store) e
    where
      go : (h : Result ℕ Refusal) → h ≡ Ok n → state_by g h ≡ fresh_state
      go (Err r) e = let z : ◌≡◌ {A = ℕ} 0 1 = cc in absurd (omega arith)
      go (Ok m) e = refl

  -- a possible state stays possible
  pub packs_possible : possible_of g ≡ true → possible_of (packing_of g store).state ≡ true
  unfolding packing_of state_by
  packs_possible p = go (packed_of g store)
    where
      go : (h : Result ℕ Refusal) → possible_of (state_by g h) ≡ true
      go (Err r) = p
      go (Ok n) = fresh_possible

  -- the body of a whole table, whose payloads lie in the store
  module _ (i : InStore (lengths g) store) where
    in_store_body : length (body_held g store) ≡ total (lengths g)
    unfolding body_held
    in_store_body = in_store_length (lengths g) store i

    pub answers_body : complete_of g (length store) ≡ (Ok tt) → (n : ℕ) → n ≡ total (lengths g) → (d : List ℕ) → d ≡ placed store 0 (body_held g store)
        → (Ok n ≡ packed_of g store) × (d ≡ store_packed g store)
    answers_body e n t d q = let p = answers_complete e in (rw (t, ← in_store_body) p.0, q ∙ p.1)

  module _ (l : length g.held ≤ 256) where
    -- the payloads of a whole table lie in the store
    pub packs_in_store : complete_of g (length store) ≡ (Ok tt) → InStore (lengths g) store
    packs_in_store e = whole_in_store g store l (complete_whole g (length store) e)

    body_long : complete_of g (length store) ≡ (Ok tt) → length (body_held g store) ≡ total (lengths g)
    body_long e = in_store_body (packs_in_store e)

    -- "The total of held bytes before equals the body length after"
    pub packs_counted : (n : ℕ) → (packing_of g store).answer ≡ Ok n → g.bytes ≡ n
    packs_counted n e =
        let whole = packed_whole n e in
        let begun = possible_begun g whole.0.possible whole.0.begun in
        begun.of_table.bytes ∙ sym (body_long (whole_complete g (length store) whole.0)) ∙ sym whole.1

    -- the store is as long as it was
    pub packs_long : length (store_packed g store) ≡ length store
    packs_long = go (complete_of g (length store)) refl
      where
        go : (c : Result Unit Refusal) → complete_of g (length store) ≡ c → length (store_packed g store) ≡ length store
        go (Err r) e = ap length (sym (packs_refused r e).1)
        go (Ok tt) e =
            let fits = in_store_fits (lengths g) store (packs_in_store e) in
            let long = body_long e in
            ap length (sym (packs_complete e).1) ∙ placed_length store 0 (body_held g store) (omega arith)

    -- packing answers as handing out into the store itself would, and leaves the store as that would leave its output
    pub packs_as_handing : ((packing_of g store).answer ≡ handed_of g store store) × (store_packed g store ≡ out_after g store store)
    unfolding packing_of packed_of store_packed handed_of out_after packed_by handed_by
    packs_as_handing = let e = go (complete_of g (length store)) refl in (e, ap (out_by (body_held g store) store) e)
      where
        go : (c : Result Unit Refusal) → complete_of g (length store) ≡ c → packed_by c (length (body_held g store)) ≡ handed_by c (length (body_held g store)) (length store)
        go (Err r) e = refl
        go (Ok tt) e =
            let fits = in_store_fits (lengths g) store (packs_in_store e) in
            let long = body_long e in
            fitting_body _ _ (omega arith)
