-- A section is taken into a free room: the parts stay sound, its network's store of its own gets it too, and neither network's other payloads are disturbed.
use Prim.Native.Nat.{ℕ, suc, ◌+◌, ◌-◌, ◌*◌, ◌≤◌, ◌<◌}
use mathlib.Core.Path.{◌≡◌, sym, ◌∙◌}
use mathlib.Core.List.{List, []}
use native.Mathlib.Omega.{arith}
use borrow.Author.Tests.{eqb-true, eqb-false, ltb-true, ltb-false}
use lib.Dec.{eqb, ltb}
use lib.ListN.{length, get_or, set, length-set, get_or-eq_default}
use lib.Seq.{get_or-set_same, get_or-set_other}
use Rattle.ground_placing.specs.Placed.{placed}
use Rattle.ground_placing.proofs.Placing.{placed_length}
use Rattle.gathering_state.specs.Lists.{part}
use Rattle.gathering_state.specs.State.{place, held_payload, with_section}
use Rattle.gathering_state.proofs.Lists.{greatest_at}
use Rattle.gathering_state.proofs.State.{OfTable, place_within, section_begun, begun_possible}
use Rattle.gathering_account.proofs.Parts.{part_same, part_before, part_after_lem}
use Rattle.gathering_account.proofs.Taking.{held_new, held_other}
use Rattle.rooms_marks.specs.Rooms.{count, held_rooms, uses}
use Rattle.rooms_marks.proofs.Tests.{Seen, yes_is, no_is, seen}
use Rattle.rooms_marks.proofs.Counting.{count_at, count_set_same, count_set_other, held_set}
use Rattle.rooms_marks.proofs.Free.{FreeIs}
use Rattle.rooms_state.specs.State.{room_place, room_at, room_payload}
use Rattle.rooms_state.specs.declared.Part.{Part}
use Rattle.rooms_state.proofs.Facts.{Pair, unheld, holds, PartIs, room_fits, before_room}
use Rattle.rooms_feed.specs.Feeding.{with_room}
use Rattle.rooms_account.proofs.Always.{own_room}
use Rattle.rooms_account.proofs.Shadow.{Shadow}

-- ---- rooms apart

pub rooms_apart : (store : List ℕ) (r t n : ℕ) (s : List ℕ) (m : ℕ) → 1 ≤ r → 1 ≤ t → (r ≡ t → ⊥) → r ≤ n → n * 4084 ≤ length store → length s ≤ 4084 → m ≤ 4084
    → part (placed store (room_place r) s) (room_place t) m ≡ part store (room_place t) m
rooms_apart store r t n s m lr lt ne h b ls lm = go (seen (ltb t r))
  where
    fits : room_place r + length s ≤ length store
    fits = room_fits r n (length store) (length s) lr h b ls

    strict : r ≤ t → r < t
    strict l = omega arith

    go : Seen (ltb t r) → part (placed store (room_place r) s) (room_place t) m ≡ part store (room_place t) m
    go (yes_is e) = part_before store (room_place r) s fits (room_place t) m (before_room t r m lt (ltb-true t r e) lm)
    go (no_is e) = part_after_lem store (room_place r) s fits (room_place t) m (before_room r t (length s) lr (strict (ltb-false t r e)) ls)

-- a held room is counted
pub held_counted : (L : List ℕ) (k t : ℕ) → get_or L k 0 ≡ t → 1 ≤ t → 1 ≤ count t L
held_counted L k t e l = go (seen (ltb k (length L)))
  where
    go : Seen (ltb k (length L)) → 1 ≤ count t L
    go (yes_is h) = count_at L k t (ltb-true k (length L) h) e
    go (no_is h) = let a = get_or-eq_default L 0 {n = k} (ltb-false k (length L) h) in absurd (omega arith)

no_bytes : (d : List ℕ) (at m : ℕ) → m ≡ 0 → part d at (m - 1) ≡ []
unfolding part
no_bytes d at m e = rw e

-- numbers and rooms that match
pub record Matched (n : ℕ) (p : Part) : Type 0 where
  pub paired : (k : ℕ) → Pair n (get_or p.gathering.held k 0) (get_or p.rooms k 0)
  pub short : (k : ℕ) → get_or p.gathering.held k 0 ≤ 4085

module _ (n : ℕ) (store pl : List ℕ) (r : ℕ) (low : 1 ≤ r) (high : r ≤ n) (roomy : n * 4084 ≤ length store) (few : length pl ≤ 4084) where
  abbrev store' : List ℕ
  store' = placed store (room_place r) pl

  pub store_long : length store' ≡ length store
  store_long = placed_length store (room_place r) pl (room_fits r n (length store) (length pl) low high roomy few)

  -- the payloads of a part that does not hold the room stay
  kept_at : (p : Part) → Matched n p → count r p.rooms ≡ 0 → (k : ℕ) → room_payload p store' k ≡ room_payload p store k
  unfolding room_payload room_at
  kept_at p x z k = go (x.paired k) (x.short k)
    where
      apart : 1 ≤ get_or p.rooms k 0 → r ≡ get_or p.rooms k 0 → ⊥
      apart i e = let a = held_counted p.rooms k r (sym e) low in omega arith

      go : Pair n (get_or p.gathering.held k 0) (get_or p.rooms k 0) → get_or p.gathering.held k 0 ≤ 4085
          → part store' (room_place (get_or p.rooms k 0)) (get_or p.gathering.held k 0 - 1)
          ≡ part store (room_place (get_or p.rooms k 0)) (get_or p.gathering.held k 0 - 1)
      go (unheld a b) l = no_bytes store' _ _ a ∙ sym (no_bytes store _ _ a)
      go (holds a b c) l =
          rooms_apart store r (get_or p.rooms k 0) n pl (get_or p.gathering.held k 0 - 1) low b (apart b) high roomy few (omega arith)

  pub kept_shadow : (p : Part) (v : List ℕ) → Matched n p → count r p.rooms ≡ 0 → Shadow p store v → Shadow p store' v
  kept_shadow p v x z s = record { long = s.long; same = λ k d. s.same k d ∙ sym (kept_at p x z k) }

-- ---- the part that takes it

-- a part that is ready for number k of its table: the number is not held
pub record Ready (n : ℕ) (b : Part) (k : ℕ) : Type 0 where
  pub held_long : length b.gathering.held ≡ 256
  pub rooms_long : length b.rooms ≡ 256
  pub of_table : OfTable b.gathering
  pub paired : (k : ℕ) → Pair n (get_or b.gathering.held k 0) (get_or b.rooms k 0)
  pub low : k ≤ 255
  pub within : k ≤ b.gathering.last
  pub new : get_or b.gathering.held k 0 ≡ 0

module _ (n : ℕ) (b : Part) (k : ℕ) (ready : Ready n b k) where
  pub ready_matched : Matched n b
  ready_matched =
      record {
        paired = ready.paired;
        short = λ j. (let a = ready.of_table.short in let c = greatest_at b.gathering.held j in omega arith);
      }

  no_room : get_or b.rooms k 0 ≡ 0
  no_room = go (ready.paired k)
    where
      go : Pair n (get_or b.gathering.held k 0) (get_or b.rooms k 0) → get_or b.rooms k 0 ≡ 0
      go (unheld a c) = c
      go (holds a c d) = let e = ready.new in absurd (omega arith)

  module _ (store v pl : List ℕ) (few : length pl ≤ 4084) (qs : List ℕ) (r : ℕ) (free : FreeIs n b.rooms qs r) (roomy : n * 4084 ≤ length store) where
    abbrev b' : Part
    b' = with_room b k (length pl) r

    abbrev h' : List ℕ
    h' = set b.gathering.held k (length pl + 1)

    abbrev r' : List ℕ
    r' = set b.rooms k r

    held_at : get_or h' k 0 ≡ length pl + 1
    held_at = let a = ready.held_long in let c = ready.low in get_or-set_same b.gathering.held k (length pl + 1) 0 (omega arith)

    room_is : get_or r' k 0 ≡ r
    room_is = let a = ready.rooms_long in let c = ready.low in get_or-set_same b.rooms k r 0 (omega arith)

    held_beside : (j : ℕ) → (j ≡ k → ⊥) → get_or h' j 0 ≡ get_or b.gathering.held j 0
    held_beside j d = get_or-set_other b.gathering.held k j (length pl + 1) 0 d

    room_beside : (j : ℕ) → (j ≡ k → ⊥) → get_or r' j 0 ≡ get_or b.rooms j 0
    room_beside j d = get_or-set_other b.rooms k j r 0 d

    paired_with : (j : ℕ) → Pair n (get_or h' j 0) (get_or r' j 0)
    paired_with j = go (seen (eqb j k))
      where
        go : Seen (eqb j k) → Pair n (get_or h' j 0) (get_or r' j 0)
        go (yes_is e) = rw (eqb-true j k e, held_at, room_is) (holds (omega arith) free.low free.high)
        go (no_is e) = let d = eqb-false j k e in rw (held_beside j d, room_beside j d) (ready.paired j)

    pub part_with : PartIs n b'
    unfolding with_room with_section
    part_with =
        record {
          held_long = length-set b.gathering.held k (length pl + 1) ∙ ready.held_long;
          rooms_long = length-set b.rooms k r ∙ ready.rooms_long;
          possible =
              begun_possible (with_section b.gathering k (length pl))
              (section_begun b.gathering k ready.of_table ready.held_long ready.low ready.within ready.new (length pl) few);
          paired = paired_with;
        }

    -- one room more is held
    pub held_with : held_rooms b'.rooms ≡ suc (held_rooms b.rooms)
    unfolding with_room
    held_with = let a = ready.rooms_long in let c = ready.low in held_set b.rooms k r (omega arith) no_room free.low

    unused_own : count r b.rooms ≡ 0
    unfolding uses
    unused_own = let a = free.unused in omega arith

    pub unused_other : count r qs ≡ 0
    unfolding uses
    unused_other = let a = free.unused in omega arith

    pub once_with : ((t : ℕ) → 1 ≤ t → t ≤ n → uses t b.rooms qs ≤ 1) → (t : ℕ) → 1 ≤ t → t ≤ n → uses t b'.rooms qs ≤ 1
    unfolding uses with_room
    once_with once t i j = go (seen (eqb r t))
      where
        go : Seen (eqb r t) → count t r' + count t qs ≤ 1
        go (yes_is e) =
            let a = ready.rooms_long in
            let c = ready.low in
            let d = count_set_same b.rooms k r (omega arith) no_room free.low in
            let f = unused_own in
            let g = unused_other in
            rw (← eqb-true r t e) (omega arith)
        go (no_is e) = let c = count_set_other b.rooms k r t no_room i (eqb-false r t e) in let d = once t i j in omega arith

    -- what stands in the room is what was taken
    taken_at : room_payload b' (placed store (room_place r) pl) k ≡ pl
    unfolding room_payload room_at with_room with_section
    taken_at =
        let m : length pl + 1 - 1 ≡ length pl = omega arith in
        rw (held_at, room_is, m) (part_same store (room_place r) pl (room_fits r n (length store) (length pl) free.low free.high roomy few))

    beside_at : (j : ℕ) → (j ≡ k → ⊥) → room_payload b' (placed store (room_place r) pl) j ≡ room_payload b store j
    unfolding room_payload room_at with_room with_section
    beside_at j d =
        rw (held_beside j d, room_beside j d) (kept_at n store pl r free.low free.high roomy few b ready_matched unused_own j)

    pub shadow_with : Shadow b store v → Shadow b' (placed store (room_place r) pl) (placed v (place k) pl)
    unfolding with_room with_section
    shadow_with s = record { long = placed_length v (place k) pl (let w = in_own in omega arith) ∙ s.long; same = λ j d. go j d (seen (eqb j k)) }
      where
        in_own : place k + 4084 ≤ length v
        in_own = let l = s.long in place_within (length v) 255 k (rw l (own_room 255 (omega arith))) ready.low

        at_k : held_payload (with_section b.gathering k (length pl)) (placed v (place k) pl) k ≡ pl
        at_k = let a = ready.held_long in let c = ready.low in held_new b.gathering v k pl in_own few (omega arith)

        go : (j : ℕ) → (get_or h' j 0 ≡ 0 → ⊥) → Seen (eqb j k)
            → held_payload (with_section b.gathering k (length pl)) (placed v (place k) pl) j ≡ room_payload b' (placed store (room_place r) pl) j
        go j d (yes_is e) = rw (eqb-true j k e) (at_k ∙ sym taken_at)
        go j d (no_is e) =
            let ne = eqb-false j k e in
            held_other b.gathering v k pl in_own few j ne (ready_matched.short j) ∙ s.same j (λ z. d (held_beside j ne ∙ z)) ∙ sym (beside_at j ne)
