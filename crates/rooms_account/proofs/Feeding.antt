-- One feed for a network: the parts stay sound, its account goes as the machine for one network alone says, and the other network's payloads stay.
use Prim.Native.Nat.{ℕ, ◌+◌, ◌≤◌}
use Rattle.ground_refusal.specs.declared.Refusal.{Refusal}
use mathlib.Core.Path.{◌≡◌, refl, sym, ◌∙◌, ap}
use mathlib.Core.Bool.{Bool, true, false, not, ◌&&◌}
use mathlib.Core.List.{List}
use native.Mathlib.Omega.{arith}
use borrow.Author.Tests.{eqb-true, eqb-false, lt-ltb, le-ltb}
use lib.Dec.{eqb, ltb}
use lib.ListN.{length}
use Rattle.std.specs.Prelude.{if◌then◌else◌, Result, Ok, Err}
use Rattle.ground_placing.specs.Placed.{placed}
use Rattle.ground_refusal.specs.declared.Refusal.TheVariants.{NoFreeRoom}
use Rattle.crc.specs.Crc.{AreBytes}
use Rattle.section_reader.specs.Section.{payload_of, read_section}
use Rattle.section_reader.specs.declared.Heading.{Heading}
use Rattle.section_reader.proofs.RoundTrip.{good_printed}
use Rattle.gathering_state.specs.State.{opened, spoiled_state, held_payload}
use Rattle.gathering_state.proofs.Lists.{zeros_at}
use Rattle.gathering_state.proofs.State.{opened_table, spoiled_begun, begun_possible}
use Rattle.gathering_verdict.specs.Deciding as G
use Rattle.gathering_verdict.specs.declared.Verdict.{Verdict}
use Rattle.gathering_verdict.specs.declared.Verdict.TheVariants.{Repeat, Contradict, Begin, Take}
use Rattle.gathering_verdict.proofs.Verdicts.{as_first, as_further}
use Rattle.gathering_feed.specs.Feeding as F
use Rattle.gathering_account.specs.Account.{heard, Account, account_after}
use Rattle.gathering_account.specs.Answering.{answer_to}
use Rattle.gathering_account.proofs.Hearing.{feed_by}
use Rattle.gathering_account.proofs.Standing.{Stands, formed_kind}
use Rattle.gathering_account.proofs.Feeds.{feed_stands}
use Rattle.gathering_account.proofs.Answering.{stands_answers}
use Rattle.rooms_marks.specs.Rooms.{held_rooms, uses, free_room}
use Rattle.rooms_marks.proofs.Counting.{count_zeros, held_zeros}
use Rattle.rooms_marks.proofs.Free.{FreeIs, free_is}
use Rattle.rooms_marks.proofs.Tests.{Seen, yes_is, no_is, seen}
use Rattle.rooms_state.specs.State.{room_place, room_payload}
use Rattle.rooms_state.specs.declared.Part.{Part}
use Rattle.rooms_state.proofs.Facts.{unheld, PartIs, Sound, short_at}
use Rattle.rooms_verdict.specs.Deciding.{verdict_of}
use Rattle.rooms_verdict.proofs.Taken.{take_is, clash_begun}
use Rattle.rooms_feed.specs.Feeding.{opened_part, base, room_for, roomed, with_room, part_by, store_by}
use Rattle.rooms_account.specs.Alone.{always, is_taken, needs_room, refused_for_room, answer_fed, account_fed}
use Rattle.rooms_account.specs.Runs.{takes}
use Rattle.rooms_account.specs.Counts.{Tally, tally_fed}
use Rattle.rooms_account.proofs.Always.{always_after, always_answer}
use Rattle.rooms_account.proofs.Shadow.{Shadow, shadow_verdict}
use Rattle.rooms_account.proofs.Taking.{Matched, Ready, store_long, kept_shadow, part_with, once_with, unused_other, held_with, shadow_with}

-- a network's part stands for an account, as the single gathering over a store of its own does
pub record Own (p : Part) (store : List ℕ) (a : Account) : Type 0 where
  pub shadow : List ℕ
  pub shadows : Shadow p store shadow
  pub stands : Stands 1045504 (record { state = p.gathering; store = shadow }) a

-- what a call of the network whose part was p leaves, where q is the other's
pub record Leaves (n : ℕ) (q : Part) (store : List ℕ) (p' : Part) (store' : List ℕ) : Type 0 where
  pub sound : Sound n p' q (length store')
  pub long : length store' ≡ length store
  pub others : (u : List ℕ) → Shadow q store u → Shadow q store' u

pub part_matched : (n : ℕ) (p : Part) → PartIs n p → Matched n p
part_matched n p x = record { paired = x.paired; short = short_at n p x }

pub leaves_all : {n : ℕ} {p q : Part} {store : List ℕ} → Sound n p q (length store) → Leaves n q store p store
leaves_all x = record { sound = x; long = refl; others = λ u s. s }

-- ---- the machine's answer and account, by whether a room is needed and free

module _ (a : Account) (s : List ℕ) where
  pub refused_not : needs_room a s ≡ false → (f : Bool) → refused_for_room a s f ≡ false
  unfolding refused_for_room
  refused_not e f = rw e

  refused_free : refused_for_room a s true ≡ false
  unfolding refused_for_room
  refused_free = go (needs_room a s)
    where
      go : (b : Bool) → (b && not true) ≡ false
      go true = refl
      go false = refl

  refused_full : needs_room a s ≡ true → refused_for_room a s false ≡ true
  unfolding refused_for_room
  refused_full e = rw e

  pub fed_so : (f : Bool) → refused_for_room a s f ≡ false → (answer_fed a s f ≡ answer_to always a s) × (account_fed a s f ≡ account_after always a (heard s))
  unfolding answer_fed account_fed
  fed_so f e = (rw e, rw e)

  pub fed_not : (f : Bool) → refused_for_room a s f ≡ true → (answer_fed a s f ≡ Err NoFreeRoom) × (account_fed a s f ≡ a)
  unfolding answer_fed account_fed
  fed_not f e = (rw e, rw e)

taken_takes : (v : Result Verdict Refusal) → is_taken (F.answer_by v) ≡ takes v
unfolding is_taken takes F.answer_by
taken_takes (Err r) = refl
taken_takes (Ok Repeat) = refl
taken_takes (Ok Contradict) = refl
taken_takes (Ok (Begin h)) = refl
taken_takes (Ok (Take h)) = refl

opened_holds : (h : Heading) → held_rooms (opened_part h).rooms ≡ 0
unfolding opened_part
opened_holds h = held_zeros 256

free_zero : (room : ℕ) → room ≡ 0 → ltb 0 room ≡ false
free_zero room e = le-ltb 0 room (omega arith)

free_some : (room : ℕ) → (room ≡ 0 → ⊥) → ltb 0 room ≡ true
free_some room d = lt-ltb 0 room (omega arith)

module _ (n : ℕ) (p q : Part) (store : List ℕ) (x : Sound n p q (length store)) (s : List ℕ) (are_bytes : AreBytes s) where
  abbrev pl : List ℕ
  pl = payload_of s

  -- ---- by the account

  module _ {a : Account} (own : Own p store a) where
    same_verdict : verdict_of p store s ≡ G.verdict_of p.gathering own.shadow s
    same_verdict = shadow_verdict p store own.shadow s own.shadows are_bytes x.own.possible

    pub answers_by : answer_to always a s ≡ F.answer_by (verdict_of p store s)
    unfolding F.fed_of
    answers_by =
        sym (always_answer a s are_bytes) ∙ sym (stands_answers 1045504 (record { state = p.gathering; store = own.shadow }) s own.stands)
        ∙ ap F.answer_by (sym same_verdict)

    pub needs_is : needs_room a s ≡ takes (verdict_of p store s)
    unfolding needs_room
    needs_is = ap is_taken answers_by ∙ taken_takes (verdict_of p store s)

    stands_by : (v : Result Verdict Refusal) → verdict_of p store s ≡ v
        → Stands 1045504 (record { state = F.state_by p.gathering pl v; store = F.store_by own.shadow pl v }) (account_after always a (heard s))
    stands_by v e =
        rw (← always_after a s are_bytes, ← feed_by (record { state = p.gathering; store = own.shadow }) s v (sym same_verdict ∙ e))
        (feed_stands 1045504 (record { state = p.gathering; store = own.shadow }) s are_bytes own.stands)

  -- ---- what is known where it is taken

  pl_short : (h : Heading) (m : ℕ) → read_section s ≡ Ok (h, m) → length pl ≤ 4084
  pl_short h m e = (good_printed s h m are_bytes e).short

  first_ready : (h : Heading) (m : ℕ) → read_section s ≡ Ok (h, m) → Ready n (opened_part h) h.number
  unfolding opened_part opened
  first_ready h m e =
      let w = (good_printed s h m are_bytes e).formed in
      record {
        held_long = refl;
        rooms_long = refl;
        of_table = opened_table h (formed_kind h w) w.version_high;
        paired = λ k. unheld (zeros_at 256 k) (zeros_at 256 k);
        low = (let a = w.number_high in let b = w.last_high in omega arith);
        within = w.number_high;
        new = zeros_at 256 h.number;
      }

  first_once : (h : Heading) (t : ℕ) → 1 ≤ t → t ≤ n → uses t (opened_part h).rooms q.rooms ≤ 1
  unfolding uses opened_part
  first_once h t l m = let a = x.once t l m in let b = count_zeros t 256 l in omega arith

  first_shadow : (h : Heading) (u : List ℕ) → length u ≡ 1045504 → Shadow (opened_part h) store u
  unfolding opened_part opened
  first_shadow h u l = record { long = l; same = λ k d. absurd (d (zeros_at 256 k)) }

  further_ready : (h : Heading) (m : ℕ) → read_section s ≡ Ok (h, m) → verdict_of p store s ≡ Ok (Take h) → Ready n p h.number
  further_ready h m r e =
      let w = (good_printed s h m are_bytes r).formed in
      let f = (take_is p store s x.own.possible h (as_further e)).further e in
      record {
        held_long = x.own.held_long;
        rooms_long = x.own.rooms_long;
        of_table = f.begun.of_table;
        paired = x.own.paired;
        low = (let a = w.number_high in let b = w.last_high in omega arith);
        within = f.within;
        new = f.new;
      }

  -- a section is taken into b
  took : (b : Part) (k : ℕ) → Ready n b k → ((t : ℕ) → 1 ≤ t → t ≤ n → uses t b.rooms q.rooms ≤ 1) → length pl ≤ 4084
      → (room : ℕ) → FreeIs n b.rooms q.rooms room
      → Leaves n q store (with_room b k (length pl) room) (placed store (room_place room) pl)
  took b k ready once few room free =
      let long = store_long n store pl room free.low free.high x.roomy few in
      record {
        sound =
            record {
              own = part_with n b k ready store store pl few q.rooms room free x.roomy;
              others = x.others;
              once = once_with n b k ready store store pl few q.rooms room free x.roomy once;
              roomy = rw long x.roomy;
            };
        long = long;
        others = λ u. kept_shadow n store pl room free.low free.high x.roomy few q u (part_matched n q x.others)
            (unused_other n b k ready store store pl few q.rooms room free x.roomy);
      }

  spoilt_leaves : verdict_of p store s ≡ (Ok Contradict) → Leaves n q store (record { gathering = spoiled_state p.gathering; rooms = p.rooms }) store
  unfolding spoiled_state
  spoilt_leaves e =
      record {
        sound =
            record {
              own =
                  record {
                    held_long = x.own.held_long;
                    rooms_long = x.own.rooms_long;
                    possible = begun_possible (spoiled_state p.gathering) (spoiled_begun p.gathering (clash_begun p store s x.own.possible e));
                    paired = x.own.paired;
                  };
              others = x.others;
              once = x.once;
              roomy = x.roomy;
            };
        long = refl;
        others = λ u t. t;
      }

  -- ---- by the verdict v, and the room that it finds

  module _ (room : ℕ) where
    abbrev Left : Result Verdict Refusal → Type 0
    Left v = Leaves n q store (part_by p pl room (roomed v room)) (store_by store pl room (roomed v room))

    free_room_lem : (b : Part) → room ≡ free_room n b.rooms q.rooms → (room ≡ 0 → ⊥) → FreeIs n b.rooms q.rooms room
    free_room_lem b f d = rw f (free_is n b.rooms q.rooms (rw (← f) (omega arith)))

    pub left_by : (v : Result Verdict Refusal) → verdict_of p store s ≡ v → room ≡ room_for n p q.rooms v → Left v
    unfolding part_by store_by roomed room_for base
    left_by (Err r) e f = leaves_all x
    left_by (Ok Repeat) e f = leaves_all x
    left_by (Ok Contradict) e f = spoilt_leaves e
    left_by (Ok (Begin h)) e f = go (seen (eqb room 0))
      where
        go : Seen (eqb room 0) → Left (Ok (Begin h))
        go (yes_is z) = rw z (leaves_all x)
        go (no_is z) =
            let i = take_is p store s x.own.possible h (as_first e) in
            rw z (took (opened_part h) h.number (first_ready h i.length_of i.reads) (first_once h) (pl_short h i.length_of i.reads) room
            (free_room_lem (opened_part h) f (eqb-false room 0 z)))
    left_by (Ok (Take h)) e f = go (seen (eqb room 0))
      where
        go : Seen (eqb room 0) → Left (Ok (Take h))
        go (yes_is z) = rw z (leaves_all x)
        go (no_is z) =
            let i = take_is p store s x.own.possible h (as_further e) in
            rw z (took p h.number (further_ready h i.length_of i.reads e) x.once (pl_short h i.length_of i.reads) room
            (free_room_lem p f (eqb-false room 0 z)))

    -- the takes and returns so far
    pub balanced_by : (t : Tally) → held_rooms p.rooms + t.returns ≡ t.takes → (v : Result Verdict Refusal) → verdict_of p store s ≡ v → room ≡ room_for n p q.rooms v
        → let t' = tally_fed t (held_rooms p.rooms) (roomed v room) in
        held_rooms (part_by p pl room (roomed v room)).rooms + t'.returns ≡ t'.takes
    unfolding part_by roomed room_for base tally_fed
    balanced_by t b (Err r) e f = b
    balanced_by t b (Ok Repeat) e f = b
    balanced_by t b (Ok Contradict) e f = b
    balanced_by t b (Ok (Begin h)) e f = go (seen (eqb room 0))
      where
        go : Seen (eqb room 0)
            → let w = if eqb room 0 then Err NoFreeRoom else Ok (Begin h) in
            held_rooms (part_by p pl room w).rooms + (tally_fed t (held_rooms p.rooms) w).returns ≡ (tally_fed t (held_rooms p.rooms) w).takes
        go (yes_is z) = rw z b
        go (no_is z) =
            let i = take_is p store s x.own.possible h (as_first e) in
            let few = pl_short h i.length_of i.reads in
            let k = held_with n (opened_part h) h.number (first_ready h i.length_of i.reads) store store pl few q.rooms room
            (free_room_lem (opened_part h) f (eqb-false room 0 z)) x.roomy in
            let none = opened_holds h in
            rw z (omega arith)
    balanced_by t b (Ok (Take h)) e f = go (seen (eqb room 0))
      where
        go : Seen (eqb room 0)
            → let w = if eqb room 0 then Err NoFreeRoom else Ok (Take h) in
            held_rooms (part_by p pl room w).rooms + (tally_fed t (held_rooms p.rooms) w).returns ≡ (tally_fed t (held_rooms p.rooms) w).takes
        go (yes_is z) = rw z b
        go (no_is z) =
            let i = take_is p store s x.own.possible h (as_further e) in
            let few = pl_short h i.length_of i.reads in
            let k = held_with n p h.number (further_ready h i.length_of i.reads e) store store pl few q.rooms room
            (free_room_lem p f (eqb-false room 0 z)) x.roomy in
            rw z (omega arith)

    -- the account, and the answer
    module _ {a : Account} (own : Own p store a) where
      abbrev Goes : Result Verdict Refusal → Type 0
      Goes v =
          Own (part_by p pl room (roomed v room)) (store_by store pl room (roomed v room)) (account_fed a s (ltb 0 room))
          × (F.answer_by (roomed v room) ≡ answer_fed a s (ltb 0 room))

      unneeded : (v : Result Verdict Refusal) → verdict_of p store s ≡ v → takes v ≡ false
          → (account_fed a s (ltb 0 room) ≡ account_after always a (heard s)) × (F.answer_by v ≡ answer_fed a s (ltb 0 room))
      unneeded v e t =
          let k = fed_so a s (ltb 0 room) (refused_not a s (needs_is own ∙ ap takes e ∙ t) (ltb 0 room)) in
          (k.1, sym (k.0 ∙ answers_by own ∙ ap F.answer_by e))

      full : (v : Result Verdict Refusal) → verdict_of p store s ≡ v → takes v ≡ true → room ≡ 0
          → (account_fed a s (ltb 0 room) ≡ a) × (Err NoFreeRoom ≡ answer_fed a s (ltb 0 room))
      full v e t z =
          let k = fed_not a s (ltb 0 room) (ap (refused_for_room a s) (free_zero room z) ∙ refused_full a s (needs_is own ∙ ap takes e ∙ t)) in
          (k.1, sym k.0)

      roomy : (v : Result Verdict Refusal) → verdict_of p store s ≡ v → (room ≡ 0 → ⊥)
          → (account_fed a s (ltb 0 room) ≡ account_after always a (heard s)) × (F.answer_by v ≡ answer_fed a s (ltb 0 room))
      roomy v e d =
          let k = fed_so a s (ltb 0 room) (ap (refused_for_room a s) (free_some room d) ∙ refused_free a s) in
          (k.1, sym (k.0 ∙ answers_by own ∙ ap F.answer_by e))

      -- the state that the single gathering would have, over the store that it would have
      owned : (p' : Part) (store' : List ℕ) (v : Result Verdict Refusal) → verdict_of p store s ≡ v → p'.gathering ≡ F.state_by p.gathering pl v
          → Shadow p' store' (F.store_by own.shadow pl v) → Own p' store' (account_after always a (heard s))
      owned p' store' v e f sh = record { shadow = F.store_by own.shadow pl v; shadows = sh; stands = rw f (stands_by own v e) }

      pub goes_by : (v : Result Verdict Refusal) → verdict_of p store s ≡ v → room ≡ room_for n p q.rooms v → Goes v
      unfolding part_by store_by roomed room_for base takes F.answer_by F.state_by F.store_by with_room opened_part spoiled_state held_payload room_payload
      goes_by (Err r) e f = let k = unneeded (Err r) e refl in (rw k.0 (owned p store (Err r) e refl own.shadows), k.1)
      goes_by (Ok Repeat) e f = let k = unneeded (Ok Repeat) e refl in (rw k.0 (owned p store (Ok Repeat) e refl own.shadows), k.1)
      goes_by (Ok Contradict) e f =
          let k = unneeded (Ok Contradict) e refl in
          let sh = own.shadows in (
            rw k.0 (owned (record { gathering = spoiled_state p.gathering; rooms = p.rooms }) store (Ok Contradict) e refl
                (record { long = sh.long; same = sh.same })),
            k.1,
          )
      goes_by (Ok (Begin h)) e f = go (seen (eqb room 0))
        where
          go : Seen (eqb room 0) → Goes (Ok (Begin h))
          go (yes_is z) = let k = full (Ok (Begin h)) e refl (eqb-true room 0 z) in rw z (rw k.0 own, k.1)
          go (no_is z) =
              let d = eqb-false room 0 z in
              let k = roomy (Ok (Begin h)) e d in
              let i = take_is p store s x.own.possible h (as_first e) in
              let few = pl_short h i.length_of i.reads in
              let ready = first_ready h i.length_of i.reads in
              rw z (
                rw k.0 (owned (with_room (opened_part h) h.number (length pl) room) (placed store (room_place room) pl) (Ok (Begin h)) e refl
                    (shadow_with n (opened_part h) h.number ready store own.shadow pl few q.rooms room (free_room_lem (opened_part h) f d) x.roomy
                    (first_shadow h own.shadow own.shadows.long))),
                k.1,
              )
      goes_by (Ok (Take h)) e f = go (seen (eqb room 0))
        where
          go : Seen (eqb room 0) → Goes (Ok (Take h))
          go (yes_is z) = let k = full (Ok (Take h)) e refl (eqb-true room 0 z) in rw z (rw k.0 own, k.1)
          go (no_is z) =
              let d = eqb-false room 0 z in
              let k = roomy (Ok (Take h)) e d in
              let i = take_is p store s x.own.possible h (as_further e) in
              let few = pl_short h i.length_of i.reads in
              let ready = further_ready h i.length_of i.reads e in
              rw z (
                rw k.0 (owned (with_room p h.number (length pl) room) (placed store (room_place room) pl) (Ok (Take h)) e refl
                    (shadow_with n p h.number ready store own.shadow pl few q.rooms room (free_room_lem p f d) x.roomy own.shadows)),
                k.1,
              )
