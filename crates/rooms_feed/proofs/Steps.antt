-- Laws of feeding one of two networks: a section that is taken fits its room, and what each verdict makes of answer, part and store.
use Prim.Native.Nat.{ℕ, ◌*◌, ◌≤◌}
use Rattle.std.specs.Prelude.{Result, Ok, Err}
use mathlib.Core.Path.{◌≡◌, refl}
use mathlib.Core.Bool.{true, false, false≢true}
use mathlib.Core.List.{List}
use mathlib.Core.Option.{Option, none, some}
use native.Mathlib.Omega.{arith}
use borrow.Author.Tests.{eq-eqb, ne_eqb}
use lib.Dec.{eqb}
use lib.ListN.{length}
use Rattle.ground_placing.specs.Placed.{placed}
use Rattle.ground_refusal.specs.declared.Refusal.{Refusal}
use Rattle.ground_refusal.specs.declared.Refusal.TheVariants.{Contradiction, ImpossibleState, OutsideSet, NoFreeRoom}
use Rattle.section_reader.specs.Section.{payload_of}
use Rattle.section_reader.specs.declared.Heading.{Heading}
use Rattle.gathering_state.specs.State.{opened, spoiled_state}
use Rattle.gathering_state.proofs.State.{unheld_counts}
use Rattle.gathering_verdict.specs.declared.Verdict.{Verdict}
use Rattle.gathering_verdict.specs.declared.Verdict.TheVariants.{Repeat, Contradict, Begin, Take}
use Rattle.gathering_verdict.proofs.Verdicts.{sized, TakenBy, as_first, as_further}
use Rattle.gathering_feed.specs.Feeding.{answer_by}
use Rattle.gathering_feed.specs.declared.Answer.{Answer}
use Rattle.gathering_feed.specs.declared.Answer.TheVariants.{Taken, HeldAlready}
use Rattle.rooms_marks.specs.Rooms.{free_room}
use Rattle.rooms_marks.proofs.Tests.{Seen, yes_is, no_is, seen}
use Rattle.rooms_state.specs.State.{rooms_in, room_place, InRooms, part_possible, possible_of, Network, is_some, mine, theirs, with_mine}
use Rattle.rooms_state.specs.declared.Part.{Part}
use Rattle.rooms_state.specs.declared.Networks.{Networks}
use Rattle.rooms_state.proofs.Facts.{part_is, part_test, networks_are, sound_of, room_fits, in_rooms}
use Rattle.rooms_verdict.specs.Deciding.{verdict_of}
use Rattle.rooms_verdict.proofs.Taken.{take_is}
use Rattle.rooms_feed.specs.Feeding.{opened_part, base, room_for, roomed, room_verdict, with_room, part_by, store_by, part_fed, part_store, fed_for}
use Rattle.rooms_feed.specs.Feeding.{store_for, fed_of, store_after, taken_fed, taken_store, Roomy, Fits}
use Rattle.rooms_feed.specs.declared.FedPart.{FedPart}

-- ---- a section that is taken

pub part_in_rooms : (n : ℕ) (p : Part) (store : List ℕ) → n * 4084 ≤ length store → part_possible n p ≡ true → InRooms p.gathering.held p.rooms store
part_in_rooms n p store roomy ok = in_rooms n p store (part_is n p ok) roomy

-- a room that is free lies in the store
pub free_fits : (n : ℕ) (store s : List ℕ) → Roomy n store s → (room : ℕ) → (room ≡ 0 → ⊥) → room ≤ n → Fits room store s
free_fits n store s r room found most =
    let within = room_fits room n (length store) 4084 (omega arith) most r.within (omega arith) in
    let few = r.few in
    record { long = r.long; short = r.short; one = omega arith; few = omega arith; within = within }

module _ (n : ℕ) (p : Part) (store s : List ℕ) (few : n ≤ 512) (roomy : n * 4084 ≤ length store) (ok : part_possible n p ≡ true) where
  module _ (h : Heading) where
    taken_roomy : TakenBy h (verdict_of p store s) → Roomy n store s
    taken_roomy t =
        let i = take_is p store s (part_is n p ok).possible h t in
        let q = sized s h i.length_of i.reads in
        record { long = omega arith; short = omega arith; few = few; within = roomy }

    -- it begins its table;
    pub first_versioned : verdict_of p store s ≡ Ok (Begin h) → h.version ≤ 31
    first_versioned e = let i = take_is p store s (part_is n p ok).possible h (as_first e) in (sized s h i.length_of i.reads).versioned

    pub first_roomy : verdict_of p store s ≡ Ok (Begin h) → Roomy n store s
    first_roomy e = taken_roomy (as_first e)

    -- or it is one of those that the gathering's table misses, and there is room to count its bytes
    pub further_roomy : verdict_of p store s ≡ Ok (Take h) → Roomy n store s
    further_roomy e = taken_roomy (as_further e)

    pub further_counts : verdict_of p store s ≡ Ok (Take h) → p.gathering.last ≤ 255 → (1 ≤ p.gathering.missing) × (p.gathering.bytes ≤ 1045504)
    further_counts e low =
        let x = part_is n p ok in
        let f = (take_is p store s x.possible h (as_further e)).further e in
        let within = f.within in
        unheld_counts p.gathering h.number f.begun.of_table x.held_long (omega arith) within f.new

-- a table that is opened has counted nothing
pub first_counts : (h : Heading) (b : Part) → b ≡ opened_part h → (1 ≤ b.gathering.missing) × (b.gathering.bytes ≤ 1045504)
unfolding opened_part opened
first_counts h b o = rw o (omega arith, omega arith)

-- ---- answer, part and store

module _ (n : ℕ) (p : Part) (others store s : List ℕ) where
  abbrev Fits-all : Result Answer Refusal → Part → List ℕ → Type 0
  Fits-all answer part store' = (record { answer = answer; part = part } ≡ part_fed n p others store s) × (store' ≡ part_store n p others store s)

  -- by the verdict without its room, v, the room, and the verdict with it, w
  feeds_by : (v w : Result Verdict Refusal) (room : ℕ) → verdict_of p store s ≡ v → room ≡ room_for n p others v → roomed v room ≡ w
      → Fits-all (answer_by w) (part_by p (payload_of s) room w) (store_by store (payload_of s) room w)
  unfolding part_fed part_store room_verdict
  feeds_by v w room e f g = rw (e, ← f, g) (refl, refl)

  pub feeds_stop : (r : Refusal) → verdict_of p store s ≡ Err r → Fits-all (Err r) p store
  unfolding answer_by part_by store_by roomed
  feeds_stop r e = feeds_by (Err r) (Err r) (room_for n p others (Err r)) e refl refl

  pub feeds_repeat : verdict_of p store s ≡ (Ok Repeat) → Fits-all (Ok HeldAlready) p store
  unfolding answer_by part_by store_by roomed
  feeds_repeat e = feeds_by (Ok Repeat) (Ok Repeat) (room_for n p others (Ok Repeat)) e refl refl

  pub feeds_clash : verdict_of p store s ≡ Ok Contradict
      → Fits-all (Err Contradiction) (record { gathering = spoiled_state p.gathering; rooms = p.rooms }) store
  unfolding answer_by part_by store_by roomed
  feeds_clash e = feeds_by (Ok Contradict) (Ok Contradict) (room_for n p others (Ok Contradict)) e refl refl

  -- what needs a room is taken into the part that its verdict says, and 35 where none is free
  module _ (h : Heading) (fed : FedPart) (store' : List ℕ) where
    pub feeds_first : verdict_of p store s ≡ Ok (Begin h) → (b : Part) → b ≡ opened_part h → fed ≡ taken_fed n p b h.number others s
        → store' ≡ taken_store n b others store s → (fed ≡ part_fed n p others store s) × (store' ≡ part_store n p others store s)
    unfolding taken_fed taken_store part_fed part_store room_verdict room_for base roomed answer_by part_by store_by
    feeds_first e b o f q = rw (f, q, o) (go (seen (eqb (free_room n (opened_part h).rooms others) 0)))
      where
        go : Seen (eqb (free_room n (opened_part h).rooms others) 0)
            → (taken_fed n p (opened_part h) h.number others s ≡ part_fed n p others store s)
            × (taken_store n (opened_part h) others store s ≡ part_store n p others store s)
        go (yes_is z) = rw (e, z) (refl, refl)
        go (no_is z) = rw (e, z) (refl, refl)

    pub feeds_further : verdict_of p store s ≡ Ok (Take h) → fed ≡ taken_fed n p p h.number others s → store' ≡ taken_store n p others store s
        → (fed ≡ part_fed n p others store s) × (store' ≡ part_store n p others store s)
    unfolding taken_fed taken_store part_fed part_store room_verdict room_for base roomed answer_by part_by store_by
    feeds_further e f q = rw (f, q) (go (seen (eqb (free_room n p.rooms others) 0)))
      where
        go : Seen (eqb (free_room n p.rooms others) 0)
            → (taken_fed n p p h.number others s ≡ part_fed n p others store s) × (taken_store n p others store s ≡ part_store n p others store s)
        go (yes_is z) = rw (e, z) (refl, refl)
        go (no_is z) = rw (e, z) (refl, refl)

-- ---- a section that needs a room

module _ (n : ℕ) (p b : Part) (k : ℕ) (others store s : List ℕ) (room : ℕ) (e : room ≡ free_room n b.rooms others) where
  pub takes_none : room ≡ 0
      → (record { answer = Err NoFreeRoom; part = p } ≡ taken_fed n p b k others s) × (store ≡ taken_store n b others store s)
  unfolding taken_fed taken_store
  takes_none z = rw (← e, eq-eqb room 0 z) (refl, refl)

  pub takes_free : (room ≡ 0 → ⊥) → (part' : Part) → part' ≡ with_room b k (length (payload_of s)) room
      → (store' : List ℕ) → store' ≡ placed store (room_place room) (payload_of s)
      → (record { answer = (Ok Taken); part = part' } ≡ taken_fed n p b k others s) × (store' ≡ taken_store n b others store s)
  unfolding taken_fed taken_store
  takes_free found part' w store' q = rw (w, q, ← e, ne_eqb room 0 found) (refl, refl)

-- ---- both networks

-- the rooms of a possible state lie in the store, and each part is possible by itself
pub parts_possible : (i : Network) (x : Networks) (bytes n : ℕ) → n ≡ rooms_in bytes → possible_of x bytes ≡ true
    → (n * 4084 ≤ bytes) × (part_possible n (mine i x) ≡ true)
parts_possible i x bytes n e ok = let s = sound_of i x (networks_are x bytes ok) in rw e (s.roomy, part_test _ (mine i x) s.own)

module _ (x : Networks) (store s : List ℕ) where
  pub fed_nowhere : (o : Option Network) → o ≡ none
      → (record { answer = Err (OutsideSet 0); state = x } ≡ fed_of o x store s) × (store ≡ store_after o x store s)
  unfolding fed_of store_after
  fed_nowhere o e = rw e (refl, refl)

  pub fed_impossible : (o : Option Network) → is_some o ≡ true → possible_of x (length store) ≡ false
      → (record { answer = Err ImpossibleState; state = x } ≡ fed_of o x store s) × (store ≡ store_after o x store s)
  unfolding fed_of store_after fed_for store_for is_some
  fed_impossible none t f = absurd (false≢true t)
  fed_impossible (some i) t f = rw f (refl, refl)

  pub fed_part : (o : Option Network) (i : Network) → o ≡ some i → possible_of x (length store) ≡ true → (n : ℕ) → n ≡ rooms_in (length store)
      → (fed : FedPart) → fed ≡ part_fed n (mine i x) (theirs i x).rooms store s
      → (store' : List ℕ) → store' ≡ part_store n (mine i x) (theirs i x).rooms store s
      → (record { answer = fed.answer; state = with_mine i x fed.part } ≡ fed_of o x store s) × (store' ≡ store_after o x store s)
  unfolding fed_of store_after fed_for store_for
  fed_part o i e f n g fed h store' q = rw (e, f, h, q, g) (refl, refl)
