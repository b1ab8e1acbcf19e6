-- A section is refused for room exactly if it needs one and every room is held; a takeover never is; and what a refused call leaves.
use Prim.Native.Nat.{ℕ, suc, ◌+◌, ◌≤◌, ◌<◌}
use mathlib.Core.Path.{◌≡◌, refl, sym, ◌∙◌, ap}
use mathlib.Core.Bool.{Bool, true, false, not, ◌||◌}
use mathlib.Core.List.{List, [], ◌∷◌}
use mathlib.Core.Logic.{◌↔◌}
use mathlib.Core.Option.{Option, none, some}
use native.Mathlib.Omega.{arith}
use borrow.Author.Tests.{eqb-true, eqb-false, eq-eqb, ne_eqb}
use lib.Dec.{eqb, ltb}
use lib.ListN.{length, get_or, replicate}
use Rattle.std.specs.Prelude.{if◌then◌else◌, Result, Ok, Err}
use Rattle.ground_refusal.specs.declared.Refusal.{Refusal}
use Rattle.ground_refusal.specs.Numbers.{refusal_number}
use Rattle.ground_refusal.specs.declared.Refusal.TheVariants.{SectionTooShort, OtherKind, FixedBitZero, SectionLengthOutside, OtherLength}
use Rattle.ground_refusal.specs.declared.Refusal.TheVariants.{NumberAboveLast, CheckNotZero, NotCurrent, OtherHeading, StoreTooShort, Contradiction}
use Rattle.ground_refusal.specs.declared.Refusal.TheVariants.{NoFreeRoom}
use Rattle.ground_equal.specs.Same.{same_bytes}
use Rattle.rooms_end.specs.Ending.{ended_for, ended_of}
use Rattle.section_reader.specs.Section.{payload_of, read_section, is_kind, fixed_bits, length_in_range, section_length}
use Rattle.section_reader.specs.declared.Heading.{Heading}
use Rattle.crc.specs.Crc.{crc32_of}
use Rattle.gathering_state.specs.Lists.{greatest}
use Rattle.gathering_state.specs.State.{nothing_begun}
use Rattle.gathering_state.proofs.State.{possible_begun}
use Rattle.gathering_verdict.specs.Deciding.{begins, agrees}
use Rattle.gathering_verdict.specs.declared.Verdict.{Verdict}
use Rattle.gathering_verdict.specs.declared.Verdict.TheVariants.{Repeat, Contradict, Begin, Take}
use Rattle.gathering_feed.specs.Feeding.{answer_by}
use Rattle.gathering_feed.specs.declared.Answer.{Answer}
use Rattle.gathering_feed.specs.declared.Answer.TheVariants.{Taken}
use Rattle.rooms_marks.specs.Rooms.{uses, free_room}
use Rattle.rooms_marks.proofs.Counting.{count_zeros}
use Rattle.rooms_marks.proofs.Free.{free_is, all_held, some_free}
use Rattle.rooms_marks.proofs.Tests.{Seen, yes_is, no_is, seen}
use Rattle.rooms_state.specs.State.{rooms_in, room_payload, possible_of, Network, theirs}
use Rattle.rooms_state.specs.declared.Part.{Part}
use Rattle.rooms_state.specs.declared.Networks.{Networks}
use Rattle.rooms_state.proofs.Facts.{Pair, unheld, holds, Sound}
use Rattle.rooms_verdict.specs.Deciding.{number_verdict, good_verdict, verdict_of}
use Rattle.rooms_verdict.proofs.Verdicts.{verdict_bad, verdict_good}
use Rattle.rooms_feed.specs.Feeding.{opened_part, base, room_for, roomed, room_verdict, part_by, store_by, part_fed, part_store, fed_for, store_for, fed_of, store_after}
use Rattle.rooms_account.specs.Alone.{feeding, ending, fed, ended}
use Rattle.rooms_account.specs.Runs.{Box, told, box_after, takes, needs_at, FullFor}
use Rattle.rooms_account.proofs.Taking.{held_counted}
use Rattle.rooms_account.proofs.Calls.{possible, part, sound, fed_told, same_with}

-- ---- which refusals a verdict can have, without its room: 1 to 7, 8, 9 and 11

data Early (n : ℕ) : Type 0 where
  low : n ≤ 9 → Early n
  eleven : n ≡ 11 → Early n

read_first : (b : Bool) (t : Refusal) (a : Result (Heading × ℕ) Refusal) → refusal_number t ≤ 7 → ((r : Refusal) → a ≡ Err r → refusal_number r ≤ 7)
    → (r : Refusal) → (if b then Err t else a) ≡ Err r → refusal_number r ≤ 7
read_first true t a l f r e = let q : t ≡ r = cc in rw (← q) l
read_first false t a l f r e = f r e

good_not : (h : Heading) (n : ℕ) (r : Refusal) → ◌≡◌ {A = Result (Heading × ℕ) Refusal} (Ok (h, n)) (Err r) → refusal_number r ≤ 7
good_not h n r e = cc

read_early : (s : List ℕ) (r : Refusal) → read_section s ≡ Err r → refusal_number r ≤ 7
unfolding read_section
read_early s =
    read_first (ltb (length s) 12) SectionTooShort _ (omega arith)
    (read_first (not (is_kind (get_or s 0 0))) OtherKind _ (omega arith)
    (read_first (not (fixed_bits s)) FixedBitZero _ (omega arith)
    (read_first (not (length_in_range (section_length s))) SectionLengthOutside _ (omega arith)
    (read_first (not (eqb (length s) (section_length s + 3))) OtherLength _ (omega arith)
    (read_first (ltb (get_or s 7 0) (get_or s 6 0)) NumberAboveLast _ (omega arith)
    (read_first (not (eqb (crc32_of s) 0)) CheckNotZero _ (omega arith) (good_not _ _)))))))

stops : (b : Bool) (t : Refusal) (v : Result Verdict Refusal) → Early (refusal_number t) → ((r : Refusal) → v ≡ Err r → Early (refusal_number r))
    → (r : Refusal) → (if b then Err t else v) ≡ Err r → Early (refusal_number r)
stops true t v l f r e = let q : t ≡ r = cc in rw (← q) l
stops false t v l f r e = f r e

passes : (b : Bool) (w v : Result Verdict Refusal) → ((r : Refusal) → w ≡ Err r → ⊥) → ((r : Refusal) → v ≡ Err r → Early (refusal_number r))
    → (r : Refusal) → (if b then w else v) ≡ Err r → Early (refusal_number r)
passes true w v d f r e = absurd (d r e)
passes false w v d f r e = f r e

good_early : (p : Part) (store : List ℕ) (h : Heading) (pl : List ℕ) (r : Refusal) → good_verdict p store h pl ≡ Err r → Early (refusal_number r)
unfolding good_verdict number_verdict
good_early p store h pl =
    stops (not h.current) NotCurrent _ (low (omega arith))
    (stops (not (begins p.gathering h || agrees p.gathering h)) OtherHeading _ (low (omega arith))
    (passes (begins p.gathering h) (Ok (Begin h)) _ (λ r e. let z : ◌≡◌ {A = ℕ} 0 1 = cc in omega arith)
    (stops (not (eqb p.gathering.spoiled 0)) Contradiction _ (eleven refl)
    (passes (eqb (get_or p.gathering.held h.number 0) 0) (Ok (Take h)) _ (λ r e. let z : ◌≡◌ {A = ℕ} 0 1 = cc in omega arith)
    (passes (same_bytes (room_payload p store h.number) pl) (Ok Repeat) (Ok Contradict) (λ r e. let z : ◌≡◌ {A = ℕ} 0 1 = cc in omega arith)
    (λ r e. let z : ◌≡◌ {A = ℕ} 0 1 = cc in absurd (omega arith)))))))

verdict_early : (p : Part) (store s : List ℕ) (r : Refusal) → verdict_of p store s ≡ Err r → Early (refusal_number r)
verdict_early p store s r e = go (read_section s) refl
  where
    go : (a : Result (Heading × ℕ) Refusal) → read_section s ≡ a → Early (refusal_number r)
    go (Err t) f =
        let q : t ≡ r = (let w = sym (verdict_bad p store s t f) ∙ e in cc) in
        let l = read_early s r (f ∙ ap Err q) in
        low (omega arith)
    go (Ok (h, n)) f = good_early p store h (payload_of s) r (sym (verdict_good p store s h n f) ∙ e)

-- so none is 35 or 10
late : (n : ℕ) → Early n → (9 < n) → (n ≡ 11 → ⊥) → ⊥
late n (low l) a b = omega arith
late n (eleven e) a b = b e

verdict_room : (p : Part) (store s : List ℕ) → verdict_of p store s ≡ Err NoFreeRoom → ⊥
verdict_room p store s e = late 35 (verdict_early p store s NoFreeRoom e) (omega arith) (λ q. omega arith)

-- with it, the verdict is 35 exactly if one is needed and none is found
roomed_full : (v : Result Verdict Refusal) (room : ℕ) → takes v ≡ true → room ≡ 0 → roomed v room ≡ Err NoFreeRoom
unfolding takes roomed
roomed_full (Err r) room t z = let q : ◌≡◌ {A = ℕ} 0 1 = cc in absurd (omega arith)
roomed_full (Ok Repeat) room t z = let q : ◌≡◌ {A = ℕ} 0 1 = cc in absurd (omega arith)
roomed_full (Ok Contradict) room t z = let q : ◌≡◌ {A = ℕ} 0 1 = cc in absurd (omega arith)
roomed_full (Ok (Begin h)) room t z = rw (eq-eqb room 0 z)
roomed_full (Ok (Take h)) room t z = rw (eq-eqb room 0 z)

full_roomed : (v : Result Verdict Refusal) (room : ℕ) → (v ≡ Err NoFreeRoom → ⊥) → answer_by (roomed v room) ≡ Err NoFreeRoom → (takes v ≡ true) × (room ≡ 0)
unfolding takes roomed answer_by
full_roomed (Err r) room d e = absurd (d (ap Err (let q : r ≡ NoFreeRoom = cc in q)))
full_roomed (Ok Repeat) room d e = let q : ◌≡◌ {A = ℕ} 0 1 = cc in absurd (omega arith)
full_roomed (Ok Contradict) room d e = let q : ◌≡◌ {A = ℕ} 0 1 = cc in absurd (omega arith)
full_roomed (Ok (Begin h)) room d e = go (seen (eqb room 0))
  where
    go : Seen (eqb room 0) → (takes (Ok (Begin h)) ≡ true) × (room ≡ 0)
    go (yes_is z) = (refl, eqb-true room 0 z)
    go (no_is z) = let f = rw z at e in let q : ◌≡◌ {A = ℕ} 0 1 = cc in absurd (omega arith)
full_roomed (Ok (Take h)) room d e = go (seen (eqb room 0))
  where
    go : Seen (eqb room 0) → (takes (Ok (Take h)) ≡ true) × (room ≡ 0)
    go (yes_is z) = (refl, eqb-true room 0 z)
    go (no_is z) = let f = rw z at e in let q : ◌≡◌ {A = ℕ} 0 1 = cc in absurd (omega arith)

same_fed : (a b : Result Answer Refusal) → fed a ≡ fed b → a ≡ b
same_fed a b e = cc

-- ---- the theorem

module _ (i : Network) (x : Box) (ok : possible x ≡ true) (s : List ℕ) where
  abbrev n : ℕ
  n = rooms_in (length x.store)

  abbrev v : Result Verdict Refusal
  v = verdict_of (part i x) x.store s

  abbrev room : ℕ
  room = room_for n (part i x) (theirs i x.state).rooms v

  none_found : FullFor i x s → room ≡ 0
  unfolding FullFor room_for
  none_found full = go (seen (eqb room 0))
    where
      go : Seen (eqb room 0) → room ≡ 0
      go (yes_is e) = eqb-true room 0 e
      go (no_is e) =
          let d = eqb-false room 0 e in
          let a = free_is n (base (part i x) v).rooms (theirs i x.state).rooms (omega arith) in
          let b = full room a.low a.high in
          let c = a.unused in
          absurd (omega arith)

  found_none : room ≡ 0 → FullFor i x s
  unfolding FullFor room_for
  found_none e = all_held n (base (part i x) v).rooms (theirs i x.state).rooms e

  -- "A section that needs a room is refused for room exactly if every room is held; repeats and contradictions need none"
  pub refused_for_room_lem : (told (some i) x (feeding s) ≡ fed (Err NoFreeRoom)) ↔ ((needs_at i x (feeding s) ≡ true) × FullFor i x s)
  unfolding needs_at answer_by
  refused_for_room_lem = (
    (λ e. let f = full_roomed v room (verdict_room (part i x) x.store s) (same_fed _ _ (sym (fed_told i x ok s) ∙ e)) in (f.0, found_none f.1)),
    (λ f. fed_told i x ok s ∙ ap (λ (w : Result Verdict Refusal). fed (answer_by w)) (roomed_full v room f.0 (none_found f.1))),
  )

-- "10 is not given"
no_ten : (v : Result Verdict Refusal) (room : ℕ) → (v ≡ Err StoreTooShort → ⊥) → answer_by (roomed v room) ≡ Err StoreTooShort → ⊥
unfolding roomed answer_by
no_ten (Err r) room d e = d (ap Err (let q : r ≡ StoreTooShort = cc in q))
no_ten (Ok Repeat) room d e = let q : ◌≡◌ {A = ℕ} 0 1 = cc in omega arith
no_ten (Ok Contradict) room d e = let q : ◌≡◌ {A = ℕ} 0 1 = cc in omega arith
no_ten (Ok (Begin h)) room d e = go (seen (eqb room 0))
  where
    go : Seen (eqb room 0) → ⊥
    go (yes_is z) = let f = rw z at e in let q : ◌≡◌ {A = ℕ} 0 1 = cc in omega arith
    go (no_is z) = let f = rw z at e in let q : ◌≡◌ {A = ℕ} 0 1 = cc in omega arith
no_ten (Ok (Take h)) room d e = go (seen (eqb room 0))
  where
    go : Seen (eqb room 0) → ⊥
    go (yes_is z) = let f = rw z at e in let q : ◌≡◌ {A = ℕ} 0 1 = cc in omega arith
    go (no_is z) = let f = rw z at e in let q : ◌≡◌ {A = ℕ} 0 1 = cc in omega arith

pub never_ten : (i : Network) (x : Box) → possible x ≡ true → (s : List ℕ) → told (some i) x (feeding s) ≡ fed (Err StoreTooShort) → ⊥
never_ten i x ok s e =
    no_ten (verdict_of (part i x) x.store s) _ (λ q. late 10 (verdict_early (part i x) x.store s StoreTooShort q) (omega arith) (λ z. omega arith))
    (same_fed _ _ (sym (fed_told i x ok s) ∙ e))

-- ---- a takeover

some_held : (s : List ℕ) → 0 < greatest s → (k : ℕ) × (1 ≤ get_or s k 0)
unfolding greatest
some_held [] l = absurd (omega arith)
some_held (n ∷ ns) l = go (seen (eqb n 0)) (λ m. some_held ns m)
  where
    go : Seen (eqb n 0) → (0 < greatest ns → (k : ℕ) × (1 ≤ get_or ns k 0)) → (k : ℕ) × (1 ≤ get_or (n ∷ ns) k 0)
    go (yes_is e) next = let z = eqb-true n 0 e in let q = next (omega arith) in (suc q.0, q.1)
    go (no_is e) next = let d = eqb-false n 0 e in (0, positive d)
      where
        positive : (n ≡ 0 → ⊥) → 1 ≤ n
        positive d = omega arith

-- a network that has begun holds a room, and once that is given back it is free
given_free : (n bytes : ℕ) (p q : Part) → Sound n p q bytes → nothing_begun p.gathering ≡ false
    → (h : Heading) → 1 ≤ free_room n (opened_part h).rooms q.rooms
unfolding uses opened_part
given_free n bytes p q x b h =
    let g = possible_begun p.gathering x.own.possible b in
    let k = some_held p.gathering.held g.some in
    go k.0 k.1 (x.own.paired k.0)
  where
    go : (k : ℕ) → 1 ≤ get_or p.gathering.held k 0 → Pair n (get_or p.gathering.held k 0) (get_or p.rooms k 0)
        → 1 ≤ free_room n (replicate 256 0) q.rooms
    go k l (unheld a c) = absurd (omega arith)
    go k l (holds a c d) =
        let r = get_or p.rooms k 0 in
        let o = x.once (get_or p.rooms k 0) c d in
        let w = held_counted p.rooms k (get_or p.rooms k 0) refl c in
        let f = count_zeros (get_or p.rooms k 0) 256 c in
        some_free n (replicate 256 0) q.rooms (get_or p.rooms k 0) c d (omega arith)

-- "a takeover gives its rooms back before it takes one": so it is never refused for room, it is taken
pub takeover_taken : (i : Network) (x : Box) → possible x ≡ true → (s : List ℕ) (h : Heading) → verdict_of (part i x) x.store s ≡ Ok (Begin h)
    → nothing_begun (part i x).gathering ≡ false → told (some i) x (feeding s) ≡ fed (Ok Taken)
unfolding room_for roomed base answer_by
takeover_taken i x ok s h e b =
    let n = rooms_in (length x.store) in
    let l = given_free n (length x.store) (part i x) (theirs i x.state) (sound i x ok) b h in
    fed_told i x ok s ∙ rw (e, ne_eqb (free_room n (opened_part h).rooms (theirs i x.state).rooms) 0 (λ z. omega arith))

-- ---- what a refused call leaves

module _ (i : Network) (x : Box) (s : List ℕ) where
  -- by the verdict: a refusal other than 11 changes nothing
  refused_by : (v : Result Verdict Refusal) (room : ℕ) (r : Refusal) → answer_by v ≡ Err r → (r ≡ Contradiction → ⊥)
      → (part_by (part i x) (payload_of s) room v ≡ part i x) × (store_by x.store (payload_of s) room v ≡ x.store)
  unfolding answer_by part_by store_by
  refused_by (Err t) room r e d = (refl, refl)
  refused_by (Ok Repeat) room r e d = let q : ◌≡◌ {A = ℕ} 0 1 = cc in absurd (omega arith)
  refused_by (Ok Contradict) room r e d = absurd (d (let q : r ≡ Contradiction = cc in q))
  refused_by (Ok (Begin h)) room r e d = let q : ◌≡◌ {A = ℕ} 0 1 = cc in absurd (omega arith)
  refused_by (Ok (Take h)) room r e d = let q : ◌≡◌ {A = ℕ} 0 1 = cc in absurd (omega arith)

-- an end that is refused leaves all
pub end_refused_leaves : (o : Option Network) (x : Box) (r : Refusal) → told o x ending ≡ ended (Err r) → box_after o x ending ≡ x
unfolding told box_after ended_of ended_for
end_refused_leaves none x r e = refl
end_refused_leaves (some i) x r e = go (seen (possible_of x.state (length x.store)))
  where
    go : Seen (possible_of x.state (length x.store)) → box_after (some i) x ending ≡ x
    go (yes_is ok) = let f = rw ok at e in let q : ◌≡◌ {A = ℕ} 0 1 = cc in absurd (omega arith)
    go (no_is bad) = rw bad

-- "Only 11 for a contradiction changes state": a feed that is refused otherwise leaves state and store as they were
pub refused_leaves : (o : Option Network) (x : Box) (s : List ℕ) (r : Refusal) → told o x (feeding s) ≡ fed (Err r) → (r ≡ Contradiction → ⊥)
    → box_after o x (feeding s) ≡ x
unfolding told box_after fed_of store_after fed_for store_for part_fed part_store room_verdict
refused_leaves none x s r e d = refl
refused_leaves (some i) x s r e d = go (seen (possible_of x.state (length x.store)))
  where
    go : Seen (possible_of x.state (length x.store)) → box_after (some i) x (feeding s) ≡ x
    go (yes_is ok) =
        let v = verdict_of (part i x) x.store s in
        let room = room_for (rooms_in (length x.store)) (part i x) (theirs i x.state).rooms v in
        let b = refused_by i x s (roomed v room) room r (same_fed (answer_by (roomed v room)) (Err r) (rw ok at e)) d in
        rw (ok, b.0, b.1) (ap (λ (y : Networks). record { state = y; store = x.store }) (sym (same_with i x.state)))
    go (no_is bad) = rw bad
