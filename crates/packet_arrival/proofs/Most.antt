-- How many bytes a section's packets have, and the most that one packet completes: 61 sections, of 4,278 bytes together. Each of them but the one
-- that was unfinished has 3 bytes or more of the packet's own.
use Prim.Native.Nat.{ℕ, zero, suc, ◌+◌, ◌-◌, ◌*◌, ◌/◌, ◌≤◌}
use Rattle.ground_refusal.specs.declared.Refusal.{Refusal}
use Rattle.section_reader.specs.declared.Heading.{Heading}
use mathlib.Core.Bool.{Bool, true, false, ◌&&◌}
use mathlib.Core.List.{List, [], ◌∷◌, ◌++◌, append-nil}
use mathlib.Core.Path.{◌≡◌, refl, sym, ap, ◌∙◌, subst}
use native.Mathlib.Omega.{arith}
use borrow.Author.Tests.{leb-true, ltb-false}
use lib.Dec.{eqb, leb, ltb}
use lib.ListN.{length, take, drop, length-append, length-drop, length-take}
use lib.Seq.{length-take-le}
use Rattle.std.specs.Prelude.{if◌then◌else◌, Result, Ok, Err}
use Rattle.ground_choices.proofs.Tests.{both}
use Rattle.ground_numbers.specs.Sizes.{section_length_most}
use Rattle.packet.specs.Sizes.{packet_bytes, counter_most}
use Rattle.packet.specs.Fields.{starts, control, payload_at, pointed_at, byte}
use Rattle.packet.specs.Judging.{judged}
use Rattle.packet.specs.declared.Judged.{Judged}
use Rattle.packet.specs.declared.Judged.TheVariants.{Damaged, Skipped, Carrying}
use Rattle.packet.proofs.Judging.{Carried, carried}
use Rattle.packet_frames.specs.Framing.{at_stuffing, framed, too_long, is_whole, is_begun, Read, nothing, longer, gone_on, before, begun_in, begun, joined}
use Rattle.packet_frames.proofs.Frames.{framed_least}
use Rattle.packet_frames.proofs.Growing.{begun_tests}
use Rattle.packet_plan.specs.Reading.{ended, ahead, read_on}
use Rattle.packet_plan.proofs.Plans.{joined_append}
use Rattle.packet_memory.specs.Memory.{Memory, held_after, repeated_once, is_repeat, going_on}
use Rattle.ground_refusal.specs.declared.Refusal.TheVariants.{OutsideSet, OutputTooSmall}
use Rattle.packet_memory.specs.State.{memory_of}
use Rattle.packet_memory.proofs.States.{memory_begun, going_begun}
use Rattle.section_reader.specs.Section.{section_length, read_section}
use Rattle.packet_writer.specs.Packing.{next_room, packed, laid, writes, packing_if_room, packing_of, packing, refuses as refused}
use Rattle.packet_writer.specs.Answers.{packed_by, packed_of}
use Rattle.packet_writer.proofs.Packets.{packed_long}
use Rattle.packet_writer.proofs.Calls.{good_short}
use Rattle.packet_reader.specs.Unpacking.{refuses, gives, fitting, carrying, verdict_on, unpacking}

-- ---- a whole section's bytes

whole_within : (d : List ℕ) → is_whole d ≡ true → framed d ≤ length d
unfolding is_whole
whole_within d e = leb-true (framed d) (length d) (both (leb 3 (length d)) (leb (framed d) (length d)) e).1

whole_short : (d : List ℕ) → is_whole d ≡ true → too_long d ≡ false → framed d ≤ 4096
unfolding is_whole too_long framed
whole_short d e f = go (both (leb 3 (length d)) (leb (section_length d + 3) (length d)) e).0 f
  where
    go : leb 3 (length d) ≡ true → (leb 3 (length d) && ltb section_length_most (section_length d)) ≡ false → section_length d + 3 ≤ 4096
    go t g =
        let s : ltb section_length_most (section_length d) ≡ false = subst (λ b. (b && ltb section_length_most (section_length d)) ≡ false) t g in
        let a = ltb-false section_length_most (section_length d) s in
        omega arith

-- ---- sections that begin in the packet

-- each has 3 bytes or more, and they lie in d
record Few (d : List ℕ) (r : Read) : Type 0 where
  pub count : 3 * length r.sections ≤ length d
  pub bytes : length (joined r.sections) ≤ length d

few_none : (d : List ℕ) → Few d nothing
unfolding nothing joined
few_none d = record { count = omega arith; bytes = omega arith }

few_in : (n : ℕ) (d : List ℕ) → Few d (begun_in n d)
unfolding begun_in before joined
few_in zero d = few_none d
few_in (suc n) d = go (few_in n (drop (framed d) d)) (at_stuffing d) (too_long d) (is_whole d) refl
  where
    rest : List ℕ
    rest = drop (framed d) d

    go : Few rest (begun_in n rest) → (a b c : Bool) → is_whole d ≡ c
        → Few d
        (if a then nothing else
        if b then nothing else
        if c then before (take (framed d) d) (begun_in n rest) else
        record { sections = []; unfinished = d })
    go f true b c w = few_none d
    go f false true c w = few_none d
    go f false false true w =
        let least = framed_least d in
        let within = whole_within d w in
        let t = length-take-le (framed d) d within in
        let l = length-drop (framed d) d in
        let j = length-append (take (framed d) d) (joined (begun_in n rest).sections) in
        let k = f.count in
        let b = f.bytes in
        record { count = omega arith; bytes = omega arith }
    go f false false false w = record { count = omega arith; bytes = omega arith }

few_begun : (d : List ℕ) → Few d (begun d)
unfolding begun
few_begun d = few_in (length d) d

-- ---- the section that was unfinished

-- it is one at most, of 4,096 bytes at most, and none where no byte comes to it
record One (more : List ℕ) (r : Read) : Type 0 where
  pub count : length r.sections ≤ 1
  pub bytes : length (joined r.sections) ≤ 4096 * length r.sections
  pub none : length more ≡ 0 → length r.sections ≡ 0

one_none : (more : List ℕ) → One more nothing
unfolding nothing joined
one_none more = record { count = omega arith; bytes = omega arith; none = λ e. refl }

one_gone : (u more : List ℕ) → is_begun u ≡ true → One more (gone_on u more)
unfolding gone_on longer joined
one_gone [] more e = one_none more
one_gone (x ∷ xs) more e = go (too_long d) refl (is_whole d) refl
  where
    d : List ℕ
    d = x ∷ (xs ++ more)

    unmoved : (m : List ℕ) → length m ≡ 0 → x ∷ (xs ++ m) ≡ x ∷ xs
    unmoved [] q = append-nil (x ∷ xs)
    unmoved (y ∷ ys) q = absurd (omega arith)

    go : (a : Bool) → too_long d ≡ a → (b : Bool) → is_whole d ≡ b
        → One more
        (if a then nothing else
        if b then record { sections = take (framed d) d ∷ []; unfinished = [] } else
        record { sections = []; unfinished = d })
    go true t b w = one_none more
    go false t true w =
        let s = whole_short d w t in
        let l = length-take-le (framed d) d (whole_within d w) in
        let j = length-append (take (framed d) d) [] in
        record {
          count = omega arith;
          bytes = omega arith;
          none = λ q. let z : true ≡ false = sym w ∙ ap is_whole (unmoved more q) ∙ (begun_tests x xs e).2 in absurd_bool z;
        }
      where
        absurd_bool : true ≡ false → length (take (framed d) d ∷ []) ≡ 0
        absurd_bool z = let y : ◌≡◌ {A = ℕ} 1 0 = ap (λ b. if b then 1 else 0) z in absurd (omega arith)
    go false t false w = record { count = omega arith; bytes = omega arith; none = λ q. refl }

-- ---- a packet

payload_least : (p : List ℕ) → 4 ≤ payload_at p
unfolding payload_at
payload_least p = go (eqb (control p) 1)
  where
    go : (b : Bool) → 4 ≤ (if b then 4 else 5 + byte p 4)
    go true = omega arith
    go false = omega arith

record Most (ss : List (List ℕ)) : Type 0 where
  pub sections : length ss ≤ 61
  pub bytes : length (joined ss) ≤ 4278

most_none : Most []
unfolding joined
most_none = record { sections = omega arith; bytes = omega arith }

ahead_most : (p : List ℕ) → length (ahead p) ≤ pointed_at p - (payload_at p + 1)
unfolding ahead
ahead_most p = let l = length-take (pointed_at p - (payload_at p + 1)) (drop (payload_at p + 1) p) in omega arith

-- the unfinished section, if a byte comes to it, and those that begin where the pointer points
sums : (more front back front_Bytes back-bytes at pointed : ℕ) → front ≤ 1 → (more ≡ 0 → front ≡ 0) → front_Bytes ≤ 4096 * front
    → 3 * back ≤ 188 - pointed → back-bytes ≤ 188 - pointed → more ≤ pointed - (at + 1) → 4 ≤ at → at + 1 ≤ pointed
    → (front + back ≤ 61) × (front_Bytes + back-bytes ≤ 4278)
sums zero front back front_Bytes back-bytes at pointed one none f b bb m l p = let z = none refl in (omega arith, omega arith)
sums (suc more) front back front_Bytes back-bytes at pointed one none f b bb m l p = (omega arith, omega arith)

pointed_least : (p : List ℕ) → payload_at p + 1 ≤ pointed_at p
unfolding pointed_at
pointed_least p = omega arith

module _ (u p : List ℕ) (b : is_begun u ≡ true) (c : Carried p) where
  most_started : Most (ended u (ahead p) (drop (pointed_at p) p)).sections
  unfolding ended
  most_started =
      let one = one_gone u (ahead p) b in
      let few = few_begun (drop (pointed_at p) p) in
      let front = (gone_on u (ahead p)).sections in
      let back = (begun (drop (pointed_at p) p)).sections in
      let l : length (drop (pointed_at p) p) ≡ 188 - pointed_at p = length-drop (pointed_at p) p ∙ ap (λ n. n - pointed_at p) c.size in
      let s =
      sums (length (ahead p)) (length front) (length back) (length (joined front)) (length (joined back)) (payload_at p) (pointed_at p)
      one.count one.none one.bytes (subst (λ n. 3 * length back ≤ n) l few.count) (subst (λ n. length (joined back) ≤ n) l few.bytes)
      (ahead_most p) (payload_least p) (pointed_least p)
      in
      record {
        sections = subst (λ n. n ≤ 61) (sym (length-append front back)) s.0;
        bytes = subst (λ n. n ≤ 4278) (sym (ap length (joined_append front back) ∙ length-append (joined front) (joined back))) s.1;
      }

  most_unstarted : Most (gone_on u (drop (payload_at p) p)).sections
  most_unstarted =
      let one = one_gone u (drop (payload_at p) p) b in
      let n = one.count in
      let m = one.bytes in
      record { sections = omega arith; bytes = omega arith }

  most_read : Most (read_on u p).sections
  unfolding read_on
  most_read = go (starts p)
    where
      go : (s : Bool) → Most (if s then ended u (ahead p) (drop (pointed_at p) p) else gone_on u (drop (payload_at p) p)).sections
      go true = most_started
      go false = most_unstarted

-- ---- a verdict

none_given : (n m : Memory) (ss : List (List ℕ)) → gives [] n ≡ gives ss m → Most ss
none_given n m ss e = let q : [] ≡ ss = cc in subst Most q most_none

fitting_most : (room : ℕ) (p : List ℕ) (r : Read) (ss : List (List ℕ)) (m : Memory) → Most r.sections → fitting room p r ≡ gives ss m → Most ss
unfolding fitting
fitting_most room p r ss m most e = go (ltb room (length (joined r.sections))) e
  where
    go : (b : Bool) → (if b then refuses OutputTooSmall else gives r.sections (held_after r.unfinished p)) ≡ gives ss m → Most ss
    go true q = absurd (let z : ◌≡◌ {A = ℕ} 0 1 = cc in omega arith)
    go false q = let s : r.sections ≡ ss = cc in subst Most s most

carrying_most : (room : ℕ) (s p : List ℕ) (ss : List (List ℕ)) (m : Memory) → Carried p → carrying room (memory_of s) p ≡ gives ss m → Most ss
unfolding carrying
carrying_most room s p ss m c e = go (is_repeat (memory_of s) p) e
  where
    u : List ℕ
    u = going_on (memory_of s) p

    go : (b : Bool) → (if b then gives [] (repeated_once (memory_of s)) else fitting room p (read_on u p)) ≡ gives ss m → Most ss
    go true q = none_given _ m ss q
    go false q = fitting_most room p (read_on u p) ss m (most_read u p (going_begun (memory_of s) p (memory_begun s)) c) q

-- no packet, after any state, gives more than 61 sections, or more than 4,278 bytes of them
pub gives_most : (room : ℕ) (s p : List ℕ) (ss : List (List ℕ)) (m : Memory) → unpacking room (memory_of s) p ≡ gives ss m
    → (length ss ≤ 61) × (length (joined ss) ≤ 4278)
unfolding unpacking verdict_on
gives_most room s p ss m e = let most = go (judged p) refl e in (most.sections, most.bytes)
  where
    go : (j : Result Judged Refusal) → judged p ≡ j → verdict_on j room (memory_of s) p ≡ gives ss m → Most ss
    go (Err r) q x = absurd (let z : ◌≡◌ {A = ℕ} 0 1 = cc in omega arith)
    go (Ok Damaged) q x = none_given _ m ss x
    go (Ok Skipped) q x = none_given _ m ss x
    go (Ok Carrying) q x = carrying_most room s p ss m (carried p q) x

-- ---- the packer

-- the packets' bytes, which the longest section has 4,324 of
pub packs_most : (counter : ℕ) (section out : List ℕ) (n : ℕ) → packed_of counter section out ≡ Ok n
    → (n ≡ packet_bytes * (1 + length section / next_room)) × (n ≤ 4324)
unfolding packing packing_of packing_if_room packed_by
packs_most counter section out n e = go (read_section section) refl e
  where
    by : (b c : Bool) (l : length section ≤ 4096)
        → packed_by (if b then refused (OutsideSet 0) else if c then refused OutputTooSmall else writes (laid (packed counter section))) ≡ Ok n
        → (n ≡ packet_bytes * (1 + length section / next_room)) × (n ≤ 4324)
    by true c l x = absurd (let z : ◌≡◌ {A = ℕ} 0 1 = cc in omega arith)
    by false true l x = absurd (let z : ◌≡◌ {A = ℕ} 0 1 = cc in omega arith)
    by false false l x =
        let long = packed_long counter section in
        let q : length (laid (packed counter section)) ≡ n = cc in
        (omega arith, omega arith)

    go : (r : Result (Heading × ℕ) Refusal) → read_section section ≡ r → packed_by (packing_of r (length out) counter section) ≡ Ok n
        → (n ≡ packet_bytes * (1 + length section / next_room)) × (n ≤ 4324)
    go (Err why) q x = absurd (let z : ◌≡◌ {A = ℕ} 0 1 = cc in omega arith)
    go (Ok (h, m)) q x = by (ltb counter_most counter) (ltb (length out) (length (laid (packed counter section)))) (good_short section (h, m) q) x
