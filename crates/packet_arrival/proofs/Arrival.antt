-- The theorem: whatever was before, what is packed section by section is given out, section by section, and nothing else.
use Prim.Native.Nat.{ℕ, zero, suc, ◌+◌, ◌-◌, ◌*◌, ◌/◌, ◌≤◌, ◌<◌}
use mathlib.Core.Bool.{Bool, true, false}
use mathlib.Core.List.{List, [], ◌∷◌, ◌++◌, append_assoc, append-nil}
use mathlib.Core.Path.{◌≡◌, refl, sym, ap, ◌∙◌}
use native.Mathlib.Omega.{arith}
use borrow.Author.Tests.{le-ltb, ne_eqb}
use lib.ListN.{length, get_or, take, drop, replicate, length-append, length-take, length-drop, take-append-drop}
use lib.Seq.{take_all, length-take-le}
use Rattle.ground_numbers.specs.Sizes.{configuration_kind, content_kind, section_length_most}
use Rattle.ground_numbers.proofs.Ranges.{within_known}
use Rattle.section_reader.specs.Section.{is_kind, section_length}
use Rattle.section_reader.proofs.Accepting.{accepted}
use Rattle.packet.specs.Sizes.{packet_bytes, stuffing, counter_most}
use Rattle.packet.specs.Fields.{counter}
use Rattle.packet_frames.specs.Framing.{at_stuffing, framed, is_begun, nothing, longer, gone_on, begun}
use Rattle.packet_frames.proofs.Frames.{length_front, framed_front}
use Rattle.packet_frames.proofs.Growing.{begun_tests, nothing_begun_lem}
use Rattle.packet_plan.specs.Reading.{ended}
use Rattle.packet_memory.specs.Memory.{Memory, fresh, held_after, is_repeat, going_on}
use Rattle.packet_memory.proofs.States.{going_begun}
use Rattle.packet_reader.specs.Unpacking.{gives, fitting, unpacking, unpacking_all}
use Rattle.packet_frames.specs.Framing.{joined}
use Rattle.packet_writer.specs.Packing.{first_room, next_room, header, packet_of, next, continued, packed, after, packed_all}
use Rattle.packet_writer.proofs.Packets.{packet_long}
use Rattle.packet_arrival.specs.Packed.{GoodSection, AllGood, first_packet}
use Rattle.packet_arrival.proofs.Packets.{Awaits, packet_counter, awaited_repeat, continuing, starting}
use Rattle.packet_arrival.proofs.Bytes.{stuffing_front, goes_on_whole, goes_on_open, begins_whole, begins_open}
use Rattle.packet_arrival.proofs.Runs.{run_cons, run_then}

-- ---- good sections

-- as many bytes as the section_length in them says, and a table_id that is not FF
record Framed (s : List ℕ) : Type 0 where
  least : 3 ≤ length s
  short : section_length s ≤ section_length_most
  own : framed s ≡ length s
  begins : at_stuffing s ≡ false

kind_begins : (s : List ℕ) → 3 ≤ length s → is_kind (get_or s 0 0) ≡ true → at_stuffing s ≡ false
unfolding is_kind at_stuffing
kind_begins [] h e = absurd (omega arith)
kind_begins (b ∷ bs) h e = let k = (within_known configuration_kind b content_kind e).1 in ne_eqb b stuffing (λ q. omega arith)

good_framed : (s : List ℕ) → GoodSection s → Framed s
unfolding framed
good_framed s g =
    let f = (accepted s g.0 g.1 g.2).framed in
    let l = f.long in
    record {
      least = omega arith;
      short = (within_known 9 (section_length s) section_length_most f.counted).1;
      own = sym f.whole;
      begins = kind_begins s (omega arith) f.kind;
    }

-- ---- counters

pub next_low : (c : ℕ) → next c ≤ counter_most
unfolding next
next_low c = omega arith

after_low : (n c : ℕ) → c ≤ counter_most → after n c ≤ counter_most
unfolding after
after_low zero c h = h
after_low (suc n) c h = after_low n (next c) (next_low c)

-- ---- one packet's verdict, with room

module _ (room : ℕ) (p : List ℕ) where
  fits_none : (u : List ℕ) → fitting room p (record { sections = []; unfinished = u }) ≡ gives [] (held_after u p)
  unfolding fitting joined
  fits_none u = rw (le-ltb room 0 (omega arith))

  fits_one : (s : List ℕ) → length s ≤ room
      → fitting room p (record { sections = s ∷ []; unfinished = [] }) ≡ gives (s ∷ []) (held_after [] p)
  unfolding fitting joined
  fits_one s h = rw (append-nil s, le-ltb room (length s) h)

-- ---- runs that end with nothing unfinished

-- the packets give the sections, and c is the counter after them
pub record Arrives (room : ℕ) (m : Memory) (ps ss : List (List ℕ)) (c : ℕ) : Type 0 where
  pub left : List ℕ
  pub run : unpacking_all room m ps ≡ gives ss (held_after [] left)
  pub awaits : Awaits left c

awaits_of : (l : List ℕ) (c : ℕ) → next (counter l) ≡ c → Awaits l c
awaits_of [] c e = tt
awaits_of (b ∷ bs) c e = e

packet_awaits : (start : Bool) (c : ℕ) → c ≤ counter_most → (payload : List ℕ) → Awaits (packet_of start c payload) (next c)
packet_awaits start c low payload = awaits_of (packet_of start c payload) (next c) (ap next (packet_counter start c low payload))

-- ---- a section's packets after the first

-- the bytes u so far, and the bytes r to come
record Open (u r : List ℕ) : Type 0 where
  least : 3 ≤ length u
  sum : framed u ≡ length u + length r
  most : section_length u ≤ section_length_most

no_stuffing : (n : ℕ) (r : List ℕ) → n ≡ 0 → r ++ replicate n stuffing ≡ r
no_stuffing n r e = rw e (append-nil r)

length_part : (n : ℕ) (r : List ℕ) → n ≤ length r → length (take n r) + length (drop n r) ≡ length r
length_part n r h = sym (length-append (take n r) (drop n r)) ∙ ap length (take-append-drop n r)

open_on : (u r : List ℕ) → Open u r → next_room ≤ length r → Open (u ++ take next_room r) (drop next_room r)
open_on u r o h =
    let l = length-append u (take next_room r) in
    let t = length_part next_room r h in
    let q = o.least in
    record {
      least = omega arith;
      sum = framed_front u (take next_room r) q ∙ o.sum ∙ omega arith;
      most = rw (length_front u (take next_room r) q) o.most;
    }

run_none : (room : ℕ) (m : Memory) → unpacking_all room m [] ≡ gives [] m
unfolding unpacking_all
run_none room m = refl

continued_length : (k c : ℕ) (r : List ℕ) → length (continued k c r) ≡ k
unfolding continued
continued_length zero c r = refl
continued_length (suc k) c r = ap suc (continued_length k (next c) (drop next_room r))

module _ (room : ℕ) (roomy : 4096 ≤ room) where
  -- the last of them
  last_packet : (c : ℕ) (m : Memory) (r : List ℕ) → c ≤ counter_most → Awaits m.last c → Open m.unfinished r → length r ≤ next_room
      → unpacking room m (packet_of false c (take next_room r)) ≡ gives ((m.unfinished ++ r) ∷ []) (held_after [] (packet_of false c (take next_room r)))
  unfolding framed
  last_packet c m r low a o h =
      rw (take_all next_room r h)
      (continuing m c low a room r h
      ∙ ap (fitting room (packet_of false c r)) (goes_on_whole m.unfinished r o.least o.most (replicate (next_room - length r) stuffing) o.sum)
      ∙ fits_one room (packet_of false c r) (m.unfinished ++ r) (let s = o.sum in let t = o.most in omega (arith, length-append m.unfinished r)))

  -- one before the last
  full_packet : (c : ℕ) (m : Memory) (r : List ℕ) → c ≤ counter_most → Awaits m.last c → Open m.unfinished r → next_room < length r
      → unpacking room m (packet_of false c (take next_room r)) ≡ gives [] (held_after (m.unfinished ++ take next_room r) (packet_of false c (take next_room r)))
  full_packet c m r low a o h =
      let l = length-take-le next_room r (omega arith) in
      let s = o.sum in
      continuing m c low a room (take next_room r) (omega arith)
      ∙ ap (fitting room (packet_of false c (take next_room r)))
      (ap (gone_on m.unfinished) (no_stuffing (next_room - length (take next_room r)) (take next_room r) (omega arith))
      ∙ goes_on_open m.unfinished (take next_room r) o.least o.most (omega arith))
      ∙ fits_none room (packet_of false c (take next_room r)) (m.unfinished ++ take next_room r)

  continues : (k c : ℕ) (m : Memory) (r : List ℕ) → c ≤ counter_most → Awaits m.last c → Open m.unfinished r
      → next_room * k < length r → length r ≤ next_room * suc k
      → Arrives room m (continued (suc k) c r) ((m.unfinished ++ r) ∷ []) (after (suc k) c)
  unfolding continued after held_after
  continues zero c m r low a o more less =
      record {
        left = packet_of false c (take next_room r);
        run =
            run_cons room m (held_after [] (packet_of false c (take next_room r))) _ (packet_of false c (take next_room r)) [] ((m.unfinished ++ r) ∷ []) []
            (last_packet c m r low a o (omega arith)) (run_none room _);
        awaits = packet_awaits false c low (take next_room r);
      }
  continues (suc k) c m r low a o more less =
      let p = packet_of false c (take next_room r) in
      let n = held_after (m.unfinished ++ take next_room r) p in
      let d = length-drop next_room r in
      let rest =
      continues k (next c) n (drop next_room r) (next_low c) (packet_awaits false c low (take next_room r))
      (open_on m.unfinished r o (omega arith)) (omega arith) (omega arith) in
      record {
        left = rest.left;
        run =
            run_cons room m n _ p _ [] _ (full_packet c m r low a o (omega arith)) rest.run
            ∙ ap (λ s. gives (s ∷ []) (held_after [] rest.left))
            (append_assoc m.unfinished (take next_room r) (drop next_room r) ∙ ap (λ l. m.unfinished ++ l) (take-append-drop next_room r));
        awaits = rest.awaits;
      }

  -- ---- a section

  -- nothing is lost of what was before, since it was not whole: the first packet's pointer comes too soon for it
  ended_begun : (u d : List ℕ) → is_begun u ≡ true → ended u [] d ≡ begun d
  unfolding ended gone_on nothing longer
  ended_begun [] d e = refl
  ended_begun (x ∷ xs) d e = let t = begun_tests x xs e in rw (append-nil xs, t.1, t.2)

  -- from any memory: the section's first packet is no repeat of the last one taken
  module _ (c : ℕ) (low : c ≤ counter_most) (m : Memory) (b : is_begun m.unfinished ≡ true) (s : List ℕ) (other : is_repeat m (first_packet c s) ≡ false)
      (f : Framed s) where
    p₁ : List ℕ
    p₁ = packet_of true c (0 ∷ take first_room s)

    begins_at : unpacking room m p₁ ≡ fitting room p₁ (begun (take first_room s ++ replicate (first_room - length (take first_room s)) stuffing))
    unfolding p₁ first_packet
    begins_at =
        starting m c low room (take first_room s) (omega (arith, length-take first_room s)) other
        ∙ ap (fitting room p₁) (ended_begun (going_on m p₁) _ (going_begun m p₁ b))

    one_packet : length s ≤ first_room → unpacking room m p₁ ≡ gives (s ∷ []) (held_after [] p₁)
    one_packet h =
        begins_at
        ∙ ap (λ d. fitting room p₁ (begun (d ++ replicate (first_room - length d) stuffing))) (take_all first_room s h)
        ∙ ap (fitting room p₁) (begins_whole s f.least f.short f.begins (first_room - length s) f.own)
        ∙ fits_one room p₁ s (omega arith)

    front_length : first_room < length s → section_length (take first_room s) ≡ section_length s
    front_length h =
        sym (length_front (take first_room s) (drop first_room s) (omega (arith, length-take-le first_room s (omega arith))))
        ∙ ap section_length (take-append-drop first_room s)

    front_framed : first_room < length s → framed (take first_room s) ≡ length s
    unfolding framed
    front_framed h = ap (λ (n : ℕ). n + 3) (front_length h) ∙ f.own

    front_begins : first_room < length s → at_stuffing (take first_room s) ≡ false
    front_begins h =
        sym (stuffing_front (take first_room s) (drop first_room s) (omega (arith, length-take-le first_room s (omega arith))))
        ∙ ap at_stuffing (take-append-drop first_room s) ∙ f.begins

    front_open : first_room < length s → Open (take first_room s) (drop first_room s)
    front_open h =
        let l = length-take-le first_room s (omega arith) in
        let e = front_framed h in
        let d = length_part first_room s (omega arith) in
        record { least = omega arith; sum = omega arith; most = rw (front_length h) f.short }

    first_packet_lem : first_room < length s → unpacking room m p₁ ≡ gives [] (held_after (take first_room s) p₁)
    first_packet_lem h =
        let l = length-take-le first_room s (omega arith) in
        let e = front_framed h in
        let o = front_open h in
        begins_at
        ∙ ap (λ d. fitting room p₁ (begun d)) (no_stuffing (first_room - length (take first_room s)) (take first_room s) (omega arith))
        ∙ ap (fitting room p₁) (begins_open (take first_room s) o.least o.most (front_begins h) (omega arith))
        ∙ fits_none room p₁ (take first_room s)

    many_packets : (k : ℕ) → length s / next_room ≡ k → Arrives room m (p₁ ∷ continued k (next c) (drop first_room s)) (s ∷ []) (after (suc k) c)
    unfolding continued after p₁ held_after
    many_packets zero e =
        record {
          left = p₁;
          run = run_cons room m (held_after [] p₁) _ p₁ [] (s ∷ []) [] (one_packet (omega arith)) (run_none room _);
          awaits = packet_awaits true c low (0 ∷ take first_room s);
        }
    many_packets (suc k) e =
        let h : first_room < length s = omega arith in
        let n = held_after (take first_room s) p₁ in
        let d = length-drop first_room s in
        let rest =
        continues k (next c) n (drop first_room s) (next_low c) (packet_awaits true c low (0 ∷ take first_room s)) (front_open h)
        (omega arith) (omega arith) in
        record {
          left = rest.left;
          run =
              run_cons room m n _ p₁ _ [] _ (first_packet_lem h) rest.run
              ∙ ap (λ t. gives (t ∷ []) (held_after [] rest.left)) (take-append-drop first_room s);
          awaits = rest.awaits;
        }

    section_arrives : Arrives room m (packed c s) (s ∷ []) (after (length (packed c s)) c)
    unfolding packed p₁
    section_arrives = rw (continued_length (length s / next_room) (next c) (drop first_room s)) (many_packets (length s / next_room) refl)

  -- ---- all of them

  first_long : (c : ℕ) (s : List ℕ) → length (first_packet c s) ≡ packet_bytes
  unfolding first_packet
  first_long c s = packet_long true c (0 ∷ take first_room s) (omega (arith, length-take first_room s))

  -- the first packet of what is awaited is no repeat
  awaited_first : (c : ℕ) → c ≤ counter_most → (l : List ℕ) → Awaits l c → (s : List ℕ) → is_repeat (held_after [] l) (first_packet c s) ≡ false
  unfolding held_after first_packet
  awaited_first c low l a s =
      awaited_repeat (held_after [] l) (first_packet c s) (first_long c s) (rw (packet_counter true c low (0 ∷ take first_room s)) a)

  sections_arrive : (ss : List (List ℕ)) → AllGood ss → (c : ℕ) → c ≤ counter_most → (l : List ℕ) → Awaits l c
      → (n : Memory) × (unpacking_all room (held_after [] l) (packed_all c ss) ≡ gives ss n)
  unfolding packed_all held_after
  sections_arrive [] fs c low l a = (held_after [] l, run_none room (held_after [] l))
  sections_arrive (s ∷ ss) fs c low l a =
      let m = held_after [] l in
      let one = section_arrives c low m nothing_begun_lem s (awaited_first c low l a s) (good_framed s fs.0) in
      let d = after (length (packed c s)) c in
      let rest = sections_arrive ss fs.1 d (after_low (length (packed c s)) c low) one.left one.awaits in
      (rest.0, run_then room m (held_after [] one.left) rest.0 (packed c s) _ (s ∷ []) ss one.run rest.1)

-- whatever was before, a gap, an error bit, a length too great or a pointer too soon: what is packed from then on arrives, from any counter, unless its
-- first packet is taken for the repeat of the very same one
pub resumes : (room c : ℕ) (m : Memory) (s : List ℕ) (ss : List (List ℕ)) → 4096 ≤ room → c ≤ counter_most → AllGood (s ∷ ss)
    → is_begun m.unfinished ≡ true → is_repeat m (first_packet c s) ≡ false
    → (n : Memory) × (unpacking_all room m (packed_all c (s ∷ ss)) ≡ gives (s ∷ ss) n)
unfolding packed_all
resumes room c m s ss roomy low fs b other =
    let one = section_arrives room roomy c low m b s other (good_framed s fs.0) in
    let d = after (length (packed c s)) c in
    let rest = sections_arrive room roomy ss fs.1 d (after_low (length (packed c s)) c low) one.left one.awaits in
    (rest.0, run_then room m (held_after [] one.left) rest.0 (packed c s) _ (s ∷ []) ss one.run rest.1)

-- "From a fresh unpacker, packing good sections, each from the counter after the last packet's, and unpacking gives them in order."
pub arrives : (room c : ℕ) (ss : List (List ℕ)) → 4096 ≤ room → c ≤ counter_most → AllGood ss
    → (m : Memory) × (unpacking_all room fresh (packed_all c ss) ≡ gives ss m)
unfolding fresh held_after
arrives room c ss roomy low fs = sections_arrive room roomy ss fs c low [] tt
