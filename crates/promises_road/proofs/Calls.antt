-- What the calls do is the way that the definitions name: the packer's bytes are the packets, the unpacker's the sections, and each can be taken out.
use Prim.Native.Nat.{ℕ, zero, suc, ◌+◌, ◌*◌, ◌/◌, ◌%◌, ◌≤◌}
use Rattle.ground_refusal.specs.declared.Refusal.{Refusal}
use Rattle.section_reader.specs.declared.Heading.{Heading}
use mathlib.Core.Bool.{Bool, true, false}
use mathlib.Core.List.{List, [], ◌∷◌, ◌++◌, append_assoc}
use mathlib.Core.Path.{◌≡◌, refl, sym, ap, ap₂, ◌∙◌, subst}
use native.Mathlib.Omega.{arith}
use lib.Dec.{ltb}
use lib.ListN.{length, take, drop, length-append, length-take}
use lib.Seq.{take_at, drop_at}
use Rattle.std.specs.Prelude.{if◌then◌else◌, Result, Ok, Err}
use Rattle.ground_placing.proofs.Placing.{placed_start}
use Rattle.ground_refusal.specs.declared.Refusal.TheVariants.{OutsideSet, OutputTooSmall}
use Rattle.section_reader.specs.Section.{read_section, stated_length}
use Rattle.section_reader.proofs.Accepting.{accepted, good_states}
use Rattle.section_cutter.specs.Cutting.{section_of, Askable, cut_answer, cut_output}
use Rattle.section_cutter.proofs.Cuts.{written_is}
use Rattle.section_cutter.proofs.Sections.{cut_written}
use Rattle.packet.specs.Sizes.{packet_bytes, counter_most}
use Rattle.packet_frames.specs.Framing.{joined}
use Rattle.packet_writer.specs.Packing.{first_room, next_room, next, continued, packed, after, packed_all}
use Rattle.packet_writer.specs.Packing.{laid, Verdict, refuses, writes, packing_if_room, packing_of, packing}
use Rattle.packet_writer.specs.Answers.{packed_by, output_by, packed_of, packets_over}
use Rattle.packet_writer.proofs.Packets.{packet_long, packed_long}
use Rattle.packet_arrival.specs.Packed.{GoodSection, AllGood}
use Rattle.packet_arrival.specs.Served.{Served}
use Rattle.packet_arrival.proofs.Arrival.{arrives, next_low}
use Rattle.packet_arrival.proofs.Served.{served}
use Rattle.gathering_account.specs.Gathers.{ByteStrings}
use Rattle.promises_road.specs.Road.{OverPackets}
use Rattle.promises_road.specs.Calls.{PackedByCalls, packets_in, packets_of, TakenOut, PacketCalls}

-- ---- the cutter

pub cut_by_call : (body : List ℕ) (kind extension version number : ℕ) (out : List ℕ) (n : ℕ) → cut_answer body kind extension version number out ≡ Ok n
    → Askable (length body) kind extension version number
    × (take n (cut_output body kind extension version number out) ≡ section_of body kind extension version number)
cut_by_call body kind extension version number out n e =
    cut_written body kind extension version number (length out) (take n (cut_output body kind extension version number out)) (written_is _ out _ n (sym e, refl))

-- ---- the packer

module _ (c : ℕ) (s out : List ℕ) (n : ℕ) where
  -- a call that is answered with a length was for a good section, and wrote its packets
  one_packed : packed_of c s out ≡ Ok n → GoodSection s × (packing (length out) c s ≡ writes (laid (packed c s)))
  unfolding packing packing_of packing_if_room packed_by
  one_packed e = go (read_section s) refl e
    where
      by : (b d : Bool)
          → packed_by (if b then refuses (OutsideSet 0) else if d then refuses OutputTooSmall else writes (laid (packed c s))) ≡ Ok n
          → (if b then refuses (OutsideSet 0) else if d then refuses OutputTooSmall else writes (laid (packed c s))) ≡ writes (laid (packed c s))
      by true d x = absurd (let z : ◌≡◌ {A = ℕ} 0 1 = cc in omega arith)
      by false true x = absurd (let z : ◌≡◌ {A = ℕ} 0 1 = cc in omega arith)
      by false false x = refl

      go : (r : Result (Heading × ℕ) Refusal) → read_section s ≡ r → packed_by (packing_of r (length out) c s) ≡ Ok n
          → GoodSection s × (packing_of r (length out) c s ≡ writes (laid (packed c s)))
      go (Err why) q x = absurd (let z : ◌≡◌ {A = ℕ} 0 1 = cc in omega arith)
      go (Ok (h, m)) q x = ((h, m, q), by (ltb counter_most c) (ltb (length out) (length (laid (packed c s)))) x)

  one_long : packed_of c s out ≡ Ok n → n ≡ length (laid (packed c s))
  unfolding packed_by
  one_long e = let t = sym (ap packed_by (one_packed e).1) ∙ e in cc

  one_bytes : packed_of c s out ≡ Ok n → take n (packets_over c s out) ≡ laid (packed c s)
  unfolding output_by
  one_bytes e = ap (λ (v : Verdict). take n (output_by v out)) (one_packed e).1 ∙ placed_start out (laid (packed c s)) n (one_long e)

continued_count : (k c : ℕ) (bytes : List ℕ) → length (continued k c bytes) ≡ k
unfolding continued
continued_count zero c bytes = refl
continued_count (suc k) c bytes = ap suc (continued_count k (next c) (drop next_room bytes))

packed_count : (c : ℕ) (s : List ℕ) → length (packed c s) ≡ suc (length s / next_room)
unfolding packed
packed_count c s = ap suc (continued_count (length s / next_room) (next c) (drop first_room s))

after_is : (n c : ℕ) → c ≤ counter_most → after n c ≡ (c + n) % 16
unfolding after next
after_is zero c l = omega arith
after_is (suc n) c l = after_is n (next c) (next_low c) ∙ omega arith

-- the counter after the last packet's
counted : (c : ℕ) (s out : List ℕ) (n : ℕ) → c ≤ counter_most → packed_of c s out ≡ Ok n
    → (c + n / packet_bytes) % 16 ≡ after (length (packed c s)) c
counted c s out n l e =
    let a = one_long c s out n e in
    let b = packed_long c s in
    let d = packed_count c s in
    let k : n / packet_bytes ≡ length (packed c s) = omega arith in
    ap (λ (x : ℕ). (c + x) % 16) k ∙ sym (after_is (length (packed c s)) c l)

laid_append : (ps qs : List (List ℕ)) → laid (ps ++ qs) ≡ laid ps ++ laid qs
unfolding laid
laid_append [] qs = refl
laid_append (p ∷ ps) qs = ap (λ (l : List ℕ). p ++ l) (laid_append ps qs) ∙ sym (append_assoc p (laid ps) (laid qs))

pub all_packed : (c : ℕ) (ss : List (List ℕ)) (stream : List ℕ) → c ≤ counter_most → PackedByCalls c ss stream → AllGood ss × (stream ≡ laid (packed_all c ss))
unfolding packed_all laid
all_packed c [] stream l v = (tt, v)
all_packed c (s ∷ ss) stream l v =
    let e = v.3 in
    let rest = all_packed ((c + v.1 / packet_bytes) % 16) ss v.2 (omega arith) v.5 in (
      ((one_packed c s v.0 v.1 e).0, rest.0),
      v.4 ∙ ap₂ ◌++◌ (one_bytes c s v.0 v.1 e) (rest.1 ∙ ap (λ (x : ℕ). laid (packed_all x ss)) (counted c s v.0 v.1 l e))
          ∙ sym (laid_append (packed c s) (packed_all (after (length (packed c s)) c) ss)),
    )

-- ---- the stream's packets

abbrev AllLong : List (List ℕ) → Type 0
AllLong [] = Unit {0}
AllLong (p ∷ ps) = (length p ≡ packet_bytes) × AllLong ps

long_append : (ps qs : List (List ℕ)) → AllLong ps → AllLong qs → AllLong (ps ++ qs)
long_append [] qs a b = b
long_append (p ∷ ps) qs a b = (a.0, long_append ps qs a.1 b)

continued_each : (k c : ℕ) (bytes : List ℕ) → AllLong (continued k c bytes)
unfolding continued
continued_each zero c bytes = tt
continued_each (suc k) c bytes =
    (packet_long false c (take next_room bytes) (omega (arith, length-take next_room bytes)), continued_each k (next c) (drop next_room bytes))

pub all_each : (c : ℕ) (ss : List (List ℕ)) → AllLong (packed_all c ss)
unfolding packed_all packed
all_each c [] = tt
all_each c (s ∷ ss) =
    long_append (packed c s) _
    (packet_long true c (0 ∷ take first_room s) (omega (arith, length-take first_room s)), continued_each (length s / next_room) (next c) (drop first_room s))
    (all_each (after (length (packed c s)) c) ss)

stream_long : (ps : List (List ℕ)) → AllLong ps → length (laid ps) ≡ packet_bytes * length ps
unfolding laid
stream_long [] a = refl
stream_long (p ∷ ps) a = let b = stream_long ps a.1 in let d = a.0 in length-append p (laid ps) ∙ omega arith

in_packets : (ps : List (List ℕ)) → AllLong ps → packets_in (length ps) (laid ps) ≡ ps
unfolding packets_in laid
in_packets [] a = refl
in_packets (p ∷ ps) a =
    ap₂ ◌∷◌ (take_at p (laid ps) packet_bytes a.0)
    (ap (packets_in (length ps)) (drop_at p (laid ps) packet_bytes a.0) ∙ in_packets ps a.1)

pub stream_packets : (ps : List (List ℕ)) → AllLong ps → packets_of (laid ps) ≡ ps
stream_packets ps a =
    let b = stream_long ps a in
    let k : length (laid ps) / packet_bytes ≡ length ps = omega arith in
    ap (λ (n : ℕ). packets_in n (laid ps)) k ∙ in_packets ps a

-- ---- sections taken out

-- no bytes state no length
none : (n : ℕ) → stated_length [] ≡ Ok n → ⊥
unfolding stated_length
none n e = absurd (let z : ◌≡◌ {A = ℕ} 0 1 = cc in omega arith)

pub out_again : (ss got : List (List ℕ)) → AllGood ss → TakenOut (joined ss) got → got ≡ ss
unfolding joined
out_again [] [] g v = refl
out_again [] (t ∷ ts) g v = absurd (none v.0 v.1)
out_again (s ∷ ss) [] g v =
    let l = (accepted s g.0.0 g.0.1 g.0.2).framed.long in
    let e : length (s ++ joined ss) ≡ 0 = ap length v in
    absurd (omega (arith, length-append s (joined ss)))
out_again (s ∷ ss) (t ∷ ts) g v =
    let q = sym (good_states s (joined ss) g.0.0 g.0.1 g.0.2) ∙ v.1 in
    let n : length s ≡ v.0 = cc in
    ap₂ ◌∷◌ (v.2 ∙ take_at s (joined ss) v.0 n)
    (out_again ss ts g.1 (subst (λ (b : List ℕ). TakenOut b ts) (drop_at s (joined ss) v.0 n) v.3))

-- ---- together

pub by_calls : (sent got : List (List ℕ)) → ByteStrings sent → PacketCalls sent got → OverPackets sent got
by_calls sent got bytes v =
    let a = all_packed v.counter sent v.stream v.low v.packed in
    let ps = packed_all v.counter sent in
    let same : packets_of v.stream ≡ ps = ap packets_of a.1 ∙ stream_packets ps (all_each v.counter sent) in
    let given = served v.room v.counter sent v.state v.given v.enough v.low a.0 v.clean
    (subst (λ (x : List (List ℕ)). Served v.room v.state x v.given) same v.unpacked) in
    let e = out_again sent got a.0 (subst (λ (b : List ℕ). TakenOut b got) given v.taken_out) in
    let x = arrives v.room v.counter sent v.enough v.low a.0 in
    subst (OverPackets sent) (sym e)
    (record {
      good = a.0;
      bytes = bytes;
      counter = v.counter;
      low = v.low;
      room = v.room;
      enough = v.enough;
      after = x.0;
      unpacked = x.1;
    })
