-- The calls can be made: whatever good sections are sent, the packer writes them, the unpacker gives them, and they are taken out again.
use Prim.Native.Nat.{ℕ, ◌+◌, ◌/◌, ◌%◌, ◌≤◌}
use Rattle.ground_refusal.specs.declared.Refusal.{Refusal}
use mathlib.Core.Bool.{Bool, true, false}
use mathlib.Core.List.{List, [], ◌∷◌, ◌++◌}
use mathlib.Core.Path.{◌≡◌, refl, sym, ap, ◌∙◌, subst}
use native.Mathlib.Omega.{arith}
use lib.Dec.{ltb}
use lib.ListN.{length, take, set, replicate, length-append, length-replicate, length-set}
use lib.Seq.{take_at, drop_at}
use Rattle.std.specs.Prelude.{if◌then◌else◌, Result, Ok, Err}
use Rattle.ground_placing.proofs.Placing.{placed_length}
use Rattle.section_reader.proofs.Accepting.{good_states}
use Rattle.packet.specs.Sizes.{packet_bytes, counter_most}
use Rattle.packet.specs.Judging.{judged}
use Rattle.packet.specs.declared.Judged.{Judged}
use Rattle.packet.specs.declared.Judged.TheVariants.{Damaged, Skipped, Carrying}
use Rattle.packet.proofs.Judging.{carried}
use Rattle.packet_frames.specs.Framing.{joined}
use Rattle.packet_frames.proofs.Growing.{begun_short}
use Rattle.packet_plan.specs.Reading.{read_on}
use Rattle.packet_plan.proofs.Reading.{left_begun}
use Rattle.packet_memory.specs.Memory.{Memory, is_repeat, going_on}
use Rattle.packet_memory.specs.State.{state_bytes, memory_of}
use Rattle.packet_memory.specs.Keeping.{marked, holding}
use Rattle.packet_memory.proofs.States.{memory_begun, going_begun}
use Rattle.packet_reader.specs.Unpacking.{Verdict, refuses, gives, unpacking, more, and_then, unpacking_all}
use Rattle.packet_reader.specs.Answers.{answer_by, output_by, state_read, state_taken, state_on, verdict_for, state_after, StateBy}
use Rattle.packet_reader.proofs.States.{state_means}
use Rattle.packet_writer.specs.Packing.{packed, packed_all, laid, writes, packing}
use Rattle.packet_writer.specs.Answers.{packed_by, packets_over}
use Rattle.packet_writer.proofs.Calls.{packs, packing_good}
use Rattle.packet_writer.proofs.Packets.{packed_long}
use Rattle.packet_arrival.specs.Packed.{AllGood}
use Rattle.packet_arrival.specs.Served.{Served}
use Rattle.packet_arrival.proofs.Arrival.{arrives}
use Rattle.packet_arrival.proofs.Served.{served, zeros_fresh}
use Rattle.promises_road.specs.Calls.{PackedByCalls, packets_of, TakenOut, PacketCalls}
use Rattle.promises_road.proofs.Calls.{all_packed, all_each, stream_packets}

-- ---- the packer

can_pack : (c : ℕ) (ss : List (List ℕ)) → c ≤ counter_most → AllGood ss → (stream : List ℕ) × PackedByCalls c ss stream
unfolding packed_by
can_pack c [] l g = ([], refl)
can_pack c (s ∷ ss) l g =
    let out = laid (packed c s) in
    let w : packing (length out) c s ≡ writes out =
    packing_good (length out) c s g.0.0 g.0.1 g.0.2 l ∙ packs out s c (length out) (packed_long c s) (omega arith) in
    let rest = can_pack ((c + length out / packet_bytes) % 16) ss (omega arith) g.1 in
    (take (length out) (packets_over c s out) ++ rest.0, (out, length out, rest.0, ap packed_by w, refl, rest.1))

-- ---- the unpacker's state stays as long as it is

module _ (s p : List ℕ) (room : ℕ) (n : length s ≡ state_bytes) where
  held_long : judged p ≡ (Ok Carrying) → length (holding s (read_on (going_on (memory_of s) p) p).unfinished p) ≡ state_bytes
  unfolding holding
  held_long c =
      let u = (read_on (going_on (memory_of s) p) p).unfinished in
      let short = begun_short u (left_begun (going_on (memory_of s) p) p (going_begun (memory_of s) p (memory_begun s))) in
      let size = (carried p c).size in
      placed_length s 0 (1 ∷ length u / 256 % 256 ∷ length u % 256 ∷ (p ++ u)) (omega (arith, length-append p u)) ∙ n

  taken_long : judged p ≡ (Ok Carrying) → length (state_taken s room p) ≡ state_bytes
  unfolding state_taken state_read marked
  taken_long c = go (is_repeat (memory_of s) p) (ltb room (length (joined (read_on (going_on (memory_of s) p) p).sections)))
    where
      go : (b d : Bool) → length (if b then set s 0 2 else if d then s else holding s (read_on (going_on (memory_of s) p) p).unfinished p) ≡ state_bytes
      go true d = length-set s 0 2 ∙ n
      go false true = n
      go false false = held_long c

  long_on : (j : Result Judged Refusal) → judged p ≡ j → length (state_on j s room p) ≡ state_bytes
  unfolding state_on marked
  long_on (Err why) e = n
  long_on (Ok Damaged) e = length-set s 0 0 ∙ n
  long_on (Ok Skipped) e = n
  long_on (Ok Carrying) e = taken_long e

state_long : (s p out : List ℕ) → length s ≡ state_bytes → length (state_after s p out) ≡ state_bytes
unfolding state_after
state_long s p out n = long_on s p (length out) n (judged p) refl

-- ---- the unpacker

rest : (ss ts : List (List ℕ)) (m : Memory) (w : Verdict) → more ts w ≡ gives ss m → (us : List (List ℕ)) × (w ≡ gives us m)
unfolding more
rest ss ts m (refuses r) e = absurd (let z : ◌≡◌ {A = ℕ} 0 1 = cc in omega arith)
rest ss ts m (gives us k) e = (us, ap (gives us) (let t : k ≡ m = cc in t))

module _ (room : ℕ) where
  can_serve : (ps : List (List ℕ)) (s : List ℕ) (ss : List (List ℕ)) (m : Memory) → length s ≡ state_bytes
      → unpacking_all room (memory_of s) ps ≡ gives ss m → (got : List ℕ) × Served room s ps got
  unfolding unpacking_all and_then answer_by StateBy
  can_serve [] s ss m n e = ([], refl)
  can_serve (p ∷ ps) s ss m n e = go (unpacking room (memory_of s) p) refl e (λ left ts l f. can_serve ps left ts m l f)
    where
      size : length (replicate {A = ℕ} room 0) ≡ room
      size = length-replicate {A = ℕ} room 0

      go : (w : Verdict) → unpacking room (memory_of s) p ≡ w → and_then w (λ k. unpacking_all room k ps) ≡ gives ss m
          → ((left : List ℕ) (ts : List (List ℕ)) → length left ≡ state_bytes → unpacking_all room (memory_of left) ps ≡ gives ts m
          → (got : List ℕ) × Served room left ps got)
          → (got : List ℕ) × Served room s (p ∷ ps) got
      go (refuses r) q e next = absurd (let z : ◌≡◌ {A = ℕ} 0 1 = cc in omega arith)
      go (gives ts k) q e next =
          let out : List ℕ = replicate room 0 in
          let v : verdict_for s p out ≡ gives ts k = ap (λ (x : ℕ). unpacking x (memory_of s) p) size ∙ q in
          let left = state_after s p out in
          let means : memory_of left ≡ k = subst (λ (w : Verdict). StateBy w s left) v (state_means s p out n) in
          let t = rest ss ts m (unpacking_all room k ps) e in
          let later = next left t.0 (state_long s p out n) (ap (λ (x : Memory). unpacking_all room x ps) means ∙ t.1) in
          let written = output_by (verdict_for s p out) out in (
            take (length (joined ts)) written ++ later.0,
            (
              length (joined ts),
              left,
              written,
              later.0,
              record { out = out; size = size; state = n; kept = record { told = ap answer_by (sym v); state = refl; output = refl } },
              later.1,
              refl,
            ),
          )

-- ---- sections taken out

can_take : (ss : List (List ℕ)) → AllGood ss → TakenOut (joined ss) ss
unfolding joined
can_take [] g = refl
can_take (s ∷ ss) g = (
  length s,
  good_states s (joined ss) g.0.0 g.0.1 g.0.2,
  sym (take_at s (joined ss) (length s) refl),
  subst (λ (b : List ℕ). TakenOut b ss) (sym (drop_at s (joined ss) (length s) refl)) (can_take ss g.1),
)

-- ---- together

pub can_call : (sent : List (List ℕ)) → AllGood sent → PacketCalls sent sent
can_call sent good =
    let p = can_pack 0 sent (omega arith) good in
    let a = all_packed 0 sent p.0 (omega arith) p.1 in
    let ps = packed_all 0 sent in
    let same : packets_of p.0 ≡ ps = ap packets_of a.1 ∙ stream_packets ps (all_each 0 sent) in
    let x = arrives 4096 0 sent (omega arith) (omega arith) good in
    let zeros : List ℕ = replicate state_bytes 0 in
    let u = can_serve 4096 ps zeros sent x.0 (length-replicate {A = ℕ} state_bytes 0) (ap (λ (m : Memory). unpacking_all 4096 m ps) zeros_fresh ∙ x.1) in
    let given = served 4096 0 sent zeros u.0 (omega arith) (omega arith) good zeros_fresh u.1 in
    record {
      counter = 0;
      low = omega arith;
      stream = p.0;
      packed = p.1;
      room = 4096;
      enough = omega arith;
      state = zeros;
      clean = zeros_fresh;
      given = u.0;
      unpacked = subst (λ (qs : List (List ℕ)). Served 4096 zeros qs u.0) (sym same) u.1;
      taken_out = subst (λ (b : List ℕ). TakenOut b sent) (sym given) (can_take sent good);
    }
