-- M-106's promise, sentence by sentence: what is packed arrives, what is lost is dropped and nothing else, and nothing is mixed.
use Rattle.std.specs.Prelude.{ℕ, ◌+◌, ◌*◌, ◌/◌, ◌≤◌, true, false, List, [], ◌∷◌, ◌++◌, ◌≡◌, length, drop, replicate, Ok}
use Rattle.packet.specs.Fields.{starts, pointed_at}
use Rattle.packet.specs.Judging.{judged}
use Rattle.packet.specs.declared.Judged.TheVariants.{Damaged, Carrying}
use Rattle.packet_frames.specs.Framing.{is_whole, is_begun, too_long, joined, begun}
use Rattle.packet_plan.specs.Reading.{ahead, read_on}
use Rattle.packet_memory.specs.Memory.{Memory, fresh, is_repeat, follows}
use Rattle.packet_memory.specs.State.{state_bytes, memory_of}
use Rattle.packet_reader.specs.Unpacking.{gives, fitting, unpacking, unpacking_all}
use Rattle.packet_reader.specs.Answers.{verdict_for, state_after, StateBy}
use Rattle.packet_writer.specs.Packing.{packed_all}
use Rattle.packet_writer.specs.Answers.{packed_of}
use Rattle.packet_arrival.specs.Packed.{AllGood, first_packet}
use Rattle.packet_arrival.specs.Served.{Served}
use Rattle.packet_arrival.specs.Unmixed.{onward, silence, Unmixed}

pub record Packets : Type 0 where
  -- "From a fresh unpacker, packing good sections, each from the counter after the last packet's, and unpacking gives them in order"
  pub arrives : (room c : ℕ) (ss : List (List ℕ)) → 4096 ≤ room → c ≤ 15 → AllGood ss
      → (m : Memory) × (unpacking_all room fresh (packed_all c ss) ≡ gives ss m)
  -- so it is through the calls, from any state's bytes that mean a fresh unpacker, as all zeros do
  pub served : (room c : ℕ) (ss : List (List ℕ)) (s got : List ℕ) → 4096 ≤ room → c ≤ 15 → AllGood ss → memory_of s ≡ fresh
      → Served room s (packed_all c ss) got → got ≡ joined ss
  pub zeros_fresh : memory_of (replicate state_bytes 0) ≡ fresh
  -- whatever was before, what is packed from then on arrives, unless its first packet is the repeat of the very same one
  pub resumes : (room c : ℕ) (m : Memory) (s : List ℕ) (ss : List (List ℕ)) → 4096 ≤ room → c ≤ 15 → AllGood (s ∷ ss)
      → is_begun m.unfinished ≡ true → is_repeat m (first_packet c s) ≡ false
      → (n : Memory) × (unpacking_all room m (packed_all c (s ∷ ss)) ≡ gives (s ∷ ss) n)
  -- the four drops: the packet is read as if nothing had been unfinished, "reading goes on at the next pointer, a gap packet's own included"
  pub gap_drops : (room : ℕ) (m : Memory) (p : List ℕ) → judged p ≡ (Ok Carrying) → is_repeat m p ≡ false → follows m.last p ≡ false
      → unpacking room m p ≡ fitting room p (read_on [] p)
  pub error_drops : (room : ℕ) (m : Memory) (p : List ℕ) → judged p ≡ (Ok Damaged) → unpacking room m p ≡ gives [] fresh
  pub length_drops : (u p : List ℕ) → too_long (u ++ onward p) ≡ true → read_on u p ≡ read_on [] p
  pub pointer_drops : (u p : List ℕ) → starts p ≡ true → is_whole (u ++ ahead p) ≡ false → read_on u p ≡ read_on [] p
  pub own_pointer : (p : List ℕ) → starts p ≡ true → read_on [] p ≡ begun (drop (pointed_at p) p)
  -- whatever packets come, each section given stands framed whole in what was heard since the last gap or error bit
  pub unmixed : (room : ℕ) (ps : List (List ℕ)) → Unmixed room fresh silence ps
  -- "A refused packet changes nothing"; else the state's bytes mean what is then remembered
  pub state_means : (s p out : List ℕ) → length s ≡ state_bytes → StateBy (verdict_for s p out) s (state_after s p out)
  -- what the header's sizes name: the bytes of a section's packets, the most of them; the most sections that a packet completes, and their bytes
  pub packed_bytes : (counter : ℕ) (section out : List ℕ) (n : ℕ) → packed_of counter section out ≡ Ok n
      → (n ≡ 188 * (1 + length section / 184)) × (n ≤ 4324)
  pub completed_most : (room : ℕ) (s p : List ℕ) (ss : List (List ℕ)) (m : Memory) → unpacking room (memory_of s) p ≡ gives ss m
      → (length ss ≤ 61) × (length (joined ss) ≤ 4278)
