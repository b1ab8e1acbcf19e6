-- What a reader has to believe of the packer's call: what each verdict makes of the answer and the output.
use Rattle.std.specs.Prelude.{ℕ, ◌+◌, ◌*◌, ◌≤◌, List, length, Result, Ok, Err}
use Rattle.ground_refusal.specs.declared.Refusal.{Refusal}
use Rattle.ground_placing.specs.Placed.{placed}
use Rattle.packet.specs.Sizes.{packet_bytes, counter_most}
use Rattle.packet_writer.specs.Packing.{first_room, next_room, Verdict, refuses, writes, packing}

-- how many bytes of packets are written, or why none are
unfoldable pub packed_by : Verdict → Result ℕ Refusal
packed_by (refuses r) = Err r
packed_by (writes bytes) = Ok (length bytes)

-- the packets stand at the start of the output, and its bytes after them stay; a refusal "writes no byte"
unfoldable pub output_by : Verdict → List ℕ → List ℕ
output_by (refuses r) out = out
output_by (writes bytes) out = placed out 0 bytes

-- the packer's answer, and the output as it leaves it
abbrev pub packed_of : ℕ → List ℕ → List ℕ → Result ℕ Refusal
packed_of counter section out = packed_by (packing (length out) counter section)

abbrev pub packets_over : ℕ → List ℕ → List ℕ → List ℕ
packets_over counter section out = output_by (packing (length out) counter section) out

-- an output has room for k packets behind the first, and the section's bytes fill them
pub record Lays (out : List ℕ) (counter : ℕ) (section : List ℕ) (k : ℕ) : Type 0 where
  pub room : packet_bytes + packet_bytes * k ≤ length out
  pub least : next_room * k ≤ length section
  pub most : length section ≤ first_room + next_room * k
  pub low : counter ≤ counter_most
  pub few : k ≤ 22
