-- What a reader has to believe of the unpacker's call: what each verdict makes of the answer, the output and the state's bytes.
use Rattle.std.specs.Prelude.{ℕ, ◌≤◌, true, List, ◌≡◌, ltb, length, take, drop, if◌then◌else◌, Result, Ok, Err}
use Rattle.ground_refusal.specs.declared.Refusal.{Refusal}
use Rattle.ground_placing.specs.Placed.{placed}
use Rattle.packet.specs.Judging.{judged}
use Rattle.packet.specs.declared.Judged.{Judged}
use Rattle.packet.specs.declared.Judged.TheVariants.{Damaged, Skipped, Carrying}
use Rattle.packet_frames.specs.Framing.{is_begun, unfinished_most, Read, joined}
use Rattle.packet_plan.specs.Reading.{read_on}
use Rattle.packet_memory.specs.Memory.{is_repeat, going_on}
use Rattle.packet_memory.specs.State.{unfinished_at, state_bytes, memory_of}
use Rattle.packet_memory.specs.Keeping.{marked, holding}
use Rattle.packet_reader.specs.Unpacking.{Verdict, refuses, gives, unpacking}

-- how many bytes of sections are written, or why nothing is taken
unfoldable pub answer_by : Verdict → Result ℕ Refusal
answer_by (refuses r) = Err r
answer_by (gives ss m) = Ok (length (joined ss))

-- the sections stand at the start of the output, one after the other, each as long as its section_length says
unfoldable pub output_by : Verdict → List ℕ → List ℕ
output_by (refuses r) out = out
output_by (gives ss m) out = placed out 0 (joined ss)

-- the verdict on a packet, for a state's bytes and an output
abbrev pub verdict_for : List ℕ → List ℕ → List ℕ → Verdict
verdict_for s p out = unpacking (length out) (memory_of s) p

-- what the caller is told, and the output as it is left
abbrev pub completed_of : List ℕ → List ℕ → List ℕ → Result ℕ Refusal
completed_of s p out = answer_by (verdict_for s p out)

abbrev pub sections_over : List ℕ → List ℕ → List ℕ → List ℕ
sections_over s p out = output_by (verdict_for s p out) out

-- ---- the state's bytes

-- a packet that is read
unfoldable pub state_read : List ℕ → ℕ → List ℕ → Read → List ℕ
state_read s room p r = if ltb room (length (joined r.sections)) then s else holding s r.unfinished p

-- one that is taken
unfoldable pub state_taken : List ℕ → ℕ → List ℕ → List ℕ
state_taken s room p =
    if is_repeat (memory_of s) p then marked 2 s else
    state_read s room p (read_on (going_on (memory_of s) p) p)

unfoldable pub state_on : Result Judged Refusal → List ℕ → ℕ → List ℕ → List ℕ
state_on (Err r) s room p = s
state_on (Ok Damaged) s room p = marked 0 s
state_on (Ok Skipped) s room p = s
state_on (Ok Carrying) s room p = state_taken s room p

-- any byte string
unfoldable pub state_after : List ℕ → List ℕ → List ℕ → List ℕ
state_after s p out = state_on (judged p) s (length out) p

-- "A refused packet changes nothing"; else the state's bytes mean what is then remembered
unfoldable pub StateBy : Verdict → List ℕ → List ℕ → Type 0
StateBy (refuses r) s left = left ≡ s
StateBy (gives ss m) s left = memory_of left ≡ m

-- ---- a call

-- all that a call promises, for a verdict and the state's bytes after it
pub record Unpacks (v : Verdict) (after out : List ℕ) (answer : Result ℕ Refusal) (left written : List ℕ) : Type 0 where
  pub told : answer ≡ answer_by v
  pub state : left ≡ after
  pub output : written ≡ output_by v out

-- the first `kept` bytes in the state are an unfinished section's, and the packet is taken
pub record Kept (s : List ℕ) (kept : ℕ) (p : List ℕ) : Type 0 where
  pub size : length s ≡ state_bytes
  pub most : kept ≤ unfinished_most
  pub begun : is_begun (take kept (drop unfinished_at s)) ≡ true
  pub carries : judged p ≡ Ok Carrying
