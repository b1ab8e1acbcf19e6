-- What a reader has to believe of the unpacker: what each packet gives, and what is remembered after it.
use Rattle.std.specs.Prelude.{ℕ, List, [], ◌∷◌, ◌++◌, ltb, length, if◌then◌else◌, Result, Ok, Err}
use Rattle.ground_refusal.specs.declared.Refusal.{Refusal}
use Rattle.ground_refusal.specs.declared.Refusal.TheVariants.{OutputTooSmall}
use Rattle.packet.specs.Judging.{judged}
use Rattle.packet.specs.declared.Judged.{Judged}
use Rattle.packet.specs.declared.Judged.TheVariants.{Damaged, Skipped, Carrying}
use Rattle.packet_frames.specs.Framing.{Read, joined}
use Rattle.packet_plan.specs.Reading.{read_on}
use Rattle.packet_memory.specs.Memory.{Memory, fresh, held_after, repeated_once, is_repeat, going_on}

-- "A refused packet changes nothing"; else the sections that it completes, and what is remembered after it
pub data Verdict : Type 0 where
  refuses : Refusal → Verdict
  gives : List (List ℕ) → Memory → Verdict

-- "then 21": the sections, together, must fit an output of `room` bytes
unfoldable pub fitting : ℕ → List ℕ → Read → Verdict
fitting room p r =
    if ltb room (length (joined r.sections)) then refuses OutputTooSmall else
    gives r.sections (held_after r.unfinished p)

-- a packet with a payload, whose counter counts
unfoldable pub carrying : ℕ → Memory → List ℕ → Verdict
carrying room m p =
    if is_repeat m p then gives [] (repeated_once m) else
    fitting room p (read_on (going_on m p) p)

-- "an error bit [..] drops the unfinished section", "the next counter is free"; "Adaptation-only packets are skipped, their counter unread"
unfoldable pub verdict_on : Result Judged Refusal → ℕ → Memory → List ℕ → Verdict
verdict_on (Err r) room m p = refuses r
verdict_on (Ok Damaged) room m p = gives [] fresh
verdict_on (Ok Skipped) room m p = gives [] m
verdict_on (Ok Carrying) room m p = carrying room m p

-- any byte string, for an output of `room` bytes
unfoldable pub unpacking : ℕ → Memory → List ℕ → Verdict
unpacking room m p = verdict_on (judged p) room m p

-- ---- packet by packet

unfoldable pub more : List (List ℕ) → Verdict → Verdict
more ss (refuses r) = refuses r
more ss (gives ts m) = gives (ss ++ ts) m

unfoldable pub and_then : Verdict → (Memory → Verdict) → Verdict
and_then (refuses r) f = refuses r
and_then (gives ss m) f = more ss (f m)

-- all the packets, none refused: the sections that they complete, in order
unfoldable pub unpacking_all : ℕ → Memory → List (List ℕ) → Verdict
unpacking_all room m [] = gives [] m
unpacking_all room m (p ∷ ps) = and_then (unpacking room m p) (λ m'. unpacking_all room m' ps)
