-- What a reader has to believe of the promise that nothing is mixed: what was heard without a break, and what stands framed in it.
use Rattle.std.specs.Prelude.{ℕ, ◌+◌, ◌≤◌, Bool, true, ◌||◌, List, [], ◌∷◌, ◌++◌, ◌⊎◌, ◌≡◌, eqb, length, take, drop, if◌then◌else◌}
use Rattle.packet.specs.Fields.{has_error, starts, control, payload_at}
use Rattle.packet_frames.specs.Framing.{framed, is_whole}
use Rattle.packet_plan.specs.Reading.{ahead}
use Rattle.packet_memory.specs.Memory.{Memory, is_repeat, follows}
use Rattle.packet_reader.specs.Unpacking.{Verdict, refuses, gives, unpacking}

-- ---- what was heard

-- the bytes carried since the last counter gap or error bit, and the places among them that pointers pointed at
pub record Heard : Type 0 where
  pub bytes : List ℕ
  pub pointers : List ℕ

unfoldable pub silence : Heard
silence = record { bytes = []; pointers = [] }

-- a packet's payload without its pointer field
unfoldable pub carried : List ℕ → List ℕ
carried p = if starts p then drop (payload_at p + 1) p else drop (payload_at p) p

-- the bytes of it that an unfinished section goes on with
unfoldable pub onward : List ℕ → List ℕ
onward p = if starts p then ahead p else drop (payload_at p) p

-- what was heard, and the packet p after it
unfoldable pub hearing : Heard → List ℕ → Heard
hearing h p =
    record {
      bytes = h.bytes ++ carried p;
      pointers = if starts p then (length h.bytes + length (ahead p)) ∷ h.pointers else h.pointers;
    }

-- after a verdict on the packet p: a refused, a skipped and a repeated packet add nothing
unfoldable pub heard_by : Verdict → Memory → Heard → List ℕ → Heard
heard_by (refuses r) m h p = h
heard_by (gives ss n) m h p =
    if has_error p then silence else
    if eqb (control p) 2 || is_repeat m p then h else
    hearing (if follows m.last p then h else silence) p

-- ---- what stands in it

abbrev pub Among : ℕ → List ℕ → Type 0
Among k [] = ⊥
Among k (j ∷ js) = (k ≡ j) ⊎ Among k js

-- a section begins at k: a pointer points there, or another section ends there
pub data Begins (h : Heard) : ℕ → Type 0 where
  pointed : {k : ℕ} → Among k h.pointers → Begins h k
  behind : {k : ℕ} → Begins h k → is_whole (drop k h.bytes) ≡ true → Begins h (k + framed (drop k h.bytes))

-- no pointer points at a byte between a and b
abbrev pub NoneInside : ℕ → ℕ → List ℕ → Type 0
NoneInside a b [] = Unit {0}
NoneInside a b (j ∷ js) = ((j ≤ a) ⊎ (b ≤ j)) × NoneInside a b js

-- s stands framed whole: it begins where a section may, is as long as its own section_length says, and no pointer points inside it
pub record FramedIn (h : Heard) (s : List ℕ) : Type 0 where
  pub at : ℕ
  pub begins : Begins h at
  pub whole : is_whole (drop at h.bytes) ≡ true
  pub is : s ≡ take (framed (drop at h.bytes)) (drop at h.bytes)
  pub one : NoneInside at (at + framed (drop at h.bytes)) h.pointers

abbrev pub AllFramedIn : Heard → List (List ℕ) → Type 0
AllFramedIn h [] = Unit {0}
AllFramedIn h (s ∷ ss) = FramedIn h s × AllFramedIn h ss

-- ---- a run

-- what is remembered after the verdict, and what it gives
unfoldable pub memory_by : Verdict → Memory → Memory
memory_by (refuses r) m = m
memory_by (gives ss n) m = n

unfoldable pub given_by : Verdict → List (List ℕ)
given_by (refuses r) = []
given_by (gives ss n) = ss

-- each section that a run of packets gives stands framed whole in what was heard without a break up to its last packet
abbrev pub Unmixed : ℕ → Memory → Heard → List (List ℕ) → Type 0
Unmixed room m h [] = Unit {0}
Unmixed room m h (p ∷ ps) =
    AllFramedIn (heard_by (unpacking room m p) m h p) (given_by (unpacking room m p))
    × Unmixed room (memory_by (unpacking room m p) m) (heard_by (unpacking room m p) m h p) ps
