-- What a reader has to believe of what the unpacker remembers: repeats, gaps, and what a packet goes on from.
use Rattle.std.specs.Prelude.{ℕ, ◌+◌, ◌%◌, Bool, true, false, not, ◌&&◌, List, [], ◌∷◌, eqb, if◌then◌else◌}
use Rattle.ground_equal.specs.Same.{same_bytes}
use Rattle.packet.specs.Fields.{counter}

pub record Memory : Type 0 where
  -- the bytes so far of a section that is not whole yet; none: []
  pub unfinished : List ℕ
  -- the last packet taken; none, and the next counter is free: []
  pub last : List ℕ
  -- its one repeat has been ignored
  pub repeated : Bool

-- a fresh unpacker; an error bit leaves the same
unfoldable pub fresh : Memory
fresh = record { unfinished = []; last = []; repeated = false }

-- after a packet p that leaves the bytes u unfinished
unfoldable pub held_after : List ℕ → List ℕ → Memory
held_after u p = record { unfinished = u; last = p; repeated = false }

-- after the last packet's one repeat
unfoldable pub repeated_once : Memory → Memory
repeated_once m = record { unfinished = m.unfinished; last = m.last; repeated = true }

-- "One identical repeat of a packet is ignored"
unfoldable pub is_repeat : Memory → List ℕ → Bool
is_repeat m p = not m.repeated && same_bytes m.last p

-- is the packet's counter the next after the last packet's? Every one is, where there is no last packet.
unfoldable pub follows : List ℕ → List ℕ → Bool
follows [] p = true
follows (b ∷ bs) p = eqb (counter p) ((counter (b ∷ bs) + 1) % 16)

-- "A counter gap [..] drops the unfinished section", and "the same counter otherwise is a gap"
unfoldable pub going_on : Memory → List ℕ → List ℕ
going_on m p = if follows m.last p then m.unfinished else []
