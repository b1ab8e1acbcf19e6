-- What stands in the buffer so far is what was read.
use Rattle.std.proofs.Common.{◌≡◌, ◌≤◌, ◌-◌, length, take}
use Rattle.std.specs.Io.KnownBytes.{Consumes}
use Rattle.program_reading.proofs.read_full.Given as goal

abbrev pub invariant-loop-length : goal.invariant-loop-length
invariant-loop-length g l = (length l.into ≡ length l.initial.into) × (l.length ≤ length l.into)
    × Consumes (g.R.Read.remaining l.initial.from) (g.R.Read.remaining l.from) (take l.length l.into)

abbrev pub decreases-loop-length : goal.decreases-loop-length
decreases-loop-length g l = length l.into - l.length
