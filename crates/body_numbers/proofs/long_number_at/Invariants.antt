-- `body_numbers::long_number_at` meets its contract: after k turns v is the number of the first k bytes, and fits them.
use Prim.Native.Nat.{◌-◌, ◌^◌, ◌≤◌, ◌<◌}
use mathlib.Core.Path.{◌≡◌, ◌∙◌}
use Rattle.body_formats.specs.Format.{number_at}
use Rattle.body_numbers.proofs.long_number_at.Given as goal

abbrev pub invariant-loop-b : goal.invariant-loop-b
invariant-loop-b l = (l.v ≡ number_at l.s l.p l.b-index) × (l.v < 256 ^ l.b-index)
