-- `screen_code::pack` meets its contract. The loop's invariant: the bytes before the i-th are the code's.
use mathlib.Core.Path.{◌≡◌}
use lib.ListN.{length, take}
use Rattle.body_formats.specs.Resource.{resource}
use Rattle.screen_code.proofs.pack.Given as goal

abbrev pub invariant-loop-i : goal.invariant-loop-i
invariant-loop-i l = (length l.own ≡ 12) × (take l.i l.own ≡ take l.i (resource.print l.code))
