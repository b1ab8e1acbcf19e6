-- `body_glance::good_resources` meets its contract: each turn finds one resource, and those to come make the whole.
use Prim.Native.Nat.{◌+◌, ◌-◌, ◌*◌}
use mathlib.Core.Path.{◌≡◌}
use Rattle.body_formats.specs.Resource.{resource}
use Rattle.body_glance.proofs.Runs.{Coming}
use Rattle.body_glance.proofs.good_resources.Given as goal

abbrev pub invariant-loop-i : goal.invariant-loop-i
invariant-loop-i l = Coming resource l.s l.n l.p (l.n - l.i) l.at × (l.at ≡ l.p + l.i * 12)
