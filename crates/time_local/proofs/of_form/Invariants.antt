-- `time_local::of_form` meets its contract: at each turn, the text is formed exactly if what is left of it is.
use mathlib.Core.Path.{◌≡◌}
use Prim.Native.Nat.{◌≤◌}
use lib.ListN.{length, drop}
use Rattle.time_local.specs.Text.{formed}
use Rattle.time_local.proofs.of_form.Given as goal

abbrev pub invariant-loop-i : goal.invariant-loop-i
invariant-loop-i l = (l.i ≤ length l.form) × (length l.form ≡ length l.text) × (formed l.form l.text ≡ formed (drop l.i l.form) (drop l.i l.text))
