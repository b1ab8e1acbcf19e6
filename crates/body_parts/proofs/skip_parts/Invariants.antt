-- `body_parts::skip_parts` meets its contract: what is left of n parts from here ends where all n do.
use Prim.Native.Nat.{◌-◌}
use mathlib.Core.Path.{◌≡◌, ◌∙◌}
use Rattle.body_formats.specs.Format.{opaque}
use Rattle.body_formats.specs.Answers.{ended_all}
use Rattle.body_parts.proofs.skip_parts.Given as goal

abbrev pub invariant-loop : goal.invariant-loop
invariant-loop l = ended_all (opaque l.w) l.n l.s l.l l.p ≡ ended_all (opaque l.w) (l.n - l.counter) l.s l.l l.at
