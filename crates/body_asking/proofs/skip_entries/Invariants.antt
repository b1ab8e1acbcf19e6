-- `body_asking::skip_entries` meets its contract: what is left of n entries from here ends where all n do.
use Prim.Native.Nat.{◌-◌}
use mathlib.Core.Path.{◌≡◌, ◌∙◌}
use Rattle.body_formats.specs.Answers.{ended_all}
use Rattle.body_asking.specs.Asking.{headed_part}
use Rattle.body_asking.proofs.skip_entries.Given as goal

abbrev pub invariant-loop : goal.invariant-loop
invariant-loop l = ended_all (headed_part l.h l.w) l.n l.s l.l l.p ≡ ended_all (headed_part l.h l.w) (l.n - l.counter) l.s l.l l.at
