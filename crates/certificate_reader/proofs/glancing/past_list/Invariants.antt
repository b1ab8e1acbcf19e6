-- `certificate_reader::glancing::past_list` meets its contract: each turn finds one part, and those to come make the list.
use Prim.Native.Nat.{◌+◌, ◌-◌, ◌≤◌}
use lib.ListN.{get_or}
use Rattle.body_formats.specs.Format.{opaque}
use Rattle.body_glance.proofs.Runs.{Coming}
use Rattle.certificate_reader.proofs.glancing.past_list.Given as goal

abbrev pub invariant-loop-i : goal.invariant-loop-i
invariant-loop-i l = Coming (opaque l.w) l.s (get_or l.s l.p 0) (l.p + 1) (get_or l.s l.p 0 - l.i) l.at × (l.at ≤ l.l)
