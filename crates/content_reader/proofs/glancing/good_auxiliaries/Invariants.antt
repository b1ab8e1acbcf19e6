-- `content_reader::glancing::good_auxiliaries` meets its contract: the count, each turn finds one auxiliary file, and those to come make the whole.
use Prim.Native.Nat.{◌+◌, ◌-◌, ◌≤◌}
use lib.ListN.{get_or}
use Rattle.body_glance.proofs.Runs.{Coming}
use Rattle.content.specs.Content.{auxiliary}
use Rattle.content_reader.proofs.glancing.good_auxiliaries.Given as goal

abbrev pub invariant-loop-i : goal.invariant-loop-i
invariant-loop-i l = (l.at ≤ l.l) × Coming (auxiliary l.w) l.s (get_or l.s l.p 0 - 240) (l.p + 1) (get_or l.s l.p 0 - 240 - l.i) l.at
