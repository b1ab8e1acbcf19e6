-- `index_reader::glancing::good_index` meets its contract: each turn finds one message, those to come make the whole, and the signature ends the body.
use Prim.Native.Nat.{◌-◌, ◌≤◌}
use lib.ListN.{get_or}
use Rattle.body_glance.proofs.Runs.{Coming}
use Rattle.index.specs.Index.{message}
use Rattle.index_reader.proofs.glancing.good_index.Given as goal

abbrev pub invariant-loop-i : goal.invariant-loop-i
invariant-loop-i l = Coming message l.s (get_or l.s 0 0) 1 (get_or l.s 0 0 - l.i) l.at × (l.at ≤ l.l)
