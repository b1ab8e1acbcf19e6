-- `configuration_reader::glancing::good_configuration` meets its contract: each turn finds one command, those to come make the list, and the signature ends the body.
use Prim.Native.Nat.{◌-◌, ◌≤◌}
use lib.ListN.{get_or}
use Rattle.body_glance.proofs.Runs.{Coming}
use Rattle.configuration.specs.Configuration.{command}
use Rattle.configuration_reader.proofs.glancing.good_configuration.Given as goal

abbrev pub invariant-loop-i : goal.invariant-loop-i
invariant-loop-i l = Coming command l.s (get_or l.s 0 0) 1 (get_or l.s 0 0 - l.i) l.at × (l.at ≤ l.l)
