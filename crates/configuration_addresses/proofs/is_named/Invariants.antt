-- `is_named` meets its contract: the bytes from here on go on a name as all do.
use Prim.Native.Nat.{◌-◌}
use mathlib.Core.Path.{◌≡◌, ◌∙◌}
use lib.ListN.{take, drop}
use Rattle.configuration_addresses.specs.Address.{name_goes_on}
use Rattle.configuration_addresses.proofs.Hosts.{part}
use Rattle.configuration_addresses.proofs.is_named.Given as goal

abbrev pub invariant-loop-k : goal.invariant-loop-k
invariant-loop-k l = name_goes_on (take l.n (drop l.p l.s)) ≡ name_goes_on (part l.s l.k l.end)
