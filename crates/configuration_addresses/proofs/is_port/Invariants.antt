-- `is_port` meets its contract: the bytes from here on, after those already worth so much, are as they must be where all are.
use Prim.Native.Nat.{◌+◌, ◌≤◌}
use mathlib.Core.Path.{◌≡◌}
use lib.ListN.{take, drop}
use Rattle.configuration_addresses.specs.Address.{is_port}
use Rattle.configuration_addresses.proofs.Hosts.{part, port_left}
use Rattle.configuration_addresses.proofs.is_port.Given as goal

abbrev pub invariant-loop-k : goal.invariant-loop-k
invariant-loop-k l = (is_port (take l.n (drop l.p l.s)) ≡ port_left l.worth (part l.s l.k (l.p + l.n))) × (l.worth ≤ 65535)
