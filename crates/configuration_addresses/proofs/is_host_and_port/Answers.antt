-- `is_host_and_port` meets its contract: the first byte is one of a name, and the others go on it.
use mathlib.Core.Path.{◌∙◌}
use Rattle.ground_choices.proofs.Tests.{unmet, met}
use Rattle.configuration_addresses.proofs.Hosts.{host_empty, host_fails, host_named}
use native.Mathlib.Omega.{arith}
use Rattle.configuration_addresses.proofs.is_host_and_port.Goals as goal

pub returns-then-n-lt1 : goal.returns-then-n-lt1
returns-then-n-lt1 c = let a = c.args in host_empty a.s.now a.p a.n (omega arith) c.if-n-lt1.true

pub returns-then-not-in_name : goal.returns-then-not-in_name
returns-then-not-in_name c = let a = c.args in
    host_fails a.s.now a.p a.n (omega arith) (omega arith) (unmet _ c.in_name.ensures c.if-not-in_name.true-raw)

pub returns : goal.returns
returns c = let a = c.args in
    c.is_named.ensures ∙ host_named a.s.now a.p a.n (omega arith) (omega arith) (met _ c.in_name.ensures c.if-not-in_name.false-raw)
