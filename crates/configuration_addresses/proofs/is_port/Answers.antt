-- `is_port` meets its contract: the bytes from here on, after those already worth so much, are as they must be where all are.
use Prim.Native.Nat.{◌-◌, ◌≤◌}
use mathlib.Core.Path.{◌≡◌, refl}
use Rattle.configuration_addresses.proofs.Hosts.{port_empty, port_long, port_start, port_done, port_low, port_high, port_next, port_much}
use native.Mathlib.Omega.{arith}
use Rattle.configuration_addresses.proofs.is_port.Goals as goal

pub returns-then-n-lt1 : goal.returns-then-n-lt1
returns-then-n-lt1 c = let a = c.args in port_empty a.s.now a.p a.n (omega arith) c.if-n-lt1.true

pub returns-then-n-gt5 : goal.returns-then-n-gt5
returns-then-n-gt5 c = let a = c.args in port_long a.s.now a.p a.n (omega arith) c.if-n-gt5.true

pub loop-k-init : goal.loop-k-init
loop-k-init c = let a = c.args in (port_start a.s.now a.p a.n (omega arith) _ refl (omega arith) (omega arith), omega arith)

pub returns-then-c-lt48 : goal.returns-then-c-lt48
returns-then-c-lt48 c = let v = c.loop-k in port_low _ v.k _ v.worth _ v.invariant.0 (omega arith) (omega arith) c.if-c-lt48.true

pub returns-then-c-gt57 : goal.returns-then-c-gt57
returns-then-c-gt57 c = let v = c.loop-k in
    port_high _ v.k _ v.worth _ v.invariant.0 (omega arith) (omega arith) (omega arith) c.if-c-gt57.true

pub returns-then-worth-gt65535 : goal.returns-then-worth-gt65535
returns-then-worth-gt65535 c = let v = c.loop-k in
    port_much _ v.k _ v.worth _ v.invariant.0 (omega arith) (omega arith) (omega arith) (omega arith) c.if-worth-gt65535.true

pub loop-k-preserved : goal.loop-k-preserved
loop-k-preserved c = let v = c.loop-k in
    (port_next _ v.k _ v.worth _ v.invariant.0 (omega arith) (omega arith) (omega arith) (omega arith), omega arith)

pub returns : goal.returns
returns c = let v = c.loop-k in port_done _ v.k _ v.worth _ v.invariant.0 (omega arith) (omega arith)
