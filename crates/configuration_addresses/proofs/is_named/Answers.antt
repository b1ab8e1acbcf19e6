-- `is_named` meets its contract: the bytes from here on go on a name as all do.
use Prim.Native.Nat.{◌-◌}
use mathlib.Core.Path.{◌≡◌, refl, ap, ◌∙◌}
use Rattle.ground_choices.proofs.Tests.{unmet, met}
use Rattle.configuration_addresses.specs.Address.{name_goes_on}
use Rattle.configuration_addresses.proofs.Hosts.{whole_part, name_done, name_ends, name_fails, name_next}
use native.Mathlib.Omega.{arith}
use Rattle.configuration_addresses.proofs.is_named.Goals as goal

pub loop-k-init : goal.loop-k-init
loop-k-init c = let a = c.args in ap name_goes_on (whole_part a.s.now a.p a.n _ refl)

pub returns-then-c-eq58 : goal.returns-then-c-eq58
returns-then-c-eq58 c = let v = c.loop-k in
    c.is_port.ensures ∙ name_ends _ v.k _ _ v.invariant (omega arith) (omega arith) c.if-c-eq58.true

pub returns-then-not-in_name : goal.returns-then-not-in_name
returns-then-not-in_name c = let v = c.loop-k in
    name_fails _ v.k _ _ v.invariant (omega arith) (omega arith) c.if-c-eq58.false (unmet _ c.in_name.ensures c.if-not-in_name.true-raw)

pub loop-k-preserved : goal.loop-k-preserved
loop-k-preserved c = let v = c.loop-k in
    name_next _ v.k _ _ v.invariant (omega arith) (omega arith) c.if-c-eq58.false (met _ c.in_name.ensures c.if-not-in_name.false-raw)

pub returns : goal.returns
returns c = let v = c.loop-k in name_done _ v.k _ _ v.invariant (omega arith)
