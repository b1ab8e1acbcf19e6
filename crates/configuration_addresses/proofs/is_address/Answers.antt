-- `is_address` meets its contract: it goes by the kind as the definition does.
use borrow.Author.Tests.{eq-eqb, ne_eqb}
use Rattle.configuration_addresses.specs.Address.{is_address}
use borrow.Author.Rules.{rules}
use Rattle.configuration_addresses.proofs.is_address.Goals as goal

pub all_among-requires : goal.all_among-requires
unfolding is_address
all_among-requires c = search rules

pub returns-then-kind-eq1 : goal.returns-then-kind-eq1
unfolding is_address
returns-then-kind-eq1 c = rw (eq-eqb _ _ c.if-kind-eq1.true) c.all_among.ensures

pub returns-then-kind-eq2 : goal.returns-then-kind-eq2
unfolding is_address
returns-then-kind-eq2 c = rw (ne_eqb _ _ c.if-kind-eq1.false, eq-eqb _ _ c.if-kind-eq2.true)

pub is_host_and_port-requires : goal.is_host_and_port-requires
unfolding is_address
is_host_and_port-requires c = search rules

pub returns : goal.returns
unfolding is_address
returns c = rw (ne_eqb _ _ c.if-kind-eq1.false, ne_eqb _ _ c.if-kind-eq2.false) c.is_host_and_port.ensures
