-- `length_fits` meets its contract: it compares the kind, and then the length, as the definition does.
use borrow.Author.Tests.{eq-eqb, ne_eqb}
use Rattle.configuration_addresses.specs.Address.{length_fits}
use Rattle.configuration_addresses.proofs.length_fits.Goals as goal

pub returns-then-kind-eq1 : goal.returns-then-kind-eq1
unfolding length_fits
returns-then-kind-eq1 c = rw (eq-eqb _ _ c.if-kind-eq1.true)

pub returns-then-kind-eq2 : goal.returns-then-kind-eq2
unfolding length_fits
returns-then-kind-eq2 c = rw (ne_eqb _ _ c.if-kind-eq1.false, eq-eqb _ _ c.if-kind-eq2.true)

pub returns : goal.returns
unfolding length_fits
returns c = rw (ne_eqb _ _ c.if-kind-eq1.false, ne_eqb _ _ c.if-kind-eq2.false)
