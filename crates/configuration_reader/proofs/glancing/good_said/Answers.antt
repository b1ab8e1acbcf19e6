-- `configuration_reader::glancing::good_said` meets its contract: the tag decides which fields the content has, as in the definition.
use native.Mathlib.Omega.{arith}
use Rattle.configuration.specs.Configuration.{order_of}
use Rattle.configuration.proofs.Orders.{other_tag}
use Rattle.configuration_reader.proofs.Glances.{other_good}
use Rattle.configuration_reader.proofs.glancing.good_said.Goals as goal

pub returns-in-1 : goal.returns-in-1
unfolding order_of
returns-in-1 c = rw c.in-1.is c.good_set_clock.ensures

pub returns-in-2 : goal.returns-in-2
unfolding order_of
returns-in-2 c = rw c.in-2.is c.good_set_code.ensures

pub returns-in-3 : goal.returns-in-3
unfolding order_of
returns-in-3 c = rw c.in-3.is c.good_tune.ensures

pub returns-in-4 : goal.returns-in-4
unfolding order_of
returns-in-4 c = rw c.in-4.is c.good_set_return.ensures

pub returns-in-5 : goal.returns-in-5
unfolding order_of
returns-in-5 c = rw c.in-5.is c.good_set_period.ensures

pub returns-in-6 : goal.returns-in-6
unfolding order_of
returns-in-6 c = rw c.in-6.is c.good_set_volume.ensures

pub returns-in-7 : goal.returns-in-7
unfolding order_of
returns-in-7 c = rw c.in-7.is c.good_query.ensures

pub returns-in_default : goal.returns-in_default
unfolding order_of
returns-in_default c e = rw (other_tag c.args.tag (λ e. omega arith) (λ e. omega arith) (λ e. omega arith) (λ e. omega arith) (λ e. omega arith) (λ e. omega arith) (λ e. omega arith)) other_good
