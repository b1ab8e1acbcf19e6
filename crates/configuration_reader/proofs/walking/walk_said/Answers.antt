-- `configuration_reader::walking::walk_said` meets its contract: the tag decides which fields the content has, as in the definition.
use native.Mathlib.Omega.{arith}
use Rattle.configuration.specs.Configuration.{order_of, said}
use Rattle.configuration_reader.proofs.Commands.{by_tag, by_other}
use Rattle.configuration_reader.proofs.walking.walk_said.Goals as goal

pub returns-in-1 : goal.returns-in-1
unfolding order_of said
returns-in-1 c = by_tag _ 1 c.in-1.is c.walk_set_clock.ensures

pub returns-in-2 : goal.returns-in-2
unfolding order_of said
returns-in-2 c = by_tag _ 2 c.in-2.is c.walk_set_code.ensures

pub returns-in-3 : goal.returns-in-3
unfolding order_of said
returns-in-3 c = by_tag _ 3 c.in-3.is c.walk_tune.ensures

pub returns-in-4 : goal.returns-in-4
unfolding order_of said
returns-in-4 c = by_tag _ 4 c.in-4.is c.walk_set_return.ensures

pub returns-in-5 : goal.returns-in-5
unfolding order_of said
returns-in-5 c = by_tag _ 5 c.in-5.is c.walk_set_period.ensures

pub returns-in-6 : goal.returns-in-6
unfolding order_of said
returns-in-6 c = by_tag _ 6 c.in-6.is c.walk_set_volume.ensures

pub returns-in-7 : goal.returns-in-7
unfolding order_of said
returns-in-7 c = by_tag _ 7 c.in-7.is c.walk_query.ensures

pub returns-in_default : goal.returns-in_default
unfolding order_of said
returns-in_default c = by_other c.args.tag (λ e. omega arith) (λ e. omega arith) (λ e. omega arith) (λ e. omega arith) (λ e. omega arith) (λ e. omega arith) (λ e. omega arith)
    c.walk_rest.ensures
