-- `configuration_writer::glancing::see_said` meets its contract: the tag says which order is seen.
use borrow.Author.Rules.{rules}
use Rattle.configuration.proofs.Orders.{other_tag}
use Rattle.configuration.specs.Configuration.{order_of, said}
use Rattle.configuration_writer.proofs.glancing.see_said.Goals as goal

pub see_set_clock-requires : goal.see_set_clock-requires
unfolding order_of said
see_set_clock-requires c = search rules

pub see_set_code-requires : goal.see_set_code-requires
unfolding order_of said
see_set_code-requires c = search rules

pub see_tune-requires : goal.see_tune-requires
unfolding order_of said
see_tune-requires c = search rules

pub see_set_return-requires : goal.see_set_return-requires
unfolding order_of said
see_set_return-requires c = search rules

pub see_set_period-requires : goal.see_set_period-requires
unfolding order_of said
see_set_period-requires c = search rules

pub see_set_volume-requires : goal.see_set_volume-requires
unfolding order_of said
see_set_volume-requires c = search rules

pub see_query-requires : goal.see_query-requires
unfolding order_of said
see_query-requires c = search rules

pub see_rest-requires : goal.see_rest-requires
unfolding order_of said
see_rest-requires c = search rules

pub returns-in-1 : goal.returns-in-1
unfolding order_of said
returns-in-1 c = rw c.in-1.is c.see_set_clock.ensures

pub returns-in-2 : goal.returns-in-2
unfolding order_of said
returns-in-2 c = rw c.in-2.is c.see_set_code.ensures

pub returns-in-3 : goal.returns-in-3
unfolding order_of said
returns-in-3 c = rw c.in-3.is c.see_tune.ensures

pub returns-in-4 : goal.returns-in-4
unfolding order_of said
returns-in-4 c = rw c.in-4.is c.see_set_return.ensures

pub returns-in-5 : goal.returns-in-5
unfolding order_of said
returns-in-5 c = rw c.in-5.is c.see_set_period.ensures

pub returns-in-6 : goal.returns-in-6
unfolding order_of said
returns-in-6 c = rw c.in-6.is c.see_set_volume.ensures

pub returns-in-7 : goal.returns-in-7
unfolding order_of said
returns-in-7 c = rw c.in-7.is c.see_query.ensures

pub returns-in_default : goal.returns-in_default
unfolding order_of said
returns-in_default c = let r = c.in_default.in_default-own.rest in
    rw (other_tag _ r.0.0.0.0.0.0.1 r.0.0.0.0.0.1 r.0.0.0.0.1 r.0.0.0.1 r.0.0.1 r.0.1 r.1) c.see_rest.ensures
