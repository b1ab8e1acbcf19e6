-- `configuration_writer::measuring::pen_said` meets its contract: the tag says which order's fields the pen goes through.
use borrow.Author.Rules.{rules}
use Rattle.configuration.specs.Configuration.{order_of, said}
use Rattle.configuration.proofs.Orders.{other_tag}
use Rattle.configuration_writer.proofs.measuring.pen_said.Goals as goal

pub pen_set_clock-requires : goal.pen_set_clock-requires
unfolding order_of said
pen_set_clock-requires c = search rules

pub pen_set_code-requires : goal.pen_set_code-requires
unfolding order_of said
pen_set_code-requires c = search rules

pub pen_tune-requires : goal.pen_tune-requires
unfolding order_of said
pen_tune-requires c = search rules

pub pen_set_return-requires : goal.pen_set_return-requires
unfolding order_of said
pen_set_return-requires c = search rules

pub pen_set_period-requires : goal.pen_set_period-requires
unfolding order_of said
pen_set_period-requires c = search rules

pub pen_set_volume-requires : goal.pen_set_volume-requires
unfolding order_of said
pen_set_volume-requires c = search rules

pub pen_query-requires : goal.pen_query-requires
unfolding order_of said
pen_query-requires c = search rules

pub pen_rest-requires : goal.pen_rest-requires
unfolding order_of said
pen_rest-requires c = search rules

pub returns-in-1 : goal.returns-in-1
unfolding order_of said
returns-in-1 c = rw c.in-1.is (c.pen_set_clock.ensures c.args.pool.now)

pub returns-in-2 : goal.returns-in-2
unfolding order_of said
returns-in-2 c = rw c.in-2.is c.pen_set_code.ensures

pub returns-in-3 : goal.returns-in-3
unfolding order_of said
returns-in-3 c = rw c.in-3.is c.pen_tune.ensures

pub returns-in-4 : goal.returns-in-4
unfolding order_of said
returns-in-4 c = rw c.in-4.is c.pen_set_return.ensures

pub returns-in-5 : goal.returns-in-5
unfolding order_of said
returns-in-5 c = rw c.in-5.is c.pen_set_period.ensures

pub returns-in-6 : goal.returns-in-6
unfolding order_of said
returns-in-6 c = rw c.in-6.is c.pen_set_volume.ensures

pub returns-in-7 : goal.returns-in-7
unfolding order_of said
returns-in-7 c = rw c.in-7.is c.pen_query.ensures

pub returns-in_default : goal.returns-in_default
unfolding order_of said
returns-in_default c = let r = c.in_default.in_default-own.rest in
    rw (other_tag _ r.0.0.0.0.0.0.1 r.0.0.0.0.0.1 r.0.0.0.0.1 r.0.0.0.1 r.0.0.1 r.0.1 r.1) c.pen_rest.ensures
