-- `configuration_writer::inking::ink_said` meets its contract: the tag says which order's fields are written.
use mathlib.Core.Path.{ap}
use borrow.Author.Rules.{rules}
use Rattle.configuration.specs.Configuration.{set_clock, set_code, tune, set_return, set_period, set_volume, query, other, order_of}
use Rattle.configuration.proofs.Orders.{other_tag}
use Rattle.configuration_writer.proofs.Inkings.{ordered_ready, ordered_inked}
use Rattle.configuration_writer.proofs.inking.ink_said.Goals as goal

pub ink_set_clock-requires : goal.ink_set_clock-requires
unfolding order_of
ink_set_clock-requires c = ordered_ready c.args.tag set_clock (ap order_of c.in-1.is) c.requires

pub ink_set_code-requires : goal.ink_set_code-requires
unfolding order_of
ink_set_code-requires c = ordered_ready c.args.tag set_code (ap order_of c.in-2.is) c.requires

pub ink_tune-requires : goal.ink_tune-requires
unfolding order_of
ink_tune-requires c = ordered_ready c.args.tag tune (ap order_of c.in-3.is) c.requires

pub ink_set_return-requires : goal.ink_set_return-requires
unfolding order_of
ink_set_return-requires c = ordered_ready c.args.tag set_return (ap order_of c.in-4.is) c.requires

pub ink_set_period-requires : goal.ink_set_period-requires
unfolding order_of
ink_set_period-requires c = ordered_ready c.args.tag set_period (ap order_of c.in-5.is) c.requires

pub ink_set_volume-requires : goal.ink_set_volume-requires
unfolding order_of
ink_set_volume-requires c = ordered_ready c.args.tag set_volume (ap order_of c.in-6.is) c.requires

pub ink_query-requires : goal.ink_query-requires
unfolding order_of
ink_query-requires c = ordered_ready c.args.tag query (ap order_of c.in-7.is) c.requires

pub ink_other-requires : goal.ink_other-requires
unfolding order_of
ink_other-requires c = let r = c.in_default.in_default-own.rest in
    let e = other_tag c.args.tag r.0.0.0.0.0.0.1 r.0.0.0.0.0.1 r.0.0.0.0.1 r.0.0.0.1 r.0.0.1 r.0.1 r.1 in
    ordered_ready c.args.tag other e c.requires

pub shape_of-out-in-1 : goal.shape_of-out-in-1
unfolding order_of
shape_of-out-in-1 c = search rules

pub returns-in-1 : goal.returns-in-1
unfolding order_of
returns-in-1 c = ordered_inked c.args.tag set_clock (ap order_of c.in-1.is) c.ink_set_clock.ensures

pub shape_of-out-in-2 : goal.shape_of-out-in-2
unfolding order_of
shape_of-out-in-2 c = search rules

pub returns-in-2 : goal.returns-in-2
unfolding order_of
returns-in-2 c = ordered_inked c.args.tag set_code (ap order_of c.in-2.is) c.ink_set_code.ensures

pub shape_of-out-in-3 : goal.shape_of-out-in-3
unfolding order_of
shape_of-out-in-3 c = search rules

pub returns-in-3 : goal.returns-in-3
unfolding order_of
returns-in-3 c = ordered_inked c.args.tag tune (ap order_of c.in-3.is) c.ink_tune.ensures

pub shape_of-out-in-4 : goal.shape_of-out-in-4
unfolding order_of
shape_of-out-in-4 c = search rules

pub returns-in-4 : goal.returns-in-4
unfolding order_of
returns-in-4 c = ordered_inked c.args.tag set_return (ap order_of c.in-4.is) c.ink_set_return.ensures

pub shape_of-out-in-5 : goal.shape_of-out-in-5
unfolding order_of
shape_of-out-in-5 c = search rules

pub returns-in-5 : goal.returns-in-5
unfolding order_of
returns-in-5 c = ordered_inked c.args.tag set_period (ap order_of c.in-5.is) c.ink_set_period.ensures

pub shape_of-out-in-6 : goal.shape_of-out-in-6
unfolding order_of
shape_of-out-in-6 c = search rules

pub returns-in-6 : goal.returns-in-6
unfolding order_of
returns-in-6 c = ordered_inked c.args.tag set_volume (ap order_of c.in-6.is) c.ink_set_volume.ensures

pub shape_of-out-in-7 : goal.shape_of-out-in-7
unfolding order_of
shape_of-out-in-7 c = search rules

pub returns-in-7 : goal.returns-in-7
unfolding order_of
returns-in-7 c = ordered_inked c.args.tag query (ap order_of c.in-7.is) c.ink_query.ensures

pub shape_of-out-in_default : goal.shape_of-out-in_default
unfolding order_of
shape_of-out-in_default c = search rules

pub returns-in_default : goal.returns-in_default
unfolding order_of
returns-in_default c = let r = c.in_default.in_default-own.rest in
    let e = other_tag c.args.tag r.0.0.0.0.0.0.1 r.0.0.0.0.0.1 r.0.0.0.0.1 r.0.0.0.1 r.0.0.1 r.0.1 r.1 in
    ordered_inked c.args.tag other e c.ink_other.ensures
