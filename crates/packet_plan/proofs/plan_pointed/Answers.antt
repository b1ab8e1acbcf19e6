-- `packet_plan::plan_pointed` meets its contract: each case of the unfinished section with the bytes ahead says what is given first, and the sections
-- from the pointer on are given and left behind it.
use native.Mathlib.Omega.{arith}
use lib.ListN.{take, drop, length-take}
use Prim.Native.Nat.{◌-◌}
use Rattle.packet_frames.specs.declared.Frame.TheVariants.{Nothing, Whole, Open}
use Rattle.packet_frames.proofs.Growing.{grown_as, whole_between}
use Rattle.packet_plan.proofs.Plans.{plan_pointed_nothing, plan_pointed_whole, plan_pointed_open}
use Rattle.packet_plan.proofs.plan_pointed.Goals as goal

pub overflow_sub-result : goal.overflow_sub-result
overflow_sub-result c = let b = whole_between c.args.u.now (take (c.args.first - c.args.at) (drop c.args.at c.args.p.now)) _ _ c.in-Whole.is c.grow.ensures in omega arith

pub overflow_add-result : goal.overflow_add-result
overflow_add-result c = let b = whole_between c.args.u.now (take (c.args.first - c.args.at) (drop c.args.at c.args.p.now)) _ _ c.in-Whole.is c.grow.ensures in
    omega (arith, c.requires.within, c.requires.follows, length-take (c.args.first - c.args.at) (drop c.args.at c.args.p.now))

pub returns-in-Nothing : goal.returns-in-Nothing
returns-in-Nothing c = plan_pointed_nothing _ _ _ _ c.requires _ c.find_sections-found.ensures (grown_as c.args.u.now (take (c.args.first - c.args.at) (drop c.args.at c.args.p.now)) _ Nothing c.in-Nothing.is c.grow.ensures)

pub returns-in-Whole : goal.returns-in-Whole
returns-in-Whole c = plan_pointed_whole _ _ _ _ c.requires _ c.find_sections-found.ensures _ (grown_as c.args.u.now (take (c.args.first - c.args.at) (drop c.args.at c.args.p.now)) _ (Whole _) c.in-Whole.is c.grow.ensures)

pub returns-in-Open : goal.returns-in-Open
returns-in-Open c = plan_pointed_open _ _ _ _ c.requires _ c.find_sections-found.ensures (grown_as c.args.u.now (take (c.args.first - c.args.at) (drop c.args.at c.args.p.now)) _ Open c.in-Open.is c.grow.ensures)
