-- `packet_reader::read_on` meets its contract: the plan decides; then the output and the state are written by it.
use mathlib.Core.Path.{refl}
use native.Mathlib.Omega.{arith}
use Rattle.packet.proofs.Judging.{carried}
use Rattle.packet_reader.proofs.Calls.{part_may, leaves, read_small, read_fits}
use Rattle.packet_reader.proofs.read_on.Goals as goal

pub plan_of-plan-requires : goal.plan_of-plan-requires
plan_of-plan-requires c = let q = c.requires in
    ((part_may c.args.s.now c.args.kept q.begun).0, q.carries)

pub overflow_add-given-2 : goal.overflow_add-given-2
overflow_add-given-2 c = let q = c.requires in
    let v = c.plan_of-plan.ensures in
    let m = (part_may c.args.s.now c.args.kept q.begun).1 in
    let z = (carried c.args.p.now q.carries).size in
    let e = v.ended in
    let f = v.upto in
    let g = v.stop in
    omega arith

pub returns-then-out-given : goal.returns-then-out-given
returns-then-out-given c = read_small c.args.s.now c.args.p.now c.args.kept c.requires _ c.plan_of-plan.ensures _ _ refl c.if-out-given.true

pub keep-requires : goal.keep-requires
keep-requires c = leaves c.args.s.now c.args.p.now c.args.kept c.requires _ c.plan_of-plan.ensures

pub returns : goal.returns
returns c = read_fits c.args.s.now c.args.p.now c.args.kept c.requires _ c.plan_of-plan.ensures _ _ refl c.if-out-given.false _ _
    c.put_sections.ensures c.keep.ensures
