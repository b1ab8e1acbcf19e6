-- `packet_writer::put_rest` meets its contract: what is still to be laid, on what stands, stays the same from turn to turn.
use Prim.Native.Nat.{◌+◌, ◌-◌, ◌*◌}
use native.Mathlib.Omega.{arith}
use lib.ListN.{drop, length-take}
use Rattle.packet_writer.specs.Packing.{first_room, next_room}
use Rattle.packet_writer.proofs.Packets.{laying_start, laying_step, laying_end, part_of_lem}
use Rattle.packet_writer.proofs.put_rest.Goals as goal

pub loop-i-init : goal.loop-i-init
loop-i-init c = laying_start _ _ _ _ c.requires.low

pub put_continuing-requires : goal.put_continuing-requires
put_continuing-requires c = let v = c.loop-i.invariant in
    let q = c.requires in
    let room = v.room in
    let first = q.room in
    let e = c.min-upto.ensures in
    let from = first_room + next_room * c.loop-i.i in
    (omega arith, v.low, omega (arith, length-take (c.min-upto.result - from) (drop from c.args.section.now)))

pub overflow_add-c : goal.overflow_add-c
overflow_add-c c = let l = c.loop-i.invariant.low in omega arith

pub loop-i-preserved : goal.loop-i-preserved
loop-i-preserved c = let q = c.requires in
    let long = q.least in
    let less = q.most in
    laying_step _ _ _ _ _ _ _ c.loop-i.invariant (omega arith) q.room _
    (part_of_lem c.args.section.now (first_room + next_room * c.loop-i.i) _ c.min-upto.ensures (omega arith))
    _ c.put_continuing.ensures

pub shape_of-out : goal.shape_of-out
shape_of-out c = c.loop-i.invariant.room

pub returns : goal.returns
returns c = laying_end _ _ _ _ _ _ _ c.loop-i.invariant c.loop-i-test.false
