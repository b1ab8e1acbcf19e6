-- `rooms_count::rooms_held` meets its contract: the rooms of both are counted.
use native.Mathlib.Omega.{arith}
use Rattle.ground_choices.proofs.Tests.{unmet, met}
use Rattle.rooms_count.proofs.Counting.{held_impossible, held_counted, held_few}
use Rattle.rooms_count.proofs.rooms_held.Goals as goal

pub returns-then-not-possible : goal.returns-then-not-possible
returns-then-not-possible c = held_impossible _ _ (unmet _ c.possible.ensures c.if-not-possible.true-raw)

pub overflow_add-result : goal.overflow_add-result
overflow_add-result c = let ok = met _ c.possible.ensures c.if-not-possible.false-raw in
    let few = held_few _ _ ok _ _ c.held_rooms-first.ensures c.held_rooms-second.ensures in
    omega arith

pub returns : goal.returns
returns c = let ok = met _ c.possible.ensures c.if-not-possible.false-raw in
    held_counted _ _ ok _ _ c.held_rooms-first.ensures c.held_rooms-second.ensures
