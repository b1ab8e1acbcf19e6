-- `body_parts::part_from` meets its contract: its tests are those of a part that passes the body, passes the part around it, or lies in both.
use Rattle.body_formats.proofs.Readers.{part_14, part_15, part_of_lem, part_faulty}
use native.Mathlib.Omega.{arith}
use Rattle.body_parts.proofs.part_from.Goals as goal

pub returns-then-s-q : goal.returns-then-s-q
returns-then-s-q c = let a = c.args in part_14 a.s.now a.l a.p a.q a.m _ (omega arith)

pub returns-then-l-q : goal.returns-then-l-q
returns-then-l-q c = let a = c.args in part_15 a.s.now a.l a.p a.q a.m (omega arith) _ (omega arith)

pub returns-then-holds : goal.returns-then-holds
returns-then-holds c = let a = c.args in
    part_of_lem a.s.now a.l a.p a.q a.m (omega arith) a.holds a.fault (omega arith) c.if-holds.true

pub returns : goal.returns
returns c = let a = c.args in
    part_faulty a.s.now a.l a.p a.q a.m (omega arith) a.holds a.fault (omega arith) c.if-holds.false
