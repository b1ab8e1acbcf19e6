-- `body_asking::in_body` meets its contract: its tests are the sum's, without the sum.
use Rattle.body_asking.proofs.Answers.{room, no_room}
use native.Mathlib.Omega.{arith}
use lib.ListN.{length}
use Rattle.body_asking.proofs.in_body.Goals as goal

pub returns-then-l-at : goal.returns-then-l-at
returns-then-l-at c = let a = c.args in no_room a.at a.n (length a.s.now) (omega arith)

pub returns : goal.returns
returns c = let a = c.args in room a.at a.n (length a.s.now) (omega arith)
