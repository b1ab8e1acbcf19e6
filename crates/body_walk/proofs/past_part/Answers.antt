-- `body_walk::past_part` meets its contract: a part has two entries, and a refusal none.
use mathlib.Core.Path.{ap}
use Rattle.std.specs.Prelude.{Ok, ◌+◌}
use native.Mathlib.Omega.{arith}
use Rattle.ground_refusal.proofs.Exits.{passed_on}
use Rattle.body_walk.specs.Entries.{span_of, past_part, end_of}
use Rattle.body_walk.proofs.Leaves.{stepped, laid_none}
use Rattle.body_walk.proofs.past_part.Goals as goal

pub overflow_add-result : goal.overflow_add-result
overflow_add-result c = omega (arith, ap end_of c.in_ok-a.was)

pub returns-in_err-a : goal.returns-in_err-a
returns-in_err-a c = stepped (past_part _) span_of _ _ c.in_err-a.was _ _ _ _ _ (passed_on c.from_residual.ensures) (laid_none _ _ _)

pub returns : goal.returns
returns c = stepped (past_part _) span_of _ _ c.in_ok-a.was _ _ _ _ _ (ap (λ n. Ok (c.in_ok-a.a + c.in_ok-a.n, n)) c.less.ensures) c.lay_two.ensures
