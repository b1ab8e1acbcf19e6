-- `body_walk::walk_resources` meets its contract: a count, and so many resources; those still to come make the whole.
use native.Mathlib.Omega.{arith}
use borrow.Author.Rules.{rules}
use Rattle.body_formats.specs.Resource.{resource_pairs, resource}
use Rattle.body_formats.proofs.Leaves.{count_lawful, digits_lawful}
use Rattle.body_walk.proofs.Counts.{times_start, times_turn, times_done, list_walk, list_stop}
use Rattle.body_walk.proofs.walk_resources.Goals as goal

pub returns-in_err-first : goal.returns-in_err-first
returns-in_err-first c = list_stop (count_lawful 1) (digits_lawful resource_pairs) c.in_err-first.was c.from_residual.ensures c.walk_count.ensures

pub loop-i-init : goal.loop-i-init
loop-i-init c = times_start resource _

pub loop-i-preserved : goal.loop-i-preserved
loop-i-preserved c = times_turn resource _ _ (digits_lawful resource_pairs) (omega arith) c.loop-i.invariant c.walk_digits-at.ensures (search rules)

pub returns : goal.returns
returns c = list_walk (count_lawful 1) (digits_lawful resource_pairs) c.in_ok-first.was c.walk_count.ensures (times_done resource _ _ (omega arith) c.loop-i.invariant)
