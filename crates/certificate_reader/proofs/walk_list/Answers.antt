-- `certificate_reader::walk_list` meets its contract: a count, and so many parts; those still to come make the whole.
use native.Mathlib.Omega.{arith}
use borrow.Author.Rules.{rules}
use Rattle.body_formats.specs.Format.{opaque}
use Rattle.body_formats.proofs.Leaves.{count_lawful}
use Rattle.body_formats.proofs.Parts.{opaque_lawful}
use Rattle.body_walk.proofs.Counts.{times_start, times_turn, times_done, list_walk, list_stop}
use Rattle.certificate_reader.proofs.walk_list.Goals as goal

pub returns-in_err-first : goal.returns-in_err-first
returns-in_err-first c = list_stop (count_lawful 1) (opaque_lawful _) c.in_err-first.was c.from_residual.ensures c.walk_count.ensures

pub loop-i-init : goal.loop-i-init
loop-i-init c = times_start (opaque _) _

pub loop-i-preserved : goal.loop-i-preserved
loop-i-preserved c = times_turn (opaque _) _ _ (opaque_lawful _) (omega arith) c.loop-i.invariant c.walk_part-at.ensures (search rules)

pub returns : goal.returns
returns c = list_walk (count_lawful 1) (opaque_lawful _) c.in_ok-first.was c.walk_count.ensures (times_done (opaque _) _ _ (omega arith) c.loop-i.invariant)
