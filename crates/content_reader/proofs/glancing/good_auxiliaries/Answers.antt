-- `content_reader::glancing::good_auxiliaries` meets its contract: the count, each turn finds one auxiliary file, and those to come make the whole.
use native.Mathlib.Omega.{arith}
use borrow.Author.Tests.{eqb-true}
use Rattle.body_glance.proofs.Finds.{reads_to}
use Rattle.body_glance.proofs.Runs.{reads_list, coming_start, coming_turn, coming_done}
use Rattle.body_glance.proofs.Leaves.{not_good}
use Rattle.content.specs.Content.{auxiliary, auxiliaries}
use Rattle.content_reader.proofs.Glances.{reads_few, reads_auxiliary}
use Rattle.content_reader.proofs.glancing.good_auxiliaries.Goals as goal

pub returns-then-count-lt240 : goal.returns-then-count-lt240
returns-then-count-lt240 c = not_good

pub returns-then-count-gt242 : goal.returns-then-count-gt242
returns-then-count-gt242 c = not_good

pub loop-i-init : goal.loop-i-init
loop-i-init c = (omega arith, coming_start (auxiliary _) _)

pub returns-then-l-at : goal.returns-then-l-at
returns-then-l-at c = not_good

pub returns-then-l-data : goal.returns-then-l-data
returns-then-l-data c = not_good

pub loop-i-preserved : goal.loop-i-preserved
unfolding auxiliaries
loop-i-preserved c = let found = reads_auxiliary _ _ _ (λ i. (c.type_inv.s i).fits) _ c.three_or_four_bytes-n.ensures in
    (omega arith, coming_turn (auxiliary _) _ _ _ c.loop-i.invariant.1 (omega arith) found)

pub returns : goal.returns
unfolding auxiliaries
returns c e = let files = coming_done (auxiliary _) _ _ _ c.loop-i.invariant.1 (omega arith) in
    let counted = reads_list (auxiliary _) (reads_few _ _ 4 0 2 _ (omega arith) (omega arith) (omega arith) (omega arith)) files.1 in
    (_, reads_to (eqb-true _ _ e) counted)
