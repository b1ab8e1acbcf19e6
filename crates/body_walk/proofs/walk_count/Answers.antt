-- `body_walk::walk_count` meets its contract: the number read is walked past, and told.
use Rattle.body_formats.specs.Answers.{number_read}
use Rattle.body_walk.proofs.Leaves.{count_refused, number_counted, count_one}
use Rattle.body_walk.proofs.walk_count.Goals as goal

pub returns-in_err-p : goal.returns-in_err-p
returns-in_err-p c = count_refused _ _ _ _ _ _ _ c.in_err-p.was c.from_residual.ensures

pub returns : goal.returns
returns c = unfold number_read in number_counted _ (count_one _) _ _ _ _ _ _ _ c.in_ok-p.was _ c.read_number.ensures _ _
    c.told.ensures
