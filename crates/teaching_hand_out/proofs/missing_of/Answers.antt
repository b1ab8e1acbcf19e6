-- `teaching_hand_out::missing_of` meets its contract: both numbers are those of what stands before the first contradiction.
use mathlib.Core.Path.{sym}
use lib.Seq.{length-take-le}
use Rattle.teaching_hand_out.proofs.Telling.{lacking_is}
use Rattle.teaching_hand_out.proofs.missing_of.Goals as goal

pub slice_bounds-missing_count-end : goal.slice_bounds-missing_count-end
slice_bounds-missing_count-end c = sym (length-take-le _ _ c.first_contradiction-end.ensures.within)

pub slice_bounds-smallest_missing-end : goal.slice_bounds-smallest_missing-end
slice_bounds-smallest_missing-end c = sym (length-take-le _ _ c.first_contradiction-end.ensures.within)

pub returns : goal.returns
returns c = let undisputed = c.first_contradiction-end.ensures in
    lacking_is _ _ _ undisputed.are _ _ c.missing_count-count.ensures c.smallest_missing-smallest.ensures
