-- `body_walk::lay_two` meets its contract: the second entry stands after the first.
use mathlib.Core.List.{[], ◌∷◌}
use borrow.Author.Rules.{rules}
use Rattle.body_walk.proofs.Leaves.{laid_both}
use Rattle.body_walk.proofs.lay_two.Goals as goal

pub returns : goal.returns
returns c = laid_both _ _ _ (_ ∷ []) (_ ∷ []) _ _ _ c.lay_entry.ensures (search rules) c.less.ensures
    c.lay_entry-2.ensures
