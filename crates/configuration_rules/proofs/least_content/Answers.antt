-- `least_content` meets its contract: its table is the definition's list, which has no entry from 8 on.
use mathlib.Core.Path.{refl}
use lib.ListN.{get_or-eq_default}
use Rattle.configuration.specs.Configuration.{least}
use borrow.Author.Rules.{rules}
use Rattle.configuration_rules.proofs.least_content.Goals as goal

pub returns-then-tag-ge8 : goal.returns-then-tag-ge8
unfolding least
returns-then-tag-ge8 c = let h = c.if-tag-ge8.true in rw get_or-eq_default

pub offset_bounds-tag : goal.offset_bounds-tag
unfolding least
offset_bounds-tag c = search rules

pub bounds-tag : goal.bounds-tag
unfolding least
bounds-tag c = search rules

pub returns : goal.returns
unfolding least
returns c = refl
