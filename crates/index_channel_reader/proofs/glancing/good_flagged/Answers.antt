-- `index_channel_reader::glancing::good_flagged` meets its contract: after a flag 0 nothing is left, and after a flag 1 the channel ends at l.
use borrow.Author.Tests.{eqb-true}
use Rattle.body_glance.proofs.Leaves.{not_good}
use Rattle.index_channel_reader.proofs.Glances.{flagged_off, flagged_on}
use Rattle.index_channel_reader.proofs.glancing.good_flagged.Goals as goal

pub returns-then-flag : goal.returns-then-flag
returns-then-flag c e = flagged_off _ _ (λ i. (c.type_inv.s i).fits) c.if-flag.true (eqb-true _ _ e)

pub returns-then-flag-2 : goal.returns-then-flag-2
returns-then-flag-2 c = not_good

pub returns : goal.returns
returns c e = flagged_on _ _ (λ i. (c.type_inv.s i).fits) c.if-flag-2.false (c.good_channel.ensures e)
