-- `index_reader::glancing::good_message` meets its contract: its head is good, so many resources are as their count says, and what its flag says ends at l.
use Rattle.body_glance.proofs.Leaves.{not_good}
use Rattle.index_reader.proofs.Glances.{fields_good}
use Rattle.index_reader.proofs.glancing.good_message.Goals as goal

pub returns-then-l-p-lt38 : goal.returns-then-l-p-lt38
returns-then-l-p-lt38 c = not_good

pub returns-then-not-good_head : goal.returns-then-not-good_head
returns-then-not-good_head c = not_good

pub returns-then-l-end : goal.returns-then-l-end
returns-then-l-end c = not_good

pub returns-then-not-good_resources : goal.returns-then-not-good_resources
returns-then-not-good_resources c = not_good

pub returns : goal.returns
returns c e = fields_good _ _ (λ i. (c.type_inv.s i).fits) _ c.wide-resources.ensures.0
    (c.good_head.ensures c.if-not-good_head.false) (c.good_resources.ensures c.if-not-good_resources.false)
    (c.good_flagged.ensures e)
