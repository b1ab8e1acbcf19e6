-- `index_reader::glancing::good_head` meets its contract: each field is good, and the network is any number.
use Rattle.body_glance.proofs.Leaves.{not_good}
use Rattle.index_reader.proofs.Glances.{head_good}
use Rattle.index_reader.proofs.glancing.good_head.Goals as goal

pub returns-then-not-good_identifier : goal.returns-then-not-good_identifier
returns-then-not-good_identifier c = not_good

pub returns-then-not-good_time : goal.returns-then-not-good_time
returns-then-not-good_time c = not_good

pub returns-then-not-good_end : goal.returns-then-not-good_end
returns-then-not-good_end c = not_good

pub returns-then-not-good_type : goal.returns-then-not-good_type
returns-then-not-good_type c = not_good

pub returns : goal.returns
returns c e = head_good _ _ (λ i. (c.type_inv.s i).fits) (c.good_identifier.ensures c.if-not-good_identifier.false)
    (c.good_time.ensures c.if-not-good_time.false) (c.good_end.ensures c.if-not-good_end.false)
    (c.good_type.ensures c.if-not-good_type.false) (c.good_class_and_level.ensures e)
