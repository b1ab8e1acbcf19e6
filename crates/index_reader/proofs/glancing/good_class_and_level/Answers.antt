-- `index_reader::glancing::good_class_and_level` meets its contract: each half of the byte is tested.
use borrow.Author.Tests.{leb-true}
use Rattle.ground_choices.proofs.Tests.{both}
use Rattle.body_glance.proofs.Finds.{reads_nibbles}
use Rattle.index_reader.proofs.glancing.good_class_and_level.Goals as goal

pub returns : goal.returns
returns c e = let low = both _ _ e in
    let high = both _ _ low.0 in
    let class = both _ _ high.0 in
    (_, reads_nibbles _ _ 1 4 (leb-true _ _ class.0) (leb-true _ _ class.1) (leb-true _ _ high.1) (leb-true _ _ low.1))
