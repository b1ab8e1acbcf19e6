-- `index_reader::glancing::good_type` meets its contract: each of the five bytes is tested.
use borrow.Author.Rules.{rules}
use borrow.Author.Tests.{leb-true}
use Rattle.ground_choices.proofs.Tests.{both}
use Rattle.index_reader.proofs.Glances.{type_good}
use Rattle.index_reader.proofs.glancing.good_type.Goals as goal

pub returns : goal.returns
returns c e = let fifth = both _ _ e in
    let fourth = both _ _ fifth.0 in
    let third = both _ _ fourth.0 in
    let second = both _ _ third.0 in
    type_good _ _ (search rules) (leb-true _ _ second.0) (leb-true _ _ second.1) (leb-true _ _ third.1) (leb-true _ _ fourth.1)
    (leb-true _ _ fifth.1)
