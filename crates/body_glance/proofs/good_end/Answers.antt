-- `body_glance::good_end` meets its contract: a time is an end, and so are five bytes of ones.
use borrow.Author.Tests.{eqb-true}
use Rattle.ground_choices.proofs.Tests.{both}
use Rattle.body_glance.proofs.Leaves.{end_good, live_good}
use Rattle.body_glance.proofs.good_end.Goals as goal

pub returns-then-good_time : goal.returns-then-good_time
returns-then-good_time c e = end_good _ _ (λ i. (c.type_inv.s i).fits) c.requires (c.good_time.ensures c.if-good_time.true)

pub returns : goal.returns
returns c e = let fifth = both _ _ e in
    let fourth = both _ _ fifth.0 in
    let third = both _ _ fourth.0 in
    let second = both _ _ third.0 in
    live_good _ _ (λ i. (c.type_inv.s i).fits) (eqb-true _ _ second.0) (eqb-true _ _ second.1) (eqb-true _ _ third.1)
    (eqb-true _ _ fourth.1) (eqb-true _ _ fifth.1)
