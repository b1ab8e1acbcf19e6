-- `screen_choice::considered` meets its contract: what is not on or does not concern the box is passed over, and the rest is compared.
use Rattle.screen_choice.proofs.Leading.{not_on, not_concerned, may_show}
use Rattle.screen_choice.proofs.considered.Goals as goal

pub returns-then-not-is_timely : goal.returns-then-not-is_timely
returns-then-not-is_timely c code m so_far st part told = let args = c.args in
    not_on _ _ _ _ _ args.present args.best code m so_far st part told _
    c.is_timely.ensures c.if-not-is_timely.true

pub returns-then-not-is_concerned : goal.returns-then-not-is_concerned
returns-then-not-is_concerned c code m so_far st part told = let args = c.args in
    not_concerned _ _ _ _ _ args.present args.best code m so_far st part told _
    c.is_concerned.ensures c.if-not-is_concerned.true

pub returns : goal.returns
returns c code m so_far st part told = let args = c.args in
    may_show _ _ _ _ _ args.present args.best code m so_far st part told _ _ c.is_timely.ensures c.if-not-is_timely.false
    c.is_concerned.ensures c.if-not-is_concerned.false _ c.candidate.ensures _ c.better.ensures
