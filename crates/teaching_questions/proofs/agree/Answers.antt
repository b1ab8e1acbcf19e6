-- `teaching_questions::agree` meets its contract: those still to come agree if all do, until one is found that contradicts a later one.
use mathlib.Core.Path.{refl}
use Rattle.teaching_questions.proofs.Walking.{agree_clash, agree_on, agree_end}
use Rattle.teaching_questions.proofs.agree.Goals as goal

pub loop-x-init : goal.loop-x-init
loop-x-init c = refl

pub returns-then-differs_from_one : goal.returns-then-differs_from_one
returns-then-differs_from_one c =
    agree_clash _ _ _ _ _ c.in-Some.ensures.steps c.differs_from_one.ensures c.loop-x.invariant c.if-differs_from_one.true

pub loop-x-preserved : goal.loop-x-preserved
loop-x-preserved c =
    agree_on _ _ _ _ _ c.in-Some.ensures.steps c.differs_from_one.ensures c.loop-x.invariant c.if-differs_from_one.false

pub returns : goal.returns
returns c = agree_end _ _ c.in_default.ensures.steps.0 c.loop-x.invariant
