-- `packet_memory::possible` meets its contract: each test in turn decides, or leaves the rest.
use mathlib.Core.Path.{◌∙◌}
use native.Mathlib.Omega.{arith}
use Rattle.ground_choices.proofs.Tests.{unmet, met}
use Rattle.packet_memory.specs.State.{last_of}
use Rattle.packet_memory.proofs.States.{possible_other, possible_above, possible_not_begun, possible_end}
use Rattle.packet.proofs.Judging.{carrying_is}
use Rattle.packet_memory.proofs.possible.Goals as goal

pub returns-then-not-is_carrying : goal.returns-then-not-is_carrying
unfolding last_of
returns-then-not-is_carrying c = possible_other c.args.s.now (unmet _ c.is_carrying.ensures c.if-not-is_carrying.true-raw)

pub returns-then-kept-gt-UNFINISHED_MOST : goal.returns-then-kept-gt-UNFINISHED_MOST
unfolding last_of
returns-then-kept-gt-UNFINISHED_MOST c = possible_above _ (omega arith)

pub returns-then-not-is_begun : goal.returns-then-not-is_begun
unfolding last_of
returns-then-not-is_begun c = possible_not_begun c.args.s.now _ c.kept_of-kept.ensures.0
    (unmet _ c.is_begun.ensures c.if-not-is_begun.true-raw)

pub may_leave-requires : goal.may_leave-requires
unfolding last_of
may_leave-requires c = carrying_is _ (met _ c.is_carrying.ensures c.if-not-is_carrying.false-raw)

pub returns : goal.returns
unfolding last_of
returns c = c.may_leave.ensures
    ∙ possible_end c.args.s.now _ c.kept_of-kept.ensures.0
    (omega arith) (omega arith)
    (met _ c.is_carrying.ensures c.if-not-is_carrying.false-raw) (omega arith)
    (met _ c.is_begun.ensures c.if-not-is_begun.false-raw)
