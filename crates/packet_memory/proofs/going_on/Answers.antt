-- `packet_memory::going_on` meets its contract: nothing goes on from a state that holds nothing, nor over a gap.
use native.Mathlib.Omega.{arith}
use Rattle.ground_choices.proofs.Tests.{unmet, met}
use Rattle.packet_memory.specs.State.{last_of}
use Rattle.packet_memory.proofs.States.{going_nothing, going_gap, going_then}
use Rattle.packet_memory.proofs.going_on.Goals as goal

pub returns-then-not-known : goal.returns-then-not-known
unfolding last_of
returns-then-not-known c = going_nothing _ _ (unmet _ c.requires.1 c.if-not-known.true-raw)

pub returns-then-counter_of : goal.returns-then-counter_of
unfolding last_of
returns-then-counter_of c = going_gap _ _ (met _ c.requires.1 c.if-not-known.false-raw) c.requires.0 _ _ c.counter_of.ensures.0 c.counter_of-2.ensures.0
    (λ e. omega arith)

pub returns : goal.returns
unfolding last_of
returns c = going_then _ _ (met _ c.requires.1 c.if-not-known.false-raw) c.requires.0 _ _ _ c.counter_of.ensures.0
    c.counter_of-2.ensures.0
    (omega arith) c.kept_of.ensures.0
