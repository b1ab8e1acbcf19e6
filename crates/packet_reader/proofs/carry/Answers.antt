-- `packet_reader::carry` meets its contract: a repeat is marked; anything else is read after the bytes that go on.
use mathlib.Core.Path.{sym, ◌∙◌}
use Rattle.packet.proofs.Judging.{carried}
use Rattle.packet_reader.proofs.Calls.{carry_repeat, carry_read}
use Rattle.packet_reader.proofs.carry.Goals as goal

pub repeats-requires : goal.repeats-requires
repeats-requires c = (c.requires.0, c.possible-known.ensures, (carried c.args.p.now c.requires.1).size)

pub returns-then-repeats : goal.returns-then-repeats
returns-then-repeats c = carry_repeat _ _ _ (sym c.repeats.ensures ∙ c.if-repeats.true) _ c.mark_repeat.ensures

pub going_on-kept-requires : goal.going_on-kept-requires
going_on-kept-requires c = (c.requires.0, c.possible-known.ensures, (carried c.args.p.now c.requires.1).size)

pub returns : goal.returns
returns c = carry_read _ _ _ (sym c.repeats.ensures ∙ c.if-repeats.false) c.going_on-kept.result c.going_on-kept.ensures.is _ _ _
    c.read_on.ensures
