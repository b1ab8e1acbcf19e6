-- `rooms_feed::feed_part` meets its contract: the verdict says what is answered, kept and stored, and what needs a room is taken where one is free.
use Rattle.std.proofs.Common.{arith, rules, sym, ap, ◌∙◌, Ok}
use mir.Syntax.{w8}
use mir.Val.{Fits}
use Rattle.gathering_state.specs.State.{spoiled_state}
use Rattle.rooms_feed.proofs.Steps.{part_in_rooms, first_versioned, first_roomy, first_counts, further_roomy, further_counts}
use Rattle.rooms_feed.proofs.Steps.{feeds_stop, feeds_repeat, feeds_clash, feeds_first, feeds_further}
use Rattle.rooms_feed.proofs.feed_part.Goals as goal

pub decide-requires : goal.decide-requires
decide-requires c = part_in_rooms _ _ _ c.requires.1 c.requires.2

pub open_part-requires : goal.open_part-requires
open_part-requires c =
    let pre = c.requires in
    first_versioned _ _ _ _ pre.0 pre.1 pre.2 _ (sym c.decide.ensures ∙ c.in-Ok-Begin.is ∙ ap Ok c.in-Ok-Begin.field-0-is)

pub take_free-requires : goal.take_free-requires
take_free-requires c =
    let pre = c.requires in
    let counts = first_counts _ _ c.open_part.ensures in
    (first_roomy _ _ _ _ pre.0 pre.1 pre.2 _ (sym c.decide.ensures ∙ c.in-Ok-Begin.is ∙ ap Ok c.in-Ok-Begin.field-0-is), counts.0, counts.1)

pub take_free-requires-in-Ok-Take : goal.take_free-requires-in-Ok-Take
take_free-requires-in-Ok-Take c =
    let pre = c.requires in
    let taken = sym c.decide.ensures ∙ c.in-Ok-Take.is ∙ ap Ok c.in-Ok-Take.field-0-is in
    let last : Fits w8 c.args.p.gathering.last = search rules in
    let counts = further_counts _ _ _ _ pre.0 pre.1 pre.2 _ taken (omega arith) in
    (further_roomy _ _ _ _ pre.0 pre.1 pre.2 _ taken, counts.0, counts.1)

pub returns-in-Err : goal.returns-in-Err
returns-in-Err c = feeds_stop _ _ _ _ _ _ (sym c.decide.ensures ∙ c.in-Err.is)

pub returns-in-Ok-Repeat : goal.returns-in-Ok-Repeat
returns-in-Ok-Repeat c = feeds_repeat _ _ _ _ _ (sym c.decide.ensures ∙ c.in-Ok-Repeat.is ∙ ap Ok c.in-Ok-Repeat.field-0-is)

pub returns-in-Ok-Contradict : goal.returns-in-Ok-Contradict
unfolding spoiled_state
returns-in-Ok-Contradict c = feeds_clash _ _ _ _ _ (sym c.decide.ensures ∙ c.in-Ok-Contradict.is ∙ ap Ok c.in-Ok-Contradict.field-0-is)

pub returns-in-Ok-Begin : goal.returns-in-Ok-Begin
returns-in-Ok-Begin c =
    let begun = sym c.decide.ensures ∙ c.in-Ok-Begin.is ∙ ap Ok c.in-Ok-Begin.field-0-is in
    feeds_first _ _ _ _ _ _ _ _ begun _ c.open_part.ensures c.take_free.ensures.0 c.take_free.ensures.1

pub returns-in-Ok-Take : goal.returns-in-Ok-Take
returns-in-Ok-Take c =
    let taken = sym c.decide.ensures ∙ c.in-Ok-Take.is ∙ ap Ok c.in-Ok-Take.field-0-is in
    feeds_further _ _ _ _ _ _ _ _ taken c.take_free-in-Ok-Take.ensures.0 c.take_free-in-Ok-Take.ensures.1
