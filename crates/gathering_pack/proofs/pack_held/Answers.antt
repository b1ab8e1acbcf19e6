-- `gathering_pack::pack_held` meets its contract: the payloads of a whole table lie in the store.
use Rattle.std.proofs.Common.{sym, ap, ◌∙◌}
use Rattle.gathering_state.specs.Lists.{total}
use Rattle.gathering_hand_out.specs.Handing.{body_held}
use Rattle.gathering_hand_out.proofs.Handing.{complete_whole, few_in_store}
use Rattle.gathering_pack.proofs.Packing.{answers_body}
use Rattle.gathering_pack.proofs.pack_held.Goals as goal

pub move_together-requires : goal.move_together-requires
move_together-requires c =
    let e = c.lengths.ensures.held in
    rw e (few_in_store _ _ (rw e at c.lengths.ensures.few) (complete_whole _ _ (sym c.complete.ensures ∙ c.in_ok-complete.was)))

pub returns : goal.returns
unfolding body_held
returns c =
    let e = c.lengths.ensures.held in
    let all = sym c.complete.ensures ∙ c.in_ok-complete.was in
    let i = few_in_store _ _ (rw e at c.lengths.ensures.few) (complete_whole _ _ all) in
    let m = c.move_together.ensures in
    answers_body _ _ i all _ (m.counted ∙ ap total e) _ (rw e at m.joined)
