-- `rooms_hand_out::hand_part` meets its contract: the payloads of a whole table lie in their rooms.
use Rattle.std.proofs.Common.{sym, ◌∙◌}
use Rattle.rooms_hand_out.specs.Handing.{body_in}
use Rattle.rooms_hand_out.proofs.Handing.{lengths_lie, hands_complete}
use Rattle.rooms_hand_out.proofs.hand_part.Goals as goal

pub hand_held-requires : goal.hand_held-requires
hand_held-requires c =
    let e = c.lengths.ensures.held in
    record { few = c.lengths.ensures.few; lie = λ k h. rw e (lengths_lie _ _ _ c.requires k (rw e at h)) }

pub returns : goal.returns
unfolding body_in
returns c =
    let h = rw c.lengths.ensures.held at c.hand_held.ensures in
    hands_complete _ _ _ (sym c.complete.ensures ∙ c.in_ok-complete.was) _ h.0 _ h.1
