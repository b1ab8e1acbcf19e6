-- `gathering_hand_out::hand_out` meets its contract: the payloads of a whole table lie in the store.
use Rattle.std.proofs.Common.{sym, ◌∙◌}
use Rattle.gathering_hand_out.specs.Handing.{body_held}
use Rattle.gathering_hand_out.proofs.Handing.{complete_whole, few_in_store, in_store_at, hands_complete}
use Rattle.gathering_hand_out.proofs.hand_out.Goals as goal

pub hand_held-requires : goal.hand_held-requires
hand_held-requires c =
    let e = c.lengths.ensures.held in
    let i = few_in_store _ _ (rw e at c.lengths.ensures.few) (complete_whole _ _ (sym c.complete.ensures ∙ c.in_ok-complete.was)) in
    record { few = c.lengths.ensures.few; lie = λ k h. rw e (in_store_at _ _ i k (rw e at h)) }

pub returns : goal.returns
unfolding body_held
returns c =
    let h = rw c.lengths.ensures.held at c.hand_held.ensures in
    hands_complete _ _ _ (sym c.complete.ensures ∙ c.in_ok-complete.was) _ h.0 _ h.1
