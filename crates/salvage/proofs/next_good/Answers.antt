-- `salvage::next_good` meets its contract: from each place on, the bytes before the next section are those that are left to pass.
use mathlib.Core.Path.{◌≡◌, sym, ap, ◌∙◌}
use native.Mathlib.Omega.{arith}
use lib.ListN.{length}
use Rattle.salvage.specs.Reading.{good_length}
use Rattle.salvage.proofs.Begins.{length_not}
use Rattle.salvage.proofs.Pieces.{tail_part, next_found, next_none, gap_at_other}
use Rattle.salvage.proofs.next_good.Goals as goal

pub returns-then-length-ne0 : goal.returns-then-length-ne0
returns-then-length-ne0 c = next_found _ _ _ _ (omega arith) c.loop-at.invariant
    (c.good_length-length.ensures ∙ ap good_length (tail_part c.args.s.now c.loop-at.at)) c.if-length-ne0.true

pub loop-at-preserved : goal.loop-at-preserved
loop-at-preserved c = let judged = c.good_length-length.ensures ∙ ap good_length (tail_part c.args.s.now c.loop-at.at) in
    let none = gap_at_other _ _ c.loop-at-test.true (length_not _ (sym judged ∙ c.if-length-ne0.false)) in
    omega (arith, c.loop-at.invariant)

pub returns : goal.returns
returns c = let end : c.loop-at.at ≡ length c.args.s.now = omega arith in
    next_none _ _ _ (omega arith) (omega arith) (rw end at c.loop-at.invariant)
