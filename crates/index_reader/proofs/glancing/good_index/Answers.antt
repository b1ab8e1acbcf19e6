-- `index_reader::glancing::good_index` meets its contract: each turn finds one message, those to come make the whole, and the signature ends the body.
use mathlib.Core.Path.{refl}
use native.Mathlib.Omega.{arith}
use borrow.Author.Tests.{eqb-true}
use Rattle.body_glance.proofs.Runs.{coming_start, coming_turn, coming_done}
use Rattle.body_glance.proofs.Leaves.{not_good}
use Rattle.index.specs.Index.{message}
use Rattle.index_reader.proofs.Glances.{message_good, index_good}
use Rattle.index_reader.proofs.glancing.good_index.Goals as goal

pub returns-then-l-lt1 : goal.returns-then-l-lt1
returns-then-l-lt1 c = not_good

pub loop-i-init : goal.loop-i-init
loop-i-init c = (coming_start message _, omega arith)

pub returns-then-l-at-lt2 : goal.returns-then-l-at-lt2
returns-then-l-at-lt2 c = not_good

pub returns-then-l-at : goal.returns-then-l-at
returns-then-l-at c = not_good

pub returns-then-not-good_message : goal.returns-then-not-good_message
returns-then-not-good_message c = not_good

pub loop-i-preserved : goal.loop-i-preserved
loop-i-preserved c = (
  coming_turn message _ _ _ c.loop-i.invariant.0 (omega arith)
      (message_good _ _ (λ i. (c.type_inv.s i).fits) (omega (arith, c.two_bytes-n.ensures.0)) (omega arith)
      (c.good_message.ensures c.if-not-good_message.false)),
  omega arith,
)

pub returns-then-l-at-lt2-2 : goal.returns-then-l-at-lt2-2
returns-then-l-at-lt2-2 c = not_good

pub returns : goal.returns
returns c e = index_good _ (λ i. (c.type_inv.s i).fits) refl (coming_done message _ _ _ c.loop-i.invariant.0 (omega arith)) (omega arith)
    c.two_bytes.ensures.0 (eqb-true _ _ e)
