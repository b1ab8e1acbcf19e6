-- `index_channel_reader::glancing::good_channel` meets its contract: its lengths count the descriptors and then the bytes up to l, and both are filled.
use Prim.Native.Nat.{◌%◌}
use mathlib.Core.Path.{refl}
use native.Mathlib.Omega.{arith}
use Rattle.body_glance.proofs.Leaves.{not_good}
use Rattle.index_channel_reader.proofs.Glances.{channel_good}
use Rattle.index_channel_reader.proofs.glancing.good_channel.Goals as goal

pub returns-then-l-p-lt12 : goal.returns-then-l-p-lt12
returns-then-l-p-lt12 c = not_good

pub returns-then-s-p-lt224 : goal.returns-then-s-p-lt224
returns-then-s-p-lt224 c = not_good

pub returns-then-size-ne60 : goal.returns-then-size-ne60
returns-then-size-ne60 c = not_good

pub returns-then-l-end : goal.returns-then-l-end
returns-then-l-end c = not_good

pub returns-then-two_bytes-l : goal.returns-then-two_bytes-l
returns-then-two_bytes-l c = not_good

pub returns-then-not-good_descriptors : goal.returns-then-not-good_descriptors
returns-then-not-good_descriptors c = not_good

pub returns : goal.returns
returns c e = channel_good _ _ (λ i. (c.type_inv.s i).fits) (c.two_bytes-size.result % 1024) c.if-s-p-lt224.false
    (omega (arith, c.two_bytes-size.ensures.0)) (omega arith) refl
    (c.good_descriptors.ensures c.if-not-good_descriptors.false)
    (omega (arith, c.two_bytes.ensures.0)) (c.good_streams.ensures e)
