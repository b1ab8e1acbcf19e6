-- `index_channel_reader::glancing::good_stream` meets its contract: its length counts the bytes up to l, and descriptors fill them.
use mathlib.Core.Path.{sym, ◌∙◌}
use native.Mathlib.Omega.{arith}
use Rattle.body_glance.proofs.Leaves.{not_good}
use Rattle.index_channel_reader.proofs.Glances.{stream_good}
use Rattle.index_channel_reader.proofs.glancing.good_stream.Goals as goal

pub returns-then-s-p-lt224 : goal.returns-then-s-p-lt224
returns-then-s-p-lt224 c = not_good

pub returns-then-two_bytes-l : goal.returns-then-two_bytes-l
returns-then-two_bytes-l c = not_good

pub returns : goal.returns
returns c e = stream_good _ _ (λ i. (c.type_inv.s i).fits) _ c.if-s-p-lt224.false (sym c.two_bytes.ensures.0 ∙ c.if-two_bytes-l.false)
    (omega arith) (omega arith) (c.good_descriptors.ensures e)
