-- `body_pen::span_at` meets its contract: its tests are those of two entries and of a span that lies in the pool.
use Rattle.body_pen.proofs.Leaves.{span_short, span_outside, span_there}
use native.Mathlib.Omega.{arith}
use Rattle.body_pen.proofs.span_at.Goals as goal

pub returns-then-tape-lt2 : goal.returns-then-tape-lt2
returns-then-tape-lt2 c = span_short _ _ _ (omega arith)

pub returns-then-tape-k : goal.returns-then-tape-k
returns-then-tape-k c = span_short _ _ _ (omega arith)

pub returns-then-len-a : goal.returns-then-len-a
returns-then-len-a c = span_outside _ _ _ (omega arith) (omega arith)

pub returns-then-len-a-2 : goal.returns-then-len-a-2
returns-then-len-a-2 c = span_outside _ _ _ (omega arith) (omega arith)

pub returns : goal.returns
returns c = span_there _ _ _ (omega arith) (omega arith)
