-- `body_numbers::field_end` meets its contract: its tests are those of bytes that pass the body, pass their part, or stand in both.
use Rattle.body_formats.proofs.Strings.{end_14, end_15, end_at}
use native.Mathlib.Omega.{arith}
use Rattle.body_numbers.proofs.field_end.Goals.{then-s-n-via-then-s-n, then-s-n-via-else-s-n+then-s-n-2}
use Rattle.body_numbers.proofs.field_end.Goals as goal

pub returns-then-s-n : goal.returns-then-s-n
returns-then-s-n c =
    end_14 _ _ _ _ (elim c.then-s-n.branch [ then-s-n-via-then-s-n w ↦ omega arith | then-s-n-via-else-s-n+then-s-n-2 w ↦ omega arith ])

pub returns-then-l-p : goal.returns-then-l-p
returns-then-l-p c = end_15 _ _ _ _ (omega arith) (omega arith)

pub returns : goal.returns
returns c = end_at _ _ _ _ (omega arith) (omega arith)
