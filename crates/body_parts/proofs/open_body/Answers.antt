-- `body_parts::open_body` meets its contract: its two tests are those that come first.
use Rattle.body_formats.proofs.Readers.{other_kind, too_large, is_open}
use native.Mathlib.Omega.{arith}
use Rattle.body_parts.proofs.open_body.Goals as goal

pub returns-then-kind-own : goal.returns-then-kind-own
returns-then-kind-own c = other_kind _ _ _ (omega arith)

pub returns-then-s-gt-BODY_MOST : goal.returns-then-s-gt-BODY_MOST
returns-then-s-gt-BODY_MOST c = too_large _ _ _ (omega arith) (omega arith)

pub returns : goal.returns
returns c = is_open _ _ _ (omega arith) (omega arith)
