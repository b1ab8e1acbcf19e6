-- `index_stream_fields::skip_stream` meets its contract: after the type stand the PID and the descriptors.
use mathlib.Core.Path.{sym, ◌∙◌}
use native.Mathlib.Omega.{arith}
use Rattle.ground_refusal.proofs.Exits.{passed_on}
use Rattle.index_stream_fields.proofs.Counting.{stream_no, stream_is}
use Rattle.index_stream_fields.proofs.skip_stream.Goals as goal

pub returns-in_err-v : goal.returns-in_err-v
returns-in_err-v c = passed_on c.from_residual.ensures ∙ stream_no _ (λ i. (c.type_inv.s i).fits) _ _ (omega arith) (omega arith) _
    (sym c.in_err-v.was ∙ c.read_reserved.ensures)

pub returns : goal.returns
returns c = c.skip_descriptors.ensures
    ∙ stream_is _ (λ i. (c.type_inv.s i).fits) _ _ (omega arith) (omega arith) _ _
    (sym c.in_ok-v.was ∙ c.read_reserved.ensures)
