-- `index_stream_fields::skip_descriptors` meets its contract: they end where their count does, in the part that their length tells.
use mathlib.Core.Path.{sym, ◌∙◌}
use native.Mathlib.Omega.{arith}
use Rattle.ground_refusal.proofs.Exits.{passed_on}
use Rattle.body_formats.specs.Format.{many, length12}
use Rattle.index.specs.Index.{descriptor}
use Rattle.index_stream_fields.proofs.Counting.{into_part, descriptors_no, descriptors_bad, descriptors_at}
use Rattle.index_stream_fields.proofs.skip_descriptors.Goals as goal

pub overflow_add-a : goal.overflow_add-a
overflow_add-a c = omega (arith, (into_part length12 (many descriptor) _ _ _ _ _ (sym c.in_ok-a.was ∙ c.read_part12.ensures)).0)

pub descriptors_in-requires : goal.descriptors_in-requires
descriptors_in-requires c = (into_part length12 (many descriptor) _ _ _ _ _ (sym c.in_ok-a.was ∙ c.read_part12.ensures)).0

pub returns-in_err-a : goal.returns-in_err-a
returns-in_err-a c = passed_on c.from_residual.ensures ∙ descriptors_no _ _ _ _ (sym c.in_err-a.was ∙ c.read_part12.ensures)

pub returns-in_err-k : goal.returns-in_err-k
returns-in_err-k c = passed_on c.from_residual-in_err-k.ensures ∙ descriptors_bad _ _ _ _ _ (sym c.in_ok-a.was ∙ c.read_part12.ensures) _
    (sym c.in_err-k.was ∙ c.descriptors_in.ensures)

pub returns : goal.returns
returns c = descriptors_at _ _ _ _ _ (sym c.in_ok-a.was ∙ c.read_part12.ensures) _ _
    (sym c.in_ok-k.was ∙ c.descriptors_in.ensures)
