-- `index_stream_fields::skip_descriptor` meets its contract: after the tag stand bytes after their length.
use mathlib.Core.Path.{sym, ◌∙◌}
use native.Mathlib.Omega.{arith}
use Rattle.ground_refusal.proofs.Exits.{passed_on}
use Rattle.body_formats.proofs.Readers.{part_facts}
use Rattle.index_stream_fields.proofs.Counting.{descriptor_no, descriptor_at}
use Rattle.index_stream_fields.proofs.skip_descriptor.Goals as goal

pub overflow_add-result : goal.overflow_add-result
overflow_add-result c = omega (arith, (part_facts _ _ _ _ _ _ (sym c.in_ok-a.was ∙ c.read_part.ensures)).0)

pub returns-in_err-a : goal.returns-in_err-a
returns-in_err-a c = passed_on c.from_residual.ensures ∙ descriptor_no _ (λ i. (c.type_inv.s i).fits) _ _ (omega arith) (omega arith) _
    (sym c.in_err-a.was ∙ c.read_part.ensures)

pub returns : goal.returns
returns c = descriptor_at _ (λ i. (c.type_inv.s i).fits) _ _ (omega arith) (omega arith) _ _
    (sym c.in_ok-a.was ∙ c.read_part.ensures)
