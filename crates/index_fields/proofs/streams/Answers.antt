-- `index_fields::streams` meets its contract: they follow the descriptors.
use mathlib.Core.Path.{sym, ◌∙◌}
use Rattle.ground_refusal.proofs.Exits.{passed_on}
use Rattle.index_fields.proofs.Answers.{streams_no, streams_in, streams_is}
use native.Mathlib.Omega.{arith}
use Rattle.index_fields.proofs.streams.Goals as goal

pub overflow_add-at : goal.overflow_add-at
overflow_add-at c = omega (arith, streams_in _ _ _ _ _ (sym c.in_ok-a.was ∙ c.descriptors.ensures))

pub overflow_add-a : goal.overflow_add-a
overflow_add-a c = omega (arith, streams_in _ _ _ _ _ (sym c.in_ok-a.was ∙ c.descriptors.ensures))

pub returns-in_err-a : goal.returns-in_err-a
returns-in_err-a c = passed_on c.from_residual.ensures ∙ streams_no _ _ _ _ (sym c.in_err-a.was ∙ c.descriptors.ensures)

pub returns : goal.returns
returns c = c.read_part.ensures ∙ streams_is _ _ _ _ _ (sym c.in_ok-a.was ∙ c.descriptors.ensures)
