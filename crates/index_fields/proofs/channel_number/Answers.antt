-- `index_fields::channel_number` meets its contract: it stands so many bytes after the flag, and is not refused for its value.
use mathlib.Core.Path.{sym, ap, ◌∙◌}
use Rattle.ground_refusal.proofs.Exits.{passed_on}
use Rattle.body_formats.specs.Format.{number}
use Rattle.body_formats.specs.Answers.{number_of, number_read}
use Rattle.body_asking.proofs.Answers.{count_number}
use Rattle.index_fields.proofs.Answers.{in_channel_no, in_channel_lem, channel_in}
use native.Mathlib.Omega.{arith}
use Rattle.index_fields.proofs.channel_number.Goals as goal

pub overflow_add-at : goal.overflow_add-at
overflow_add-at c = omega (arith, channel_in _ _ _ _ _ (sym c.in_ok-f.was ∙ c.channel_at.ensures))

pub overflow_add-q : goal.overflow_add-q
overflow_add-q c = omega (arith, channel_in _ _ _ _ _ (sym c.in_ok-f.was ∙ c.channel_at.ensures))

pub returns-in_err-f : goal.returns-in_err-f
returns-in_err-f c = passed_on c.from_residual.ensures ∙ ap number_of (in_channel_no _ _ _ (number 2) _ _ (sym c.in_err-f.was ∙ c.channel_at.ensures))

pub returns : goal.returns
returns c = unfold number_read in c.read_number.ensures ∙ count_number 2 _ _ _ (λ i. (c.type_inv.s i).fits) ∙ ap number_of
    (in_channel_lem _ _ _ _ _ (sym c.in_ok-f.was ∙ c.channel_at.ensures) (number 2) _)
