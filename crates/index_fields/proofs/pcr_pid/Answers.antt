-- `index_fields::pcr_pid` meets its contract: it stands so many bytes after the flag.
use mathlib.Core.Path.{sym, ap, ◌∙◌}
use Rattle.ground_refusal.proofs.Exits.{passed_on}
use Rattle.body_formats.specs.Format.{reserved}
use Rattle.body_formats.specs.Answers.{number_of}
use Rattle.index_fields.specs.Asked.{pcr_pid}
use Rattle.index_fields.proofs.Answers.{in_channel_no, in_channel_lem, channel_in}
use native.Mathlib.Omega.{arith}
use Rattle.index_fields.proofs.pcr_pid.Goals as goal

pub overflow_add-at : goal.overflow_add-at
overflow_add-at c = omega (arith, channel_in _ _ _ _ _ (sym c.in_ok-f.was ∙ c.channel_at.ensures))

pub overflow_add-q : goal.overflow_add-q
overflow_add-q c = omega (arith, channel_in _ _ _ _ _ (sym c.in_ok-f.was ∙ c.channel_at.ensures))

pub returns-in_err-f : goal.returns-in_err-f
returns-in_err-f c = passed_on c.from_residual.ensures ∙ unfold pcr_pid in ap number_of (in_channel_no _ _ _ (reserved 3 1) _ _ (sym c.in_err-f.was ∙ c.channel_at.ensures))

pub returns : goal.returns
returns c = unfold pcr_pid in c.read_reserved.ensures ∙ ap number_of (in_channel_lem _ _ _ _ _ (sym c.in_ok-f.was ∙ c.channel_at.ensures)
    (reserved 3 1) _)
