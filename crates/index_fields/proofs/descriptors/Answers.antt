-- `index_fields::descriptors` meets its contract: it stands so many bytes after the flag.
use mathlib.Core.Path.{sym, ap, ◌∙◌}
use Rattle.ground_refusal.proofs.Exits.{passed_on}
use Rattle.body_formats.specs.Format.{rest, length12, counted}
use Rattle.body_formats.specs.Answers.{part_of}
use Rattle.index_fields.specs.Asked.{descriptors_part}
use Rattle.index_fields.proofs.Answers.{in_channel_no, in_channel_lem, channel_in}
use native.Mathlib.Omega.{arith}
use Rattle.index_fields.proofs.descriptors.Goals as goal

pub overflow_add-at : goal.overflow_add-at
overflow_add-at c = omega (arith, channel_in _ _ _ _ _ (sym c.in_ok-f.was ∙ c.channel_at.ensures))

pub overflow_add-q : goal.overflow_add-q
overflow_add-q c = omega (arith, channel_in _ _ _ _ _ (sym c.in_ok-f.was ∙ c.channel_at.ensures))

pub returns-in_err-f : goal.returns-in_err-f
returns-in_err-f c = passed_on c.from_residual.ensures ∙ unfold descriptors_part in ap part_of (in_channel_no _ _ _ (counted length12 rest) _ _ (sym c.in_err-f.was ∙ c.channel_at.ensures))

pub returns : goal.returns
returns c = unfold descriptors_part in c.read_part12.ensures ∙ ap part_of
    (in_channel_lem _ _ _ _ _ (sym c.in_ok-f.was ∙ c.channel_at.ensures) (counted length12 rest) _)
