-- `content_fields::number_among` meets its contract: the number read is judged as the format does.
use mathlib.Core.Path.{ap, ◌∙◌}
use Rattle.body_formats.specs.Answers.{number_among}
use Rattle.body_formats.proofs.Bits.{number_among_lem}
use Rattle.content_fields.proofs.number_among.Goals as goal

pub returns : goal.returns
returns c = c.among.ensures ∙ ap (number_among _ _ _) c.read_reserved.ensures ∙ number_among_lem _ _ _ _ _ _
