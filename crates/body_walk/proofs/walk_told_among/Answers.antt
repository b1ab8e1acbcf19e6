-- `body_walk::walk_told_among` meets its contract: the number read is judged as the format does, walked past, and told.
use mathlib.Core.Path.{ap, ◌∙◌}
use Rattle.body_formats.specs.Answers.{number_among}
use Rattle.body_formats.proofs.Bits.{number_is_count, number_among_lem}
use Rattle.body_walk.proofs.Leaves.{count_refused, number_counted, only_one, number_one}
use Rattle.body_walk.proofs.walk_told_among.Goals as goal

pub returns-in_err-p : goal.returns-in_err-p
returns-in_err-p c = count_refused _ _ _ _ _ _ _ c.in_err-p.was c.from_residual.ensures

pub returns : goal.returns
returns c = number_counted _ (only_one _ _ (number_one _)) _ _ _ _ _ _ _ c.in_ok-p.was _
    (c.among.ensures
    ∙ ap (number_among _ _ _)
    (c.read_number-n.ensures ∙ number_is_count _ _ _ _ (λ i. (c.type_inv.s i).fits))
    ∙ number_among_lem _ _ _ _ _ _) _ _ c.told.ensures
