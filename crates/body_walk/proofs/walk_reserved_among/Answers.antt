-- `body_walk::walk_reserved_among` meets its contract: the number read is judged as the format does, walked past, and told.
use mathlib.Core.Path.{ap, ◌∙◌}
use Rattle.body_formats.specs.Answers.{number_among}
use Rattle.body_formats.proofs.Bits.{number_among_lem}
use Rattle.body_walk.proofs.Leaves.{count_refused, number_counted, only_one, reserved_one}
use Rattle.body_walk.proofs.walk_reserved_among.Goals as goal

pub returns-in_err-p : goal.returns-in_err-p
returns-in_err-p c = count_refused _ _ _ _ _ _ _ c.in_err-p.was c.from_residual.ensures

pub returns : goal.returns
returns c = number_counted _ (only_one _ _ (reserved_one _ _)) _ _ _ _ _ _ _ c.in_ok-p.was _
    (c.among.ensures ∙ ap (number_among _ _ _) c.read_reserved-n.ensures ∙ number_among_lem _ _ _ _ _ _) _ _
    c.told.ensures
