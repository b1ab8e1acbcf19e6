-- `body_ink::copy` meets its contract: the span is lent, and copied.
use mathlib.Core.Path.{ap, ◌∙◌}
use Rattle.ground_placing.specs.Placed.{placed}
use Rattle.body_ink.proofs.Strings.{span_end}
use Rattle.body_ink.proofs.copy.Goals as goal

pub returns : goal.returns
returns c = let a = c.args in
    c.copy_at.ensures ∙ ap (placed _ _) (span_end a.pool.now a.a a.n)
