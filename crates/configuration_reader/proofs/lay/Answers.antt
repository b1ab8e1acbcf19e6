-- `configuration_reader::lay` meets its contract: a body that is not opened is refused, a dry walk says how many entries there are or why there are none, and a wet one lays them.
use mathlib.Core.Path.{sym, ◌∙◌}
use Rattle.body_walk.proofs.Bodies.{lay_shut, lay_no, lay_all}
use Rattle.configuration_reader.proofs.lay.Goals as goal

pub returns-in_err-open_body : goal.returns-in_err-open_body
returns-in_err-open_body c = let w = lay_shut _ _ c.in_err-open_body.was c.open_body.ensures c.from_residual.ensures in record { said = w.said; left = w.left }

pub returns-in_err-n : goal.returns-in_err-n
returns-in_err-n c = let w = lay_no _ _ (sym c.in_ok-open_body.was ∙ c.open_body.ensures) c.walk_configuration-dry.ensures
    (sym c.in_err-n.was ∙ c.entries_needed.ensures) c.from_residual-in_err-n.ensures in record { said = w.said; left = w.left }

pub returns : goal.returns
returns c = let w = lay_all _ _ (sym c.in_ok-open_body.was ∙ c.open_body.ensures) c.walk_configuration-dry.ensures
    (sym c.in_ok-n.was ∙ c.entries_needed.ensures) (λ i. (c.type_inv.s i).fits) c.walk_configuration.ensures in record { said = w.said; left = w.left }
