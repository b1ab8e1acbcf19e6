-- `index_records::number_there` meets its contract: a number that is read stands there, and where none is read it answers 0.
use mathlib.Core.Path.{sym, ◌∙◌}
use Rattle.index_records.proofs.Places.{nothing_stands, number_stood}
use Rattle.index_records.proofs.number_there.Goals as goal

pub returns-in_default : goal.returns-in_default
returns-in_default c = nothing_stands _ _ _ _ (sym c.in_default.is ∙ c.read_number.ensures)

pub returns : goal.returns
returns c = number_stood _ _ _ _ _ (λ i. (c.type_inv.s i).fits) (sym c.in-Ok.is ∙ c.read_number.ensures)
