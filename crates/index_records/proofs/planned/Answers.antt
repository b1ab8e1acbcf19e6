-- `index_records::planned` meets its contract: a refused body has no records, and an accepted one as many as its count, if they fit.
use mathlib.Core.Path.{sym, ◌∙◌}
use native.Mathlib.Omega.{arith}
use Rattle.ground_refusal.proofs.Exits.{passed_on}
use Rattle.index_records.proofs.Plans.{plan_no, plan_small, plan_all}
use Rattle.index_records.proofs.planned.Goals as goal

pub returns-in_err-read : goal.returns-in_err-read
returns-in_err-read c = rw (passed_on c.from_residual.ensures) (plan_no _ _ _ _ (sym c.in_err-read.was ∙ c.read.ensures))

pub returns-then-room-n : goal.returns-then-room-n
returns-then-room-n c = plan_small _ _ _ (λ i. (c.type_inv.s i).fits) _ _ (sym c.in_ok-read.was ∙ c.read.ensures) c.number_there-n.ensures.0 (omega arith)

pub returns : goal.returns
returns c = plan_all _ _ _ (λ i. (c.type_inv.s i).fits) _ _ (sym c.in_ok-read.was ∙ c.read.ensures) c.number_there-n.ensures.0 (omega arith)
