-- `body_asking::skip_entry` meets its contract: its bytes end where a number of as many does, and its part begins there.
use mathlib.Core.Path.{sym, ◌∙◌}
use Rattle.ground_refusal.proofs.Exits.{passed_on}
use Rattle.body_formats.proofs.Readers.{part_facts}
use Rattle.body_asking.proofs.Entries.{head_no, entry_no, entry_at}
use native.Mathlib.Omega.{arith}
use Rattle.body_asking.proofs.skip_entry.Goals as goal

pub overflow_add-result : goal.overflow_add-result
overflow_add-result c = omega (arith, (part_facts _ _ _ _ _ _ (sym c.in_ok-a.was ∙ c.read_part.ensures)).0)

pub returns-in_err-v : goal.returns-in_err-v
returns-in_err-v c = passed_on c.from_residual.ensures ∙ head_no _ _ _ _ _ _ (sym c.in_err-v.was ∙ c.read_number.ensures)

pub returns-in_err-a : goal.returns-in_err-a
returns-in_err-a c = passed_on c.from_residual-in_err-a.ensures ∙ entry_no _ _ _ _ _ _ _ (sym c.in_ok-v.was ∙ c.read_number.ensures) _
    (sym c.in_err-a.was ∙ c.read_part.ensures)

pub returns : goal.returns
returns c = entry_at _ _ _ _ _ _ _ (sym c.in_ok-v.was ∙ c.read_number.ensures) _ _
    (sym c.in_ok-a.was ∙ c.read_part.ensures)
