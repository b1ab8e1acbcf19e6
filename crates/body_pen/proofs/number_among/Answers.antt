-- `body_pen::number_among` meets its contract: its tests are those of the bound and of the range.
use mathlib.Core.Path.{sym, ◌∙◌}
use Rattle.ground_refusal.proofs.Exits.{passed_on}
use Rattle.body_pen.proofs.Leaves.{kept_none, kept_large, kept_outside, kept_is, too_low, too_high}
use native.Mathlib.Omega.{arith}
use Rattle.body_pen.proofs.number_among.Goals as goal

pub returns-in_err-v : goal.returns-in_err-v
returns-in_err-v c = let a = c.args in
    passed_on c.from_residual.ensures ∙ kept_none a.tape.now a.k a.bound a.lo a.hi _ (sym c.in_err-v.was ∙ c.entry_at.ensures)

pub returns-then-bound-v : goal.returns-then-bound-v
returns-then-bound-v c = let a = c.args in
    kept_large a.tape.now a.k a.bound a.lo a.hi _ _ (sym c.in_ok-v.was ∙ c.entry_at.ensures) (omega arith)

pub returns-then-v-lo : goal.returns-then-v-lo
returns-then-v-lo c = let a = c.args in
    kept_outside a.tape.now a.k a.bound a.lo a.hi _ _ (sym c.in_ok-v.was ∙ c.entry_at.ensures) (omega arith)
    (too_low a.lo a.hi _ (omega arith))

pub returns-then-hi-v : goal.returns-then-hi-v
returns-then-hi-v c = let a = c.args in
    kept_outside a.tape.now a.k a.bound a.lo a.hi _ _ (sym c.in_ok-v.was ∙ c.entry_at.ensures) (omega arith)
    (too_high a.lo a.hi _ (omega arith))

pub returns : goal.returns
returns c = let a = c.args in
    kept_is a.tape.now a.k a.bound a.lo a.hi _ _ (sym c.in_ok-v.was ∙ c.entry_at.ensures) (omega arith) (omega arith)
    (omega arith)
