-- `index_records::read` meets its contract: each turn lays one record, and when none is left the list is the definition's.
use Prim.Native.Nat.{suc, ◌+◌, ◌-◌}
use mathlib.Core.Path.{◌≡◌, refl, sym, ◌∙◌}
use native.Mathlib.Omega.{arith}
use Rattle.ground_refusal.proofs.Exits.{passed_on}
use Rattle.index_records.proofs.Plans.{laid_turn, answers, laid_recorded}
use Rattle.index_records.proofs.read.Goals as goal

pub returns-in_err-n : goal.returns-in_err-n
returns-in_err-n c = let plan = rw c.in_err-n.was at c.planned.ensures in
    (passed_on c.from_residual.ensures ∙ answers _ _ _ _ plan, laid_recorded _ _ _ _ plan)

pub loop-i-init : goal.loop-i-init
loop-i-init c = let z : c.in_ok-n.n - 0 ≡ c.in_ok-n.n = omega arith in rw z refl

pub loop-i-preserved : goal.loop-i-preserved
loop-i-preserved c =
    let i = c.loop-i.i in
    let n = c.in_ok-n.n in
    let e : n - i ≡ suc (n - (i + 1)) = omega arith in
    rw (c.store.ensures, c.record_at-next.ensures) (sym (laid_turn c.args.s.now c.loop-i.list c.loop-i.at i (n - i) (n - (i + 1)) e) ∙ c.loop-i.invariant)

pub returns : goal.returns
returns c =
    let plan = rw c.in_ok-n.was at c.planned.ensures in
    let none : c.in_ok-n.n - c.loop-i.i ≡ 0 = omega arith in
    let laid = rw none at c.loop-i.invariant in
    (answers _ _ _ _ plan, laid ∙ laid_recorded _ _ _ _ plan)
