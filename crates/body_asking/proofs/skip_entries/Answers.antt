-- `body_asking::skip_entries` meets its contract: what is left of n entries from here ends where all n do.
use Prim.Native.Nat.{◌+◌, ◌-◌}
use mathlib.Core.Path.{◌≡◌, sym, ap, ◌∙◌}
use Rattle.ground_refusal.proofs.Exits.{passed_on}
use Rattle.body_formats.specs.Answers.{ended_all}
use Rattle.body_formats.proofs.Readers.{all_done, all_stop, all_go}
use Rattle.body_asking.specs.Asking.{headed_part}
use native.Mathlib.Omega.{arith}
use Rattle.body_asking.proofs.skip_entries.Goals as goal

pub returns-in_err-at : goal.returns-in_err-at
returns-in_err-at c = let v = c.loop in
    passed_on c.from_residual.ensures
    ∙ all_stop _ _ _ _ (c.args.n - v.counter) _ (omega arith) (sym c.in_err-at.was ∙ c.skip_entry.ensures)
    ∙ sym v.invariant

pub loop-preserved : goal.loop-preserved
loop-preserved c = let v = c.loop in
    let turn : c.args.n - v.counter - 1 ≡ c.args.n - (v.counter + 1) = omega arith in
    v.invariant
    ∙ all_go _ _ _ _ (c.args.n - v.counter) _ (omega arith) (sym c.in_ok-at.was ∙ c.skip_entry.ensures)
    ∙ ap (λ m. ended_all (headed_part c.args.h c.args.w) m c.args.s.now c.args.l c.in_ok-at.at) turn

pub returns : goal.returns
returns c = let v = c.loop in all_done _ _ _ _ (c.args.n - v.counter) (omega arith) ∙ sym v.invariant
