-- `body_parts::skip_parts` meets its contract: what is left of n parts from here ends where all n do.
use Prim.Native.Nat.{◌+◌, ◌-◌}
use mathlib.Core.Path.{◌≡◌, sym, ap, ◌∙◌}
use Rattle.ground_refusal.proofs.Exits.{passed_on}
use Rattle.body_formats.specs.Format.{opaque}
use Rattle.body_formats.specs.Answers.{ended_all}
use Rattle.body_formats.proofs.Readers.{part_facts, opaque_at, opaque_no, all_done, all_stop, all_go}
use native.Mathlib.Omega.{arith}
use Rattle.body_parts.proofs.skip_parts.Goals as goal

pub returns-in_err-a : goal.returns-in_err-a
returns-in_err-a c = let v = c.loop in
    passed_on c.from_residual.ensures
    ∙ all_stop _ _ _ _ (c.args.n - v.counter) _ (omega arith) (opaque_no _ _ _ _ _ (sym c.in_err-a.was ∙ c.read_part.ensures))
    ∙ sym v.invariant

pub overflow_add-at : goal.overflow_add-at
overflow_add-at c = omega (arith, (part_facts _ _ _ _ _ _ (sym c.in_ok-a.was ∙ c.read_part.ensures)).0)

pub loop-preserved : goal.loop-preserved
loop-preserved c = let v = c.loop in
    v.invariant
    ∙ all_go _ _ _ _ (c.args.n - v.counter) _ (omega arith) (opaque_at _ _ _ _ _ _ (sym c.in_ok-a.was ∙ c.read_part.ensures))
    ∙ ap (λ m. ended_all (opaque c.args.w) m c.args.s.now c.args.l (c.in_ok-a.a + c.in_ok-a.m)) (omega arith)

pub returns : goal.returns
returns c = let v = c.loop in all_done _ _ _ _ (c.args.n - v.counter) (omega arith) ∙ sym v.invariant
