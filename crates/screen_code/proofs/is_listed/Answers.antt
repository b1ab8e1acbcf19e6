-- `screen_code::is_listed` meets its contract. The loop's invariant: what is left decides, and it lies in the body.
use Prim.Native.Nat.{ℕ, suc, ◌-◌}
use mathlib.Core.Path.{◌≡◌, sym, ap, ◌∙◌}
use native.Mathlib.Omega.{arith}
use Rattle.screen_code.specs.Code.{listed}
use Rattle.screen_code.proofs.Same.{told_here}
use Rattle.screen_code.proofs.Listed.{listed_here, listed_on, listed_none}
use Rattle.screen_code.proofs.is_listed.Goals as goal

pub loop-k-init : goal.loop-k-init
loop-k-init c =
    let z : c.args.n - 0 ≡ c.args.n = omega arith in
    (λ k h. c.requires.0 k (omega arith), ap (λ (m : ℕ). listed c.args.s.now c.args.p m c.args.own.now) (sym z))

pub returns-then-eq : goal.returns-then-eq
returns-then-eq c =
    listed_here _ _ _ c.loop-k._k _ _ c.loop-k.invariant.1 (omega arith)
    (told_here _ _ _ _ _ c.eq.ensures c.as_slice.ensures ∙ c.if-eq.true)

pub loop-k-preserved : goal.loop-k-preserved
loop-k-preserved c = (
  λ k h. omega (arith, c.loop-k.invariant.0 (suc k) (omega arith)),
  listed_on _ _ _ c.loop-k._k _ _ c.loop-k.invariant.1 (omega arith) (told_here _ _ _ _ _ c.eq.ensures c.as_slice.ensures ∙ c.if-eq.false),
)

pub returns : goal.returns
returns c = listed_none _ _ _ c.loop-k._k _ _ c.loop-k.invariant.1 (omega arith)
