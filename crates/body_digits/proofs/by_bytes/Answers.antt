-- `body_digits::by_bytes` meets its contract: the bytes so far pass.
use Prim.Native.Nat.{◌-◌, ◌≤◌}
use mathlib.Core.Path.{◌≡◌, refl, sym, ◌∙◌}
use mathlib.Core.Bool.{true}
use native.Mathlib.Omega.{arith}
use borrow.Author.Tests.{not-true, not-false}
use Rattle.body_formats.specs.Format.{halves, decimal}
use Rattle.body_digits.proofs.Digits.{digits_fail, digits_further}
use Rattle.body_digits.proofs.by_bytes.Goals as goal

pub loop-k-init : goal.loop-k-init
unfolding decimal halves
loop-k-init c = refl

pub returns-then-not-one : goal.returns-then-not-one
unfolding decimal halves
returns-then-not-one c = let given = c.args in
    let v = c.loop-k in
    sym (digits_fail given.s.now given.p given.n v.k v.invariant 1 (omega arith) (sym c.one.ensures ∙ not-true _ c.if-not-one.true-raw))

pub loop-k-preserved : goal.loop-k-preserved
unfolding decimal halves
loop-k-preserved c = let given = c.args in
    let v = c.loop-k in
    digits_further given.s.now given.p given.n v.k v.invariant 1 (sym c.one.ensures ∙ not-false _ c.if-not-one.false-raw)

pub returns : goal.returns
unfolding decimal halves
returns c = let given = c.args in
    let v = c.loop-k in
    let e : v.k ≡ given.n = omega arith in
    sym (rw e at v.invariant)
