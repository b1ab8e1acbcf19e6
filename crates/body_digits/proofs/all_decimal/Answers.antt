-- `body_digits::all_decimal` meets its contract: the bytes so far pass, and the last eight decide; which of them were tested before does not matter.
use Prim.Native.Nat.{◌-◌, ◌≤◌}
use mathlib.Core.Path.{◌≡◌, refl, sym, ◌∙◌}
use mathlib.Core.Bool.{true}
use native.Mathlib.Omega.{arith}
use borrow.Author.Tests.{not-true, not-false}
use Rattle.body_formats.specs.Format.{halves, decimal}
use Rattle.body_digits.proofs.Digits.{digits_fail, digits_further, digits_last}
use Rattle.body_digits.proofs.all_decimal.Goals as goal

pub loop-j-init : goal.loop-j-init
unfolding decimal halves
loop-j-init c = (omega arith, refl)

pub overflow_sub-n : goal.overflow_sub-n
unfolding decimal halves
overflow_sub-n c = omega arith

pub overflow_add-p : goal.overflow_add-p
unfolding decimal halves
overflow_add-p c = omega arith

pub eight-requires : goal.eight-requires
unfolding decimal halves
eight-requires c = omega arith

pub returns-then-not-eight : goal.returns-then-not-eight
unfolding decimal halves
returns-then-not-eight c = let given = c.args in
    let v = c.loop-j in
    sym (digits_fail given.s.now given.p given.n v.j v.invariant.1 8 (omega arith) (sym c.eight.ensures ∙ not-true _ c.if-not-eight.true-raw))

pub overflow_add-j : goal.overflow_add-j
unfolding decimal halves
overflow_add-j c = omega arith

pub loop-j-smaller : goal.loop-j-smaller
unfolding decimal halves
loop-j-smaller c = omega arith

pub loop-j-preserved : goal.loop-j-preserved
unfolding decimal halves
loop-j-preserved c = let given = c.args in
    let v = c.loop-j in
    (omega arith, digits_further given.s.now given.p given.n v.j v.invariant.1 8 (sym c.eight.ensures ∙ not-false _ c.if-not-eight.false-raw))

pub overflow_add-p-then-n-ge8 : goal.overflow_add-p-then-n-ge8
unfolding decimal halves
overflow_add-p-then-n-ge8 c = omega arith

pub eight-requires-then-n-ge8 : goal.eight-requires-then-n-ge8
unfolding decimal halves
eight-requires-then-n-ge8 c = omega arith

pub returns-then-n-ge8 : goal.returns-then-n-ge8
unfolding decimal halves
returns-then-n-ge8 c = let given = c.args in
    let v = c.loop-j in
    c.eight-then-n-ge8.ensures ∙ digits_last given.s.now given.p given.n v.j v.invariant.1 8 (omega arith) (omega arith)

pub by_bytes-requires : goal.by_bytes-requires
unfolding decimal halves
by_bytes-requires c = omega arith

pub returns : goal.returns
unfolding decimal halves
returns c = c.by_bytes.ensures
