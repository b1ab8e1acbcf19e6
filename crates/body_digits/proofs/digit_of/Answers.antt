-- `body_digits::digit_of` meets its contract: two digits stand in each byte after the first, which has one.
use Prim.Native.Nat.{◌/◌, ◌%◌}
use mathlib.Core.Path.{refl, ap}
use Rattle.body_formats.proofs.Strings.{digit_none, digit_low, digit_high}
use native.Mathlib.Omega.{arith}
use Rattle.body_digits.proofs.digit_of.Goals as goal

pub returns-then-n-k : goal.returns-then-n-k
returns-then-n-k c = let given = c.args in
    digit_none given.s.now given.p given.n (omega arith) _ (omega arith)

pub returns-then-i-eq0 : goal.returns-then-i-eq0
returns-then-i-eq0 c = let given = c.args in
    digit_low given.s.now given.p given.n (omega arith) _ (omega arith) _ _ refl (omega arith)
    (ap (λ x. x % 16) c.wide-b.ensures.0)

pub returns : goal.returns
returns c = let given = c.args in
    digit_high given.s.now given.p given.n (omega arith) _ (omega arith) _ _ refl c.if-i-eq0.false
    (ap (λ x. x / 16) c.wide-b.ensures.0)
