-- `body_glance::good_resource` meets its contract: the first byte has the reserved bits and a digit, and two windows of eight cover the eleven others.
use Prim.Native.Nat.{◌+◌}
use mathlib.Core.Path.{sym, ◌∙◌}
use native.Mathlib.Omega.{arith}
use Rattle.body_digits.proofs.Digits.{eleven}
use Rattle.body_glance.proofs.Leaves.{not_good, digits_good}
use Rattle.body_glance.proofs.good_resource.Goals as goal

pub returns-then-head-lt240 : goal.returns-then-head-lt240
returns-then-head-lt240 c = not_good

pub returns-then-head-gt249 : goal.returns-then-head-gt249
returns-then-head-gt249 c = not_good

pub returns-then-not-eight : goal.returns-then-not-eight
returns-then-not-eight c = not_good

pub returns : goal.returns
returns c e = let given = c.args in
    digits_good _ _ 11 (omega arith) (omega arith) (omega arith)
    (eleven given.s.now (given.p + 1) (given.p + 4) (omega arith)
    (sym c.eight.ensures ∙ c.if-not-eight.false) (sym c.eight-2.ensures ∙ e))
