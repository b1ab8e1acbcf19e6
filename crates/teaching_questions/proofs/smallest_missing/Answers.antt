-- `teaching_questions::smallest_missing` meets its contract: the first missing number from k on is the first of all, as long as every one before k has come.
use Prim.Native.Nat.{◌+◌}
use mathlib.Core.Path.{◌≡◌, sym, ◌∙◌}
use native.Mathlib.Omega.{arith}
use Rattle.teaching_questions.proofs.Missing.{absent_found, absent_on, absent_end}
use Rattle.teaching_questions.proofs.smallest_missing.Goals as goal

pub returns-then-not-has_come : goal.returns-then-not-has_come
returns-then-not-has_come c =
    absent_found _ _ c.loop-k.k c.loop-k.invariant (omega arith) (sym c.has_come.ensures ∙ c.if-not-has_come.true)

pub loop-k-preserved : goal.loop-k-preserved
loop-k-preserved c = absent_on _ _ c.loop-k.k c.loop-k.invariant (omega arith) (sym c.has_come.ensures ∙ c.if-not-has_come.false)

pub returns : goal.returns
returns c = let e : c.args.t.last + 1 ≡ c.loop-k.k = omega arith in e ∙ absent_end _ _ c.loop-k.k c.loop-k.invariant (omega arith)
