-- `body_form_glance::good_digits` meets its contract: the span has the field's length and lies in the pool, its first byte has a digit, and the others have
use Prim.Native.Nat.{◌+◌, ◌≤◌}
use mathlib.Core.Path.{refl, sym, ◌∙◌}
use lib.ListN.{length, get_or}
use native.Mathlib.Omega.{arith}
use borrow.Author.Rules.{rules}
use borrow.Author.Tests.{leb-true}
use Rattle.ground_choices.proofs.Tests.{met}
use Rattle.body_form_glance.proofs.Forms.{not_good, lays_to, lays_digits}
use Rattle.body_form_glance.proofs.good_digits.Statement.{statement}
use Rattle.body_form_glance.proofs.good_digits.Tie as tie

begun : tie.Else-not-good_span → tie.Start
begun c = search

-- the span lies in the pool
inside : (c : tie.Else-not-good_span) → let given = (begun c).args in
    get_or given.tape.now given.k 0 + get_or given.tape.now (given.k + 1) 0 ≤ length given.pool.now
unfolding begun
inside c = leb-true _ _ (met _ c.before.good_span.ensures c.if-not-good_span.false-raw)

pub good_digits_spec : {M : Type 1} → statement M
unfolding begun
good_digits_spec =
    tie.close
    (tie.spec
    (λ c. search rules)
    (λ c. search rules)
    (λ c. search rules)
    (λ c. search rules)
    (λ c. not_good)
    (λ c κs. search rules)
    (λ c. not_good)
    (λ c. search rules)
    (λ c. search rules)
    (λ c. let placed : tie.Else-not-good_span = search in omega (arith, inside placed))
    (λ c. not_good)
    (λ c. let placed : tie.Else-not-good_span = search in omega (arith, inside placed))
    (λ c κs. let placed : tie.Else-not-good_span = search in omega (arith, inside placed))
    (λ c e. let placed : tie.Else-not-good_span = search in
    let given = (begun placed).args in (
      _,
      lays_to refl (omega arith) (lays_digits given.pool.now given.tape.now given.k refl refl (omega arith) (inside placed) given.h (omega arith)
          c.before.if-pool-a-gt9.false (sym c.all_decimal.ensures ∙ e)),
    )))
