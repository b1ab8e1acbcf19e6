-- `index_fields::identifier_digit` meets its contract: the identifier begins the message, and is asked for where the message lies in the body.
use Prim.Native.Nat.{◌+◌}
use mathlib.Core.Path.{sym, ◌∙◌}
use Rattle.index_fields.proofs.Answers.{identifier_digit_no, identifier_digit_is}
use native.Mathlib.Omega.{arith}
use lib.ListN.{length}
use borrow.Author.Tests.{leb-true}
use Rattle.index_fields.proofs.identifier_digit.Goals as goal

pub overflow_add-at : goal.overflow_add-at
overflow_add-at c = let a = c.args in omega (arith, leb-true (a.at + a.n) (length a.s.now) (sym c.in_body.ensures ∙ c.if-in_body.true))

pub returns-then-in_body : goal.returns-then-in_body
returns-then-in_body c = c.identifier_digit_at.ensures ∙ identifier_digit_is _ _ _ _ (sym c.in_body.ensures ∙ c.if-in_body.true)

pub returns : goal.returns
returns c = identifier_digit_no _ _ _ _ (sym c.in_body.ensures ∙ c.if-in_body.false)
