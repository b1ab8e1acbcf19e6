-- `index_fields::extension` meets its contract: the identifier begins the message, and is asked for where the message lies in the body.
use Prim.Native.Nat.{◌+◌}
use mathlib.Core.Path.{sym, ◌∙◌}
use Rattle.index_fields.proofs.Answers.{extension_no, extension_is}
use native.Mathlib.Omega.{arith}
use lib.ListN.{length}
use borrow.Author.Tests.{leb-true}
use Rattle.index_fields.proofs.extension.Goals as goal

pub overflow_add-at : goal.overflow_add-at
overflow_add-at c = let a = c.args in omega (arith, leb-true (a.at + a.n) (length a.s.now) (sym c.in_body.ensures ∙ c.if-in_body.true))

pub extension_at-requires : goal.extension_at-requires
extension_at-requires c = let a = c.args in omega (arith, leb-true (a.at + a.n) (length a.s.now) (sym c.in_body.ensures ∙ c.if-in_body.true))

pub returns-then-in_body : goal.returns-then-in_body
returns-then-in_body c = c.extension_at.ensures ∙ extension_is _ _ _ (sym c.in_body.ensures ∙ c.if-in_body.true)

pub returns : goal.returns
returns c = extension_no _ _ _ (sym c.in_body.ensures ∙ c.if-in_body.false)
