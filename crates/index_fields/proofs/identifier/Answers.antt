-- `index_fields::identifier` meets its contract: it begins the message, and is asked for where the message lies in the body.
use Prim.Native.Nat.{◌+◌}
use mathlib.Core.Path.{sym, ap, ◌∙◌}
use Rattle.body_formats.specs.Answers.{field_part}
use Rattle.body_asking.proofs.Answers.{needed, not_needed}
use Rattle.index_fields.specs.Asked.{identifier_part}
use native.Mathlib.Omega.{arith}
use lib.ListN.{length}
use borrow.Author.Tests.{leb-true}
use Rattle.index_fields.proofs.identifier.Goals as goal

pub overflow_add-at : goal.overflow_add-at
overflow_add-at c = let a = c.args in omega (arith, leb-true (a.at + a.n) (length a.s.now) (sym c.in_body.ensures ∙ c.if-in_body.true))

pub returns-then-in_body : goal.returns-then-in_body
returns-then-in_body c = unfold identifier_part in c.read_identifier.ensures ∙ ap (field_part _) (needed _ _ _ (sym c.in_body.ensures ∙ c.if-in_body.true))

pub returns : goal.returns
returns c = unfold identifier_part in ap (field_part _) (not_needed _ _ _ (sym c.in_body.ensures ∙ c.if-in_body.false))
