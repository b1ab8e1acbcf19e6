-- `index_fields::type_part` meets its contract: it is asked for where the message lies in the body.
use Prim.Native.Nat.{◌+◌}
use mathlib.Core.Path.{sym, ap, ◌∙◌}
use Rattle.body_formats.specs.Answers.{field_part}
use Rattle.body_asking.proofs.Answers.{needed, not_needed}
use Rattle.index_fields.specs.Asked.{type_part}
use native.Mathlib.Omega.{arith}
use lib.ListN.{length}
use borrow.Author.Tests.{leb-true}
use Rattle.index_fields.proofs.type_part.Goals as goal

pub overflow_add-at : goal.overflow_add-at
overflow_add-at c = let a = c.args in omega (arith, leb-true (a.at + a.n) (length a.s.now) (sym c.in_body.ensures ∙ c.if-in_body.true))

pub overflow_add-at-then-in_body : goal.overflow_add-at-then-in_body
overflow_add-at-then-in_body c = let a = c.args in omega (arith, leb-true (a.at + a.n) (length a.s.now) (sym c.in_body.ensures ∙ c.if-in_body.true))

pub returns-then-in_body : goal.returns-then-in_body
returns-then-in_body c = unfold type_part in c.read_bytes.ensures ∙ ap (field_part _) (needed _ _ _ (sym c.in_body.ensures ∙ c.if-in_body.true))

pub returns : goal.returns
returns c = unfold type_part in ap (field_part _) (not_needed _ _ _ (sym c.in_body.ensures ∙ c.if-in_body.false))
