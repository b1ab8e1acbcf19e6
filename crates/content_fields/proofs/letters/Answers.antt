-- `content_fields::letters` meets its contract: they begin the language, and are asked for where it lies in the body.
use Prim.Native.Nat.{◌+◌}
use mathlib.Core.Path.{sym, ap, ◌∙◌}
use Rattle.body_formats.specs.Answers.{field_part}
use Rattle.body_asking.proofs.Answers.{needed, not_needed}
use Rattle.content_fields.specs.Asked.{letters_part}
use native.Mathlib.Omega.{arith}
use lib.ListN.{length}
use borrow.Author.Tests.{leb-true}
use Rattle.content_fields.proofs.letters.Goals as goal

pub overflow_add-at : goal.overflow_add-at
overflow_add-at c = let a = c.args in
    omega (arith, leb-true (a.at + a.n) (length a.s.now) (sym c.in_body.ensures ∙ c.if-in_body.true))

pub returns-then-in_body : goal.returns-then-in_body
returns-then-in_body c = unfold letters_part in c.read_bytes.ensures ∙ ap (field_part _) (needed _ _ _ (sym c.in_body.ensures ∙ c.if-in_body.true))

pub returns : goal.returns
returns c = unfold letters_part in ap (field_part _) (not_needed _ _ _ (sym c.in_body.ensures ∙ c.if-in_body.false))
