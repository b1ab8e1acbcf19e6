-- `content_fields::text` meets its contract: it is asked for where the language lies in the body.
use Prim.Native.Nat.{◌+◌}
use mathlib.Core.Path.{sym, ap, ◌∙◌}
use Rattle.body_formats.specs.Answers.{part_of, part_read}
use Rattle.body_asking.proofs.Answers.{needed, not_needed}
use Rattle.content_fields.specs.Asked.{text_in, text_part}
use native.Mathlib.Omega.{arith}
use lib.ListN.{length}
use borrow.Author.Tests.{leb-true}
use Rattle.content_fields.proofs.text.Goals as goal

pub overflow_add-at : goal.overflow_add-at
overflow_add-at c = let a = c.args in
    omega (arith, leb-true (a.at + a.n) (length a.s.now) (sym c.in_body.ensures ∙ c.if-in_body.true))

pub overflow_add-at-then-in_body : goal.overflow_add-at-then-in_body
overflow_add-at-then-in_body c = let a = c.args in
    omega (arith, leb-true (a.at + a.n) (length a.s.now) (sym c.in_body.ensures ∙ c.if-in_body.true))

pub returns-then-in_body : goal.returns-then-in_body
returns-then-in_body c = unfold text_part text_in part_read in c.read_part.ensures ∙ ap part_of
    (needed _ _ _ (sym c.in_body.ensures ∙ c.if-in_body.true))

pub returns : goal.returns
returns c = unfold text_part text_in in ap part_of (not_needed _ _ _ (sym c.in_body.ensures ∙ c.if-in_body.false))
