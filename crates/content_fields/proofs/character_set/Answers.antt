-- `content_fields::character_set` meets its contract: it is asked for where the language lies in the body.
use Prim.Native.Nat.{◌+◌}
use mathlib.Core.Path.{sym, ap, ◌∙◌}
use Rattle.body_formats.specs.Answers.{number_of}
use Rattle.body_asking.proofs.Answers.{needed, not_needed}
use Rattle.content_fields.specs.Asked.{character_set}
use native.Mathlib.Omega.{arith}
use lib.ListN.{length}
use borrow.Author.Tests.{leb-true}
use Rattle.content_fields.proofs.character_set.Goals as goal

pub overflow_add-at : goal.overflow_add-at
overflow_add-at c = let a = c.args in
    omega (arith, leb-true (a.at + a.n) (length a.s.now) (sym c.in_body.ensures ∙ c.if-in_body.true))

pub overflow_add-at-then-in_body : goal.overflow_add-at-then-in_body
overflow_add-at-then-in_body c = let a = c.args in
    omega (arith, leb-true (a.at + a.n) (length a.s.now) (sym c.in_body.ensures ∙ c.if-in_body.true))

pub returns-then-in_body : goal.returns-then-in_body
returns-then-in_body c = unfold character_set in c.number_among.ensures ∙ ap number_of (needed _ _ _ (sym c.in_body.ensures ∙ c.if-in_body.true))

pub returns : goal.returns
returns c = unfold character_set in ap number_of (not_needed _ _ _ (sym c.in_body.ensures ∙ c.if-in_body.false))
