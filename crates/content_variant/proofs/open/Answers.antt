-- `content_variant::open` meets its contract: the kind first, and of a body that is too long the variant's refusal before its own.
use mathlib.Core.Path.{sym, ◌∙◌}
use native.Mathlib.Omega.{arith}
use borrow.Author.Rules.{rules}
use Rattle.ground_refusal.proofs.Exits.{passed_on}
use Rattle.content_variant.proofs.Variant.{other_kind, short_enough, no_variant, too_large}
use Rattle.content_variant.proofs.open.Goals as goal

pub returns-then-kind-ne-CONTENT_KIND : goal.returns-then-kind-ne-CONTENT_KIND
returns-then-kind-ne-CONTENT_KIND c = other_kind _ _ _ (omega arith)

pub returns-in_err-w : goal.returns-in_err-w
returns-in_err-w c = passed_on c.from_residual.ensures ∙ no_variant _ _ _ (omega arith) _ (sym c.in_err-w.was ∙ c.width_of.ensures)

pub returns-then-s-gt-BODY_MOST : goal.returns-then-s-gt-BODY_MOST
returns-then-s-gt-BODY_MOST c = too_large _ _ _ (omega arith) _ (sym c.in_ok-w.was ∙ c.width_of.ensures) (omega arith)

pub returns : goal.returns
returns c = sym c.in_ok-w.was ∙ c.width_of.ensures ∙ short_enough _ _ _ (omega arith) (omega arith)
