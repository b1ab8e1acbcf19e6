-- `configuration_fields::terminals_at` meets its contract: they begin in the content of a command that has them.
use mathlib.Core.Path.{sym, ◌∙◌}
use Rattle.ground_refusal.proofs.Exits.{passed_on}
use Rattle.configuration_fields.proofs.Answers.{inside, terminals_no, terminals_low, terminals_high, terminals_bad, terminals_is}
use native.Mathlib.Omega.{arith}
use Rattle.configuration_fields.proofs.terminals_at.Goals as goal

pub returns-then-tag-lt3 : goal.returns-then-tag-lt3
returns-then-tag-lt3 c = terminals_low _ _ _ _ (sym c.in_ok-tag.was ∙ c.command_tag.ensures) c.if-tag-lt3.true

pub returns-then-tag-gt7 : goal.returns-then-tag-gt7
returns-then-tag-gt7 c = terminals_high _ _ _ _ (sym c.in_ok-tag.was ∙ c.command_tag.ensures) c.if-tag-lt3.false c.if-tag-gt7.true

pub terminals_in-requires : goal.terminals_in-requires
terminals_in-requires c = let h = inside _ _ _ _ _ (sym c.in_ok-q.was ∙ c.content.ensures) in (omega (arith, h), omega arith, omega arith)

pub returns-in_err-tag : goal.returns-in_err-tag
returns-in_err-tag c = passed_on c.from_residual.ensures ∙ terminals_no _ _ _ (sym c.in_err-tag.was ∙ c.command_tag.ensures)

pub returns-in_err-q : goal.returns-in_err-q
returns-in_err-q c = passed_on c.from_residual-in_err-q.ensures ∙ terminals_bad _ _ _ _ (sym c.in_ok-tag.was ∙ c.command_tag.ensures) c.if-tag-lt3.false c.if-tag-gt7.false _
    (sym c.in_err-q.was ∙ c.content.ensures)

pub returns : goal.returns
returns c = c.terminals_in.ensures ∙ terminals_is _ _ _ _ (sym c.in_ok-tag.was ∙ c.command_tag.ensures) c.if-tag-lt3.false
    c.if-tag-gt7.false _ _ (sym c.in_ok-q.was ∙ c.content.ensures)
