-- `program_section_line::judged` meets its contract: the definition's test is the code's.
use mathlib.Core.Path.{sym, ◌∙◌}
use borrow.Author.Rules.{rules}
use Rattle.program_section_line.proofs.Bounds.{judged_within, judged_over}
use Rattle.program_section_line.proofs.judged.Goals as goal

pub returns-then-input-gt-MOST_INPUT : goal.returns-then-input-gt-MOST_INPUT
returns-then-input-gt-MOST_INPUT c = sym (judged_over _ c.if-input-gt-MOST_INPUT.true)

pub returns : goal.returns
returns c = c.read_section.ensures ∙ sym (judged_within _ c.if-input-gt-MOST_INPUT.false)
