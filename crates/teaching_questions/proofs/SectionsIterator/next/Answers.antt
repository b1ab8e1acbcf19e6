-- `teaching_questions::Sections::next` meets its contract: the first section of the table comes, and those after it are left.
use mathlib.Core.Path.{sym, ap, ◌∙◌}
use borrow.Author.Rules.{rules}
use lib.ListN.{length}
use Rattle.teaching_rows.proofs.Rows.{row_shorter}
use Rattle.teaching_questions.proofs.Walking.{sections_past, sections_next, sections_end}
use Rattle.teaching_questions.proofs.SectionsIterator.next.Goals as goal

pub returns-in-Some-section_of-clause-steps : goal.returns-in-Some-section_of-clause-steps
returns-in-Some-section_of-clause-steps c = sym c.loop-s.invariant ∙ sections_next _ c.in-Some.ensures _ c.in-Some-section_of.ensures

pub returns-in-Some-section_of-clause-goes : goal.returns-in-Some-section_of-clause-goes
returns-in-Some-section_of-clause-goes c =
    let shorter = ap length (sym c.loop-s.invariant ∙ sections_next _ c.in-Some.ensures _ c.in-Some-section_of.ensures) in search rules

pub loop-s-smaller : goal.loop-s-smaller
loop-s-smaller c = row_shorter c.in-Some.ensures

pub loop-s-preserved : goal.loop-s-preserved
loop-s-preserved c = sections_past _ c.in-Some.ensures c.in_default-section_of.ensures ∙ c.loop-s.invariant

pub returns-clause-steps : goal.returns-clause-steps
returns-clause-steps c = let none = sections_end c.loop-s.self.table _ c.in_default.ensures in (sym c.loop-s.invariant ∙ none, none)
