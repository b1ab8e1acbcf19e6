-- `teaching_questions::section_of` meets its contract: it is what is heard, of the table's heading, with its payload cut out.
use mathlib.Core.List.{[], ◌∷◌}
use mathlib.Core.Path.{sym, ap, ◌∙◌}
use native.Mathlib.Omega.{arith}
use Rattle.teaching_questions.specs.Questions.{section}
use Rattle.teaching_questions.proofs.Saying.{said_section, nothing_section, other_section, own_section, payload_part}
use Rattle.teaching_questions.proofs.section_of.Goals as goal

pub returns-in_err-h : goal.returns-in_err-h
returns-in_err-h c = rw c.from_residual.ensures (nothing_section _ _ (sym c.hear.ensures ∙ c.in_err-h.was))

pub returns-then-not-same_table : goal.returns-then-not-same_table
returns-then-not-same_table c = let h = said_section _ _ (sym c.hear.ensures ∙ c.in_ok-h.was) in
    other_section _ _ _ h (sym c.same_table.ensures ∙ c.if-not-same_table.true)

pub overflow_sub-end : goal.overflow_sub-end
overflow_sub-end c = omega (arith, (said_section _ _ (sym c.hear.ensures ∙ c.in_ok-h.was)).long)

pub slice_bounds-result-count : goal.slice_bounds-result-count
slice_bounds-result-count c = omega (arith, (said_section _ _ (sym c.hear.ensures ∙ c.in_ok-h.was)).long)

pub slice_bounds-result-start : goal.slice_bounds-result-start
slice_bounds-result-start c = omega (arith, (said_section _ _ (sym c.hear.ensures ∙ c.in_ok-h.was)).long)

pub returns : goal.returns
returns c = let h = said_section _ _ (sym c.hear.ensures ∙ c.in_ok-h.was) in
    own_section _ _ _ h (sym c.same_table.ensures ∙ c.if-not-same_table.false) ∙ ap (λ p. section c.in_ok-h.h.number p ∷ []) (sym (payload_part c.args.s.now))
