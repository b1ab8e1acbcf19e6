-- `index_stream_fields::first_byte` meets its contract: it is asked for where the part lies in the body and has a byte, and is not refused for its value.
use mathlib.Core.Path.{sym, ap, ◌∙◌}
use Rattle.body_formats.specs.Answers.{number_of, number_read}
use native.Mathlib.Omega.{arith}
use Rattle.body_asking.proofs.Answers.{count_number, needed, not_needed, in_part_lem}
use Rattle.index_stream_fields.specs.Asked.{first_byte}
use Rattle.index_stream_fields.proofs.first_byte.Goals as goal

pub overflow_add-at : goal.overflow_add-at
overflow_add-at c = let a = c.args in
    omega (arith, in_part_lem a.s.now a.at a.n (sym c.in_part.ensures ∙ c.if-in_part.true))

pub returns-then-in_part : goal.returns-then-in_part
returns-then-in_part c = unfold number_read first_byte in
    c.read_number.ensures ∙ count_number 1 _ _ _ (λ i. (c.type_inv.s i).fits)
    ∙ ap number_of (needed _ _ _ (sym c.in_part.ensures ∙ c.if-in_part.true))

pub returns : goal.returns
returns c = unfold first_byte in ap number_of (not_needed _ _ _ (sym c.in_part.ensures ∙ c.if-in_part.false))
