-- `content_fields::part_wide` meets its contract: its data follow its type.
use mathlib.Core.Path.{sym, ◌∙◌}
use Rattle.ground_refusal.proofs.Exits.{passed_on}
use Rattle.content_fields.proofs.Answers.{file_no, after_type, file_is}
use Rattle.content_fields.proofs.Glance.{file_seen, part_at}
use native.Mathlib.Omega.{arith}
use Rattle.content_fields.proofs.part_wide.Goals as goal

pub overflow_add-at : goal.overflow_add-at
overflow_add-at c = let f = file_seen c.args.w c.args.s.now c.args.at c.args.n c.args.i _ c.file_place.ensures c.in-Some.is in omega (arith, f.inside, f.lies)

pub overflow_add-p : goal.overflow_add-p
overflow_add-p c = let f = file_seen c.args.w c.args.s.now c.args.at c.args.n c.args.i _ c.file_place.ensures c.in-Some.is in omega (arith, f.inside, f.lies)

pub returns-in-Some : goal.returns-in-Some
returns-in-Some c = let f = file_seen c.args.w c.args.s.now c.args.at c.args.n c.args.i _ c.file_place.ensures c.in-Some.is in
    c.read_part.ensures ∙ part_at _ _ (λ i. (c.type_inv.s i).fits) _ _ _ _ f

pub overflow_add-at-2 : goal.overflow_add-at-2
overflow_add-at-2 c = omega (arith, after_type _ _ _ _ _ _ _ (sym c.in_ok-_t.was ∙ c.type_walked.ensures))

pub returns-in_err-_t : goal.returns-in_err-_t
returns-in_err-_t c = passed_on c.from_residual.ensures ∙ file_no _ _ _ _ _ _ (sym c.in_err-_t.was ∙ c.type_walked.ensures)

pub returns : goal.returns
returns c = c.read_part-2.ensures ∙ file_is _ _ _ _ _ _ _ (sym c.in_ok-_t.was ∙ c.type_walked.ensures)
