-- `configuration_fields::among_in` meets its contract: it stands so many bytes into the content, and is judged there.
use mathlib.Core.Path.{sym, ap, ◌∙◌}
use Rattle.ground_refusal.proofs.Exits.{passed_on}
use Rattle.body_formats.specs.Format.{number, among}
use Rattle.body_formats.specs.Answers.{number_of, number_among}
use Rattle.configuration_fields.proofs.Answers.{in_command_no, in_command_lem, among_read, inside}
use native.Mathlib.Omega.{arith}
use Rattle.configuration_fields.proofs.among_in.Goals as goal

pub overflow_add-q : goal.overflow_add-q
overflow_add-q c = omega (arith, inside _ _ _ _ _ (sym c.in_ok-q.was ∙ c.content.ensures))

pub overflow_add-q-2 : goal.overflow_add-q-2
overflow_add-q-2 c = omega (arith, inside _ _ _ _ _ (sym c.in_ok-q.was ∙ c.content.ensures))

pub returns-in_err-q : goal.returns-in_err-q
returns-in_err-q c = passed_on c.from_residual.ensures ∙ let a = c.args in
    ap number_of (in_command_no (among a.lo a.hi (number 1)) _ _ _ _ _ (sym c.in_err-q.was ∙ c.content.ensures))

pub returns : goal.returns
returns c = let a = c.args in
    c.among.ensures ∙ ap (number_among a.lo a.hi _) c.read_number.ensures ∙ among_read _ (λ i. (c.type_inv.s i).fits)
    a.lo a.hi _ _ ∙ ap number_of (in_command_lem (among a.lo a.hi (number 1)) _ _ _ _ _ _ (sym c.in_ok-q.was ∙ c.content.ensures))
