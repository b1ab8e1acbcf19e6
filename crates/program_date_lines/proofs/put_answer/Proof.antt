-- `program_date_lines::put_answer` meets its contract: what is put is what stands for the text reader's answer.
use mathlib.Core.Path.{◌≡◌, sym, ap, ◌∙◌}
use native.Mathlib.Omega.{arith}
use borrow.Author.Rules.{rules}
use Rattle.program_date_lines.proofs.Text.{text_day}
use Rattle.program_printing.specs.Characters.{refused_text}
use Rattle.program_date_lines.specs.Report.{time_answered, time_text, field_text}
use Rattle.program_date_lines.proofs.put_answer.Statement.{statement}
use Rattle.program_date_lines.proofs.put_answer.Tie as tie

-- where the function began, from each of these places on
begun_field : tie.In-Ok → tie.Start
begun_field c = search

begun_r : tie.In-Err → tie.Start
begun_r c = search

field_text_lem : (c : tie.In-Ok) → let start = begun_field c in time_answered start.args.text.now ≡ field_text c.in-Ok.field
unfolding time_answered begun_field
field_text_lem c = ap time_text (sym c.before.read_text.ensures ∙ c.in-Ok.is)

refused_text_lem : (c : tie.In-Err) → let start = begun_r c in time_answered start.args.text.now ≡ refused_text c.in-Err.r
unfolding time_answered begun_r
refused_text_lem c = ap time_text (sym c.before.read_text.ensures ∙ c.in-Err.is)

pub put_answer_spec : {M : Type 1} → statement M
unfolding begun_field begun_r
put_answer_spec =
    tie.close
    (tie.spec
    (λ c κs. search rules)
    (λ c. search rules)
    (λ c κs. let field : tie.In-Ok = search in
    let start : tie.Start = search in (
      omega (arith, text_day start.args.text.now (sym field.before.read_text.ensures ∙ field.in-Ok.is)),
      rw (field_text_lem field) at start.requires,
    ))
    (λ c. search rules)
    (λ c κs. let start : tie.Start = search in let refused : tie.In-Err = search in
    rw (refused_text_lem refused) at start.requires)
    (λ c. search rules)
    (λ c. let put : tie.After-put_field = search in rw (field_text_lem (search)) put.put_field.ensures)
    (λ c. search rules)
    (λ c. let put : tie.After-put_refused = search in rw (refused_text_lem (search)) put.put_refused.ensures))
