-- `program_value_lines::put_answer` meets its contract: each case's text is put, part after part.
use Prim.Native.Nat.{◌+◌, ◌≤◌}
use mathlib.Core.List.{◌++◌}
use mathlib.Core.Path.{◌≡◌, ap}
use native.Mathlib.Omega.{arith}
use borrow.Author.Rules.{rules}
use lib.ListN.{length}
use Rattle.ground_refusal.specs.Numbers.{refusal_place}
use Rattle.program_printing.specs.Characters.{ascii, hex_of, decimal_of, refused_text}
use Rattle.program_printing.proofs.Digits.{digits_length}
use Rattle.ground_placing.proofs.Putting.{room_first, put_room, put_then}
use Rattle.program_value_lines.specs.Report.{value_text}
use Rattle.program_value_lines.proofs.put_answer.Statement.{statement}
use Rattle.program_value_lines.proofs.put_answer.Tie as tie

accepted_text : (c : tie.In-Accepted) → value_text c.before.before.args.answer ≡ ascii "accepted"
unfolding value_text
accepted_text c = ap value_text c.in-Accepted.is

field_text_lem : (c : tie.In-Field) → value_text c.before.before.args.answer ≡ hex_of 10 c.in-Field.field
unfolding value_text
field_text_lem c = ap value_text c.in-Field.is

refused_text_lem : (c : tie.In-Refused) → value_text c.before.before.args.answer ≡ refused_text c.in-Refused.r
unfolding value_text
refused_text_lem c = ap value_text c.in-Refused.is

placed_text : (c : tie.In-RefusedAt) → value_text c.before.before.args.answer
    ≡ refused_text c.in-RefusedAt.r ++ (ascii " at " ++ decimal_of (refusal_place c.in-RefusedAt.r))
unfolding value_text
placed_text c = ap value_text c.in-RefusedAt.is

placed_room : (c : tie.In-RefusedAt) → c.before.before.args.at
    + length (refused_text c.in-RefusedAt.r ++ (ascii " at " ++ decimal_of (refusal_place c.in-RefusedAt.r)))
    ≤ length c.before.before.args.out.now
placed_room c = rw (placed_text c) at c.before.before.requires

pub put_answer_spec : {M : Type 1} → statement M
put_answer_spec =
    tie.close
    (tie.spec
    (λ c. search rules)
    (λ c κs. let told : tie.In-Accepted = search in rw (accepted_text told) at told.before.before.requires)
    (λ c. search rules)
    (λ c κs. let field : tie.In-Field = search in
    let room = rw (field_text_lem field) at field.before.before.requires in
    omega (arith, digits_length 16 10 field.in-Field.field, room))
    (λ c. search rules)
    (λ c κs. let refused : tie.In-Refused = search in rw (refused_text_lem refused) at refused.before.before.requires)
    (λ c. search rules)
    (λ c κs. let placed : tie.In-RefusedAt = search in
    let r = placed.in-RefusedAt.r in
    room_first placed.before.before.args.at (refused_text r) (ascii " at " ++ decimal_of (refusal_place r)) (placed_room placed))
    (λ c κs. let refused : tie.After-put_refused-refused = search in let placed : tie.In-RefusedAt = search in
    let place = decimal_of (refusal_place placed.in-RefusedAt.r) in
    room_first refused.put_refused-refused.result (ascii " at ") place
    (put_room (ascii " at " ++ place) refused.put_refused-refused.ensures (placed_room placed)))
    (λ c κs. search rules)
    (λ c κs. let word : tie.After-put_bytes-word = search in let refused : tie.After-put_refused-refused = search in
    let placed : tie.In-RefusedAt = search in
    let place = decimal_of (refusal_place placed.in-RefusedAt.r) in
    rw c.place.ensures
    (put_room place word.put_bytes-word.ensures
    (put_room (ascii " at " ++ place) refused.put_refused-refused.ensures (placed_room placed))))
    (λ c. search rules)
    (λ c. let put : tie.After-put_bytes = search in rw (accepted_text (search)) put.put_bytes.ensures)
    (λ c. search rules)
    (λ c. let put : tie.After-put_digits = search in rw (field_text_lem (search)) put.put_digits.ensures)
    (λ c. search rules)
    (λ c. let put : tie.After-put_refused = search in rw (refused_text_lem (search)) put.put_refused.ensures)
    (λ c. search rules)
    (λ c. let place : tie.After-put_decimal = search in let word : tie.After-put_bytes-word = search in
    let refused : tie.After-put_refused-refused = search in
    rw (placed_text (search))
    (put_then refused.put_refused-refused.ensures
    (put_then word.put_bytes-word.ensures (rw place.before.place.ensures at place.put_decimal.ensures)))))
