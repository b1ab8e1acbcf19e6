-- `program_date_lines::put_field` meets its contract: the weekday's answer says which of the two texts is put, part after part.
use Prim.Native.Nat.{◌+◌, ◌≤◌}
use mathlib.Core.List.{◌++◌}
use mathlib.Core.Path.{◌≡◌, sym, ap, ◌∙◌}
use native.Mathlib.Omega.{arith}
use borrow.Author.Rules.{rules}
use lib.ListN.{length}
use Rattle.program_printing.specs.Characters.{ascii, hex_of, decimal_of, refused_text}
use Rattle.program_date_lines.specs.Report.{day_text, field_text}
use Rattle.program_printing.proofs.Digits.{digits_length}
use Rattle.ground_placing.proofs.Putting.{room_first, put_room, put_then}
use Rattle.program_date_lines.proofs.put_field.Statement.{statement}
use Rattle.program_date_lines.proofs.put_field.Tie as tie

-- where the function began, from each of these places on
begun_day : tie.In-Ok → tie.Start
begun_day c = search

begun_r : tie.In-Err → tie.Start
begun_r c = search

day_text_lem : (c : tie.In-Ok) → let start = begun_day c in field_text start.args.field
    ≡ hex_of 10 start.args.field ++ (ascii " " ++ decimal_of c.in-Ok.day)
unfolding field_text begun_day
day_text_lem c =
    let start = begun_day c in
    ap (day_text start.args.field) (sym c.before.weekday.ensures ∙ c.in-Ok.is)

day_room : (c : tie.In-Ok) → let start = begun_day c in start.args.at
    + length (hex_of 10 start.args.field ++ (ascii " " ++ decimal_of c.in-Ok.day))
    ≤ length start.args.out.now
unfolding begun_day
day_room c = let start = begun_day c in rw (day_text_lem c) at start.requires.1

refused_text_lem : (c : tie.In-Err) → let start = begun_r c in field_text start.args.field ≡ refused_text c.in-Err.r
unfolding field_text begun_r
refused_text_lem c =
    let start = begun_r c in
    ap (day_text start.args.field) (sym c.before.weekday.ensures ∙ c.in-Err.is)

pub put_field_spec : {M : Type 1} → statement M
unfolding begun_day begun_r
put_field_spec =
    tie.close
    (tie.spec
    (λ c. search rules)
    (λ c κs. search rules)
    (λ c. search rules)
    (λ c κs. let start : tie.Start = search in let day : tie.In-Ok = search in let a = start.args in
    omega (
      arith,
      digits_length 16 10 a.field,
      room_first a.at (hex_of 10 a.field) (ascii " " ++ decimal_of day.in-Ok.day) (day_room day),
    ))
    (λ c κs. let digits : tie.After-put_digits-digits = search in let day : tie.In-Ok = search in
    room_first digits.put_digits-digits.result (ascii " ") (decimal_of day.in-Ok.day)
    (put_room (ascii " " ++ decimal_of day.in-Ok.day) digits.put_digits-digits.ensures (day_room day)))
    (λ c. search rules)
    (λ c κs. let space : tie.After-put_bytes-space = search in let digits : tie.After-put_digits-digits = search in let day : tie.In-Ok = search in
    put_room (decimal_of day.in-Ok.day) space.put_bytes-space.ensures
    (put_room (ascii " " ++ decimal_of day.in-Ok.day) digits.put_digits-digits.ensures (day_room day)))
    (λ c. search rules)
    (λ c κs. let start : tie.Start = search in let refused : tie.In-Err = search in
    rw (refused_text_lem refused) at start.requires.1)
    (λ c. search rules)
    (λ c. let weekday : tie.After-put_decimal = search in let space : tie.After-put_bytes-space = search in
    let digits : tie.After-put_digits-digits = search in
    rw (day_text_lem (search))
    (put_then digits.put_digits-digits.ensures (put_then space.put_bytes-space.ensures weekday.put_decimal.ensures)))
    (λ c. search rules)
    (λ c. let put : tie.After-put_refused = search in rw (refused_text_lem (search)) put.put_refused.ensures))
