-- `program_salvage_lines::put_line` meets its contract: no bytes have no line, and else its word and two numbers are put one after the other.
use Prim.Native.Nat.{◌+◌, ◌≤◌}
use mathlib.Core.List.{[], ◌++◌}
use mathlib.Core.Path.{◌≡◌, refl}
use native.Mathlib.Omega.{arith}
use borrow.Author.Rules.{rules}
use lib.ListN.{length}
use Rattle.ground_placing.proofs.Putting.{put_none, room_first}
use Rattle.salvage.proofs.Writing.{Writing, writing_starts, writing_room, writing_goes, writing_ends}
use Rattle.program_printing.specs.Characters.{ascii, decimal_of}
use Rattle.program_salvage_lines.specs.Report.{word_of}
use Rattle.program_salvage_lines.proofs.Lines.{line_none, line_some, after_space, after_first, after_word}
use Rattle.program_salvage_lines.proofs.put_line.Statement.{statement}
use Rattle.program_salvage_lines.proofs.put_line.Tie as tie

-- the whole line has room
room : (c : tie.Else-size-eq0) → let a = c.before.before.args in
    a.at + length (word_of a.kept ++ after_word a.first a.size) ≤ length a.out.now
room c = let a = c.before.before.args in rw (line_some a.kept a.first a.size c.if-size-eq0.false) at c.before.before.requires

-- where the function began, from each of these places on
begun_put_bytes : tie.After-put_bytes-space → tie.Start
begun_put_bytes c = search

begun_put_decimal : tie.After-put_decimal-offset → tie.Start
begun_put_decimal c = search

begun_put_decimal2 : tie.After-put_decimal-length → tie.Start
begun_put_decimal2 c = search

begun_put_word : tie.After-put_word-word → tie.Start
begun_put_word c = search

-- what is left of it after each part
after_word_lem : (c : tie.After-put_word-word) → let a = (begun_put_word c).args in
    Writing a.out.now a.at c.put_word-word.new.out c.put_word-word.result (after_word a.first a.size)
    (word_of a.kept ++ after_word a.first a.size)
unfolding begun_put_word
after_word_lem c =
    let a = (begun_put_word c).args in
    let r = room (search) in
    writing_goes (word_of a.kept) (after_word a.first a.size) (writing_starts _ _ _ (omega arith)) refl c.put_word-word.ensures

after_first_lem : (c : tie.After-put_decimal-offset) → let a = (begun_put_decimal c).args in
    Writing a.out.now a.at c.put_decimal-offset.new.out c.put_decimal-offset.result (after_first a.size)
    (word_of a.kept ++ after_word a.first a.size)
unfolding begun_put_decimal begun_put_word
after_first_lem c =
    let word : tie.After-put_word-word = search in
    let a = (begun_put_decimal c).args in
    writing_goes (decimal_of a.first) (after_first a.size) (after_word_lem word) refl c.put_decimal-offset.ensures

after_space_lem : (c : tie.After-put_bytes-space) → let a = (begun_put_bytes c).args in
    Writing a.out.now a.at c.put_bytes-space.new.out c.put_bytes-space.result (after_space a.size)
    (word_of a.kept ++ after_word a.first a.size)
unfolding begun_put_bytes begun_put_decimal
after_space_lem c =
    let first : tie.After-put_decimal-offset = search in
    let a = (begun_put_bytes c).args in
    writing_goes (ascii " ") (after_space a.size) (after_first_lem first) refl c.put_bytes-space.ensures

after_size : (c : tie.After-put_decimal-length) → let a = (begun_put_decimal2 c).args in
    Writing a.out.now a.at c.put_decimal-length.new.out c.put_decimal-length.result (ascii "\n") (word_of a.kept ++ after_word a.first a.size)
unfolding begun_put_bytes begun_put_decimal2
after_size c =
    let space : tie.After-put_bytes-space = search in
    let a = (begun_put_decimal2 c).args in
    writing_goes (decimal_of a.size) (ascii "\n") (after_space_lem space) refl c.put_decimal-length.ensures

pub put_line_spec : {M : Type 1} → statement M
unfolding begun_put_word begun_put_decimal begun_put_bytes begun_put_decimal2
put_line_spec =
    tie.close
    (tie.spec
    (λ c. let start : tie.Start = search in
    rw (line_none start.args.kept start.args.first _ c.if-size-eq0.true) (put_none _ _ (omega (arith, start.requires))))
    (λ c κs. let a = c.before.before.before.args in
    room_first a.at (word_of a.kept) (after_word a.first a.size) (room c.before))
    (λ c κs. let start : tie.Start = search in let word : tie.After-put_word-word = search in let a = start.args in
    writing_room (decimal_of a.first) (after_first a.size) (after_word_lem word) refl (room (search)))
    (λ c κs. let start : tie.Start = search in let first : tie.After-put_decimal-offset = search in
    writing_room (ascii " ") (after_space start.args.size) (after_first_lem first) refl (room (search)))
    (λ c κs. let start : tie.Start = search in let space : tie.After-put_bytes-space = search in
    writing_room (decimal_of start.args.size) (ascii "\n") (after_space_lem space) refl (room (search)))
    (λ c κs. let size : tie.After-put_decimal-length = search in
    writing_room (ascii "\n") [] (after_size size) refl (room (search)))
    (λ c. search rules)
    (λ c. let start : tie.Start = search in let left1 : tie.Else-size-eq0 = search in let put : tie.After-put_bytes = search in
    let size : tie.After-put_decimal-length = search in let a = start.args in
    rw (line_some a.kept a.first a.size left1.if-size-eq0.false)
    (writing_ends (writing_goes (ascii "\n") [] (after_size size) refl put.put_bytes.ensures) refl)))
