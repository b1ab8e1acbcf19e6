-- `program_section_line::line` meets its contract: the answer and LF, from the start of the output on.
use mathlib.Core.Path.{◌≡◌}
use native.Mathlib.Omega.{arith}
use borrow.Author.Rules.{rules}
use lib.ListN.{length, length-append}
use Rattle.program_printing.specs.Characters.{ascii}
use Rattle.ground_placing.proofs.Putting.{put_room, put_then, put_whole}
use Rattle.program_section_line.specs.Line.{section_answered, line_of}
use Rattle.program_section_line.proofs.Bounds.{answer_most}
use Rattle.program_section_line.proofs.line.Statement.{statement}
use Rattle.program_section_line.proofs.line.Tie as tie

pub line_spec : {M : Type 1} → statement M
unfolding line_of
line_spec =
    tie.close
    (tie.spec
    (λ c κs. let start = c.before.before in
    let room : length start.args.out.now ≡ 16 = search rules in
    omega (arith, answer_most start.args.input.now (omega (arith, c.before.shared_slice_known-1.given 6))))
    (λ c κs. let put = c.before.before in
    let start = put.before.before.before in
    let room : length start.args.out.now ≡ 16 = search rules in
    let answer = section_answered start.args.input.now in
    put_room (ascii "\n") put.before.put_answer-answered.ensures
    (omega (
      arith,
      length-append answer (ascii "\n"),
      answer_most start.args.input.now (omega (arith, put.before.before.before.shared_slice_known-1.given 6)),
    )))
    (λ c. put_whole (put_then c.before.before.before.before.put_answer-answered.ensures c.put_bytes.ensures)))
