-- `program_salvage_lines::report` meets its contract: the header, and then the runs' lines or the refusal, from the start of the output on.
use mathlib.Core.Path.{◌≡◌}
use native.Mathlib.Omega.{arith}
use borrow.Author.Rules.{rules}
use lib.ListN.{length}
use Rattle.ground_placing.proofs.Putting.{put_room, put_then, put_whole}
use Rattle.salvage.specs.Runs.{runs_of}
use Rattle.program_salvage_lines.specs.Report.{lines_of}
use Rattle.program_salvage_lines.proofs.Bounds.{lines_most}
use Rattle.program_salvage_lines.proofs.Lines.{report_lines, report_over}
use Rattle.program_salvage_lines.proofs.report.Statement.{statement}
use Rattle.program_salvage_lines.proofs.report.Tie as tie

pub report_spec : {M : Type 1} → statement M
report_spec =
    tie.close
    (tie.spec
    (λ c κs. search rules)
    (λ c κs. search rules)
    (λ c. let start : tie.Start = search in let over : tie.Then-capture-gt-CAPTURE_MOST = search in
    let head = over.before in
    rw (report_over start.args.capture.now over.if-capture-gt-CAPTURE_MOST.true)
    (put_whole (put_then head.put_bytes-begun.ensures c.put_bytes.ensures)))
    (λ c κs. let head : tie.After-put_bytes-begun = search in let start : tie.Start = search in let s = start.args.capture.now in
    let room : length start.args.out.now ≡ 201677 = search rules in
    (c.before.if-capture-gt-CAPTURE_MOST.false, put_room (lines_of (runs_of s)) head.put_bytes-begun.ensures (omega (arith, lines_most s c.before.if-capture-gt-CAPTURE_MOST.false))))
    (λ c. let start : tie.Start = search in let lines : tie.Else-capture-gt-CAPTURE_MOST = search in
    let head = lines.before in
    rw (report_lines start.args.capture.now lines.if-capture-gt-CAPTURE_MOST.false)
    (put_whole (put_then head.put_bytes-begun.ensures c.put_lines.ensures))))
