-- `program_date_lines::report` meets its contract: the header, and then the lines' report or the refusal, from the start of the output on.
use Prim.Native.Nat.{◌≤◌}
use native.Mathlib.Omega.{arith}
use lib.ListN.{length}
use Rattle.program_date_lines.specs.Report.{lines_of, numbered}
use Rattle.program_date_lines.proofs.Bounds.{report_most}
use Rattle.program_date_lines.proofs.Lines.{report_lines}
use Rattle.ground_placing.proofs.Putting.{put_room, put_then, put_whole}
use Rattle.program_date_lines.proofs.report.Goals as goal

pub put_lines-requires : goal.put_lines-requires
put_lines-requires c =
    let s = c.args.input.now in
    let within : length s ≤ 65536 = omega arith in
    let most = rw (report_lines s within) at (report_most s) in
    (within, put_room (numbered 1 (lines_of s)) c.put_bytes-begun.ensures (omega arith))

pub returns : goal.returns
returns c =
    let s = c.args.input.now in
    let within : length s ≤ 65536 = omega arith in
    let whole = put_whole (put_then c.put_bytes-begun.ensures c.put_lines.ensures) in
    rw (report_lines s within) (record { length = whole.0; bytes = whole.1.0; within = whole.1.1 })
