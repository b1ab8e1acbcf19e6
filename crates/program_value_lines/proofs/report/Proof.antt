-- `program_value_lines::report` meets its contract: three groups of lines, from the start of the output on, which the report fills.
use Prim.Native.Nat.{◌+◌, ◌≤◌}
use mathlib.Core.List.{◌++◌}
use mathlib.Core.Path.{◌≡◌}
use native.Mathlib.Omega.{arith}
use borrow.Author.Rules.{rules}
use lib.ListN.{length}
use Rattle.ground_placing.proofs.Putting.{room_first, put_room, put_then, put_whole}
use Rattle.program_value_lines.specs.Report.{time_lines, index_lines, volume_lines, report_of}
use Rattle.program_value_lines.proofs.Values.{report_long}
use Rattle.program_value_lines.proofs.report.Statement.{statement}
use Rattle.program_value_lines.proofs.report.Tie as tie

room : (c : tie.After-put_times-arg-1) → 0 + length (time_lines ++ (index_lines ++ volume_lines)) ≤ length c.before.args.out.now
room c =
    let long : length c.before.args.out.now ≡ 377 = search rules in
    omega (arith, report_long)

pub report_spec : {M : Type 1} → statement M
unfolding report_of
report_spec =
    tie.close
    (tie.spec
    (λ c κs. room_first 0 time_lines (index_lines ++ volume_lines) (room c))
    (λ c κs. let times = c.before in
    room_first times.put_times-times.result index_lines volume_lines
    (put_room (index_lines ++ volume_lines) times.put_times-times.ensures (room times.before)))
    (λ c κs. let indexes = c.before in
    let times = indexes.before.before in
    put_room volume_lines indexes.put_indexes-indexes.ensures
    (put_room (index_lines ++ volume_lines) times.put_times-times.ensures (room times.before)))
    (λ c. let indexes = c.before.before in
    put_whole (put_then indexes.before.before.put_times-times.ensures (put_then indexes.put_indexes-indexes.ensures c.put_volumes.ensures))))
