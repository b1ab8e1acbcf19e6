-- `program_salvage::main` is safe: the sections are no longer than the buffer that they stand in.
use Rattle.std.proofs.Common.{rules, ◌≡◌, ◌≤◌, length}
use mathlib.Core.Path.{sym}
use native.Mathlib.Omega.{arith}
use lib.Seq.{length-take-le}
use Rattle.salvage.proofs.Calls.{answered}
use Rattle.program_salvage.proofs.main.Goals as goal

pub slice_bounds-sections-end : goal.slice_bounds-sections-end
slice_bounds-sections-end c =
    let long : length c.salvage.new.out ≡ 65536 = search rules in
    let fits = (answered _ _ _ _ _ (sym c.in-Ok.ensures.value)).fits in
    omega arith

pub slice_bounds-write_all-end : goal.slice_bounds-write_all-end
slice_bounds-write_all-end c =
    let long : length c.salvage.new.out ≡ 65536 = search rules in
    let fits = (answered _ _ _ _ _ (sym c.in-Ok.ensures.value)).fits in
    let within : c.in-Ok.bytes ≤ length c.salvage.new.out = omega arith in
    sym (length-take-le _ _ within)
