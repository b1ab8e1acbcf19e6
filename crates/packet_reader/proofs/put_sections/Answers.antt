-- `packet_reader::put_sections` meets its contract: three runs of bytes, one after the other.
use mathlib.Core.Path.{sym}
use native.Mathlib.Omega.{arith}
use Prim.Native.Nat.{◌-◌}
use lib.ListN.{drop, length-drop}
use lib.Seq.{length-take-le}
use Rattle.packet_plan.specs.Plans.{piece, given}
use Rattle.packet_reader.proofs.Calls.{laid_three}
use Rattle.packet_reader.proofs.put_sections.Goals as goal

pub slice_bounds-copy_at-end : goal.slice_bounds-copy_at-end
unfolding piece given
slice_bounds-copy_at-end c = sym (length-take-le c.args.n.ended c.args.u.now c.requires.0.ended)

pub copy_at-requires : goal.copy_at-requires
unfolding piece given
copy_at-requires c = let l = length-take-le c.args.n.ended c.args.u.now c.requires.0.ended in
    let q = c.requires.1 in
    omega arith

pub returns : goal.returns
unfolding piece given
returns c = let n = c.args.n in
    let p = c.args.p.now in
    let v = c.requires.0 in
    let a = v.begins in
    let b = v.upto in
    let l = length-take-le n.ended c.args.u.now v.ended in
    let m = length-take-le (n.upto - n.from) (drop n.from p) (omega (arith, length-drop n.from p)) in
    let q = c.requires.1 in
    laid_three _ _ _ _ _ _ _ _ _ c.copy_at.ensures c.copy_at-2.ensures c.copy_at-3.ensures (sym l) (omega arith) (omega arith)
