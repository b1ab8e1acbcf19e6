-- `salvage::put_run` meets its contract: nothing for a run of no bytes, and else its three numbers, one after the other.
use mathlib.Core.Path.{◌∙◌}
use native.Mathlib.Omega.{arith}
use lib.ListN.{length-set}
use Rattle.section_reader.proofs.Bytes.{digit_is}
use Rattle.salvage.proofs.Turns.{three_numbers, put_no_run, put_a_run}
use Rattle.salvage.proofs.put_run.Goals as goal

pub returns-then-size-eq0 : goal.returns-then-size-eq0
returns-then-size-eq0 c = put_no_run _ _ _ _ _ c.if-size-eq0.true (omega (arith, c.requires.1))

pub bounds-list-at : goal.bounds-list-at
bounds-list-at c = let n = three_numbers c.args.kept c.args.first c.args.size c.if-size-eq0.false in omega (arith, c.requires.1)

pub bounds-list-at-2 : goal.bounds-list-at-2
bounds-list-at-2 c =
    let n = three_numbers c.args.kept c.args.first c.args.size c.if-size-eq0.false in
    simp length-set (omega (arith, c.requires.1))

pub bounds-list-at-3 : goal.bounds-list-at-3
bounds-list-at-3 c =
    let n = three_numbers c.args.kept c.args.first c.args.size c.if-size-eq0.false in
    simp length-set (omega (arith, c.requires.1))

pub returns : goal.returns
returns c = put_a_run _ _ _ _ _ _ c.if-size-eq0.false (c.from.ensures ∙ digit_is c.args.kept) c.requires.1
