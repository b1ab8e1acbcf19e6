-- `index_channel_reader::walk_each_descriptor` meets its contract: each turn walks one descriptor nearer to the end of the part, and the count goes before them.
use native.Mathlib.Omega.{arith}
use borrow.Author.Rules.{rules}
use Rattle.body_walk.proofs.Pairs.{exits}
use Rattle.body_walk.proofs.Manys.{many_start, many_nearer, many_turn, many_stop, many_done}
use Rattle.index.proofs.Lawful.{descriptor_lawful, descriptor_takes}
use Rattle.index_channel_reader.proofs.walk_each_descriptor.Goals as goal

pub loop-at-init : goal.loop-at-init
loop-at-init c = many_start c.less.ensures

pub returns-in_err-at : goal.returns-in_err-at
returns-in_err-at c = exits c.from_residual.ensures (many_stop descriptor_lawful descriptor_takes (λ i. (c.type_inv.s i).fits) c.requires
    c.loop-at-test.true c.walk_descriptor.ensures c.loop-at.invariant c.in_err-at.was)

pub overflow_add-n : goal.overflow_add-n
overflow_add-n c = omega (arith, c.loop-at.invariant.small)

pub loop-at-smaller : goal.loop-at-smaller
loop-at-smaller c = let near = many_nearer descriptor_lawful descriptor_takes (λ i. (c.type_inv.s i).fits) c.requires
    c.loop-at-test.true c.walk_descriptor.ensures c.in_ok-at.was in
    omega (arith, near.0, near.1)

pub loop-at-preserved : goal.loop-at-preserved
loop-at-preserved c = many_turn descriptor_lawful descriptor_takes (λ i. (c.type_inv.s i).fits) c.requires
    c.loop-at-test.true c.walk_descriptor.ensures c.loop-at.invariant c.in_ok-at.was (search rules)

pub returns : goal.returns
returns c = many_done (omega arith) c.loop-at.invariant c.lay_entry.ensures.dry c.lay_entry.ensures.there
