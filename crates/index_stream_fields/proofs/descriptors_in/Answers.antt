-- `index_stream_fields::descriptors_in` meets its contract: those that lie behind and those from here on are all.
use mathlib.Core.Path.{sym, ◌∙◌}
use native.Mathlib.Omega.{arith}
use Rattle.ground_refusal.proofs.Exits.{passed_on}
use Rattle.index.specs.Index.{descriptor}
use Rattle.index.proofs.Lawful.{descriptor_lawful, descriptor_takes}
use Rattle.index_stream_fields.proofs.Counting.{Turn, count_start, count_done, count_stop, count_go}
use Rattle.index_stream_fields.proofs.descriptors_in.Goals as goal

-- a turn that goes on
turned : (c : goal.In_ok-at) → Turn descriptor c.args.s.now c.args.l c.args.p c.loop-at.m c.loop-at.at c.in_ok-at.at
turned c =
    count_go _ _ _ _ _ _ c.loop-at.invariant descriptor_lawful descriptor_takes (λ i. (c.type_inv.s i).fits) (omega arith) _ c.loop-at-test.true
    (sym c.in_ok-at.was ∙ c.skip_descriptor.ensures)

pub loop-at-init : goal.loop-at-init
loop-at-init c = count_start _ _ _ _

pub returns-in_err-at : goal.returns-in_err-at
returns-in_err-at c = passed_on c.from_residual.ensures ∙ count_stop _ _ _ _ _ _ c.loop-at.invariant _ c.loop-at-test.true
    (sym c.in_err-at.was ∙ c.skip_descriptor.ensures)

pub overflow_add-m : goal.overflow_add-m
overflow_add-m c = omega (arith, (turned c).small)

pub loop-at-smaller : goal.loop-at-smaller
loop-at-smaller c = omega (arith, (turned c).nearer, c.loop-at-test.true)

pub loop-at-preserved : goal.loop-at-preserved
loop-at-preserved c = (turned c).again

pub returns : goal.returns
returns c = count_done _ _ _ _ _ _ c.loop-at.invariant (omega arith)
