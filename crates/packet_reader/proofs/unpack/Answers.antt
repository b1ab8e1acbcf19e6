-- `packet_reader::unpack` meets its contract: the packet's judgement decides.
use mathlib.Core.Path.{◌≡◌, sym, ap, ◌∙◌}
use Rattle.std.specs.Prelude.{Ok}
use lib.ListN.{length}
use Rattle.ground_refusal.proofs.Exits.{passed_on}
use Rattle.packet_memory.specs.State.{state_bytes}
use Rattle.packet_reader.proofs.Calls.{unpack_refused, unpack_damaged, unpack_skipped, unpack_carries}
use borrow.Author.Rules.{rules}
use Rattle.packet_reader.proofs.unpack.Goals as goal

pub carry-requires : goal.carry-requires
carry-requires c = let n : length c.args.state.now ≡ state_bytes = search rules in
    (n, sym c.judge.ensures ∙ c.in_ok-judge.was ∙ ap Ok c.in-Carrying.is)

pub returns-in_err-judge : goal.returns-in_err-judge
returns-in_err-judge c = rw (passed_on c.from_residual.ensures) (unpack_refused _ _ _ _ (sym c.judge.ensures ∙ c.in_err-judge.was))

pub returns-in-Damaged : goal.returns-in-Damaged
returns-in-Damaged c = unpack_damaged _ _ _ (sym c.judge.ensures ∙ c.in_ok-judge.was ∙ ap Ok c.in-Damaged.is) _ c.forget.ensures

pub returns-in-Skipped : goal.returns-in-Skipped
returns-in-Skipped c = unpack_skipped _ _ _ (sym c.judge.ensures ∙ c.in_ok-judge.was ∙ ap Ok c.in-Skipped.is)

pub returns-in-Carrying : goal.returns-in-Carrying
returns-in-Carrying c = unpack_carries _ _ _ (sym c.judge.ensures ∙ c.in_ok-judge.was ∙ ap Ok c.in-Carrying.is) _ _ _ c.carry.ensures
