-- `gathering_feed::feed_step` meets its contract: a section that is taken fits its place, and there is room to count it.
use Rattle.std.proofs.Common.{arith, rules, sym, ap, ◌∙◌, Ok}
use mir.Syntax.{w8}
use mir.Val.{Fits}
use Rattle.gathering_feed.proofs.Steps.{first_versioned, first_fits, first_counts, further_fits, further_counts}
use Rattle.gathering_feed.proofs.feed_step.Goals as goal

pub open_table-state-requires : goal.open_table-state-requires
open_table-state-requires c = first_versioned _ _ _ _ (sym c.decide.ensures ∙ c.in-Ok-Begin.is ∙ ap Ok c.in-Ok-Begin.field-0-is)

pub take-requires : goal.take-requires
take-requires c =
    let n = first_counts _ _ c.open_table-state.ensures in
    (first_fits _ _ _ _ (sym c.decide.ensures ∙ c.in-Ok-Begin.is ∙ ap Ok c.in-Ok-Begin.field-0-is), n.1, omega arith)

pub take-requires-in-Ok-Take : goal.take-requires-in-Ok-Take
take-requires-in-Ok-Take c =
    let taken = sym c.decide.ensures ∙ c.in-Ok-Take.is ∙ ap Ok c.in-Ok-Take.field-0-is in
    let last : Fits w8 c.args.g.last = search rules in
    let n = further_counts _ _ _ _ taken (search rules) (omega arith) in
    (further_fits _ _ _ _ taken, n.0, n.1)
