-- `gathering_verdict::decide` meets its contract: what the reader takes is a good section, and its payload the part that is handed on.
use Rattle.std.proofs.Common.{arith, sym, ap, ◌∙◌}
use Rattle.ground_choices.proofs.Tests.{met}
use Rattle.gathering_state.proofs.State.{possible_short}
use Rattle.gathering_verdict.specs.Deciding.{good_verdict}
use Rattle.gathering_verdict.proofs.Verdicts.{verdict_good, sized, payload_part}
use Rattle.gathering_verdict.proofs.decide.Goals as goal

pub overflow_add-n : goal.overflow_add-n
overflow_add-n c = let q = sized _ _ _ (sym c.read_section.ensures ∙ c.in_ok-h.was) in omega arith

pub slice_bounds-decide_good-end : goal.slice_bounds-decide_good-end
slice_bounds-decide_good-end c = let q = sized _ _ _ (sym c.read_section.ensures ∙ c.in_ok-h.was) in omega arith

pub decide_good-requires : goal.decide_good-requires
decide_good-requires c =
    let q = sized _ _ _ (sym c.read_section.ensures ∙ c.in_ok-h.was) in
    (q.numbered, q.versioned, possible_short _ (met _ c.possible.ensures c.if-not-possible.false-raw))

pub returns : goal.returns
returns c =
    let read = sym c.read_section.ensures ∙ c.in_ok-h.was in
    c.decide_good.ensures ∙ ap (good_verdict _ _ _) (payload_part _ _ _ (sized _ _ _ read))
    ∙ sym (verdict_good _ _ _ (met _ c.possible.ensures c.if-not-possible.false-raw) _ _ read)
