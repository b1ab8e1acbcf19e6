-- `rooms_verdict::decide` meets its contract: what the reader takes is a good section, and its payload the part that is handed on.
use Rattle.std.proofs.Common.{arith, sym, ap, ◌∙◌}
use Rattle.gathering_verdict.proofs.Verdicts.{sized, payload_part}
use Rattle.rooms_verdict.specs.Deciding.{good_verdict}
use Rattle.rooms_verdict.proofs.Verdicts.{verdict_good}
use Rattle.rooms_verdict.proofs.decide.Goals as goal

pub overflow_add-n : goal.overflow_add-n
overflow_add-n c = let q = sized _ _ _ (sym c.read_section.ensures ∙ c.in_ok-h.was) in omega arith

pub slice_bounds-decide_good-end : goal.slice_bounds-decide_good-end
slice_bounds-decide_good-end c = let q = sized _ _ _ (sym c.read_section.ensures ∙ c.in_ok-h.was) in omega arith

pub decide_good-requires : goal.decide_good-requires
decide_good-requires c = ((sized _ _ _ (sym c.read_section.ensures ∙ c.in_ok-h.was)).versioned, c.requires)

pub returns : goal.returns
returns c =
    let read = sym c.read_section.ensures ∙ c.in_ok-h.was in
    c.decide_good.ensures ∙ ap (good_verdict _ _ _) (payload_part _ _ _ (sized _ _ _ read)) ∙ sym (verdict_good _ _ _ _ _ read)
