-- `teaching_hand_out::begun` meets its contract: what is in use is no whole rows, or nothing is begun, or a table is found.
use mathlib.Core.Path.{sym, ap, ◌∙◌}
use lib.Seq.{length-take-le}
use Rattle.std.specs.Prelude.{Result, Ok, Err}
use Rattle.std.specs.Option.{ok_or}
use Rattle.std.specs.Result.{result_ok}
use Rattle.ground_refusal.specs.declared.Refusal.{Refusal}
use Rattle.ground_refusal.specs.declared.Refusal.TheVariants.{Missing}
use Rattle.ground_refusal.proofs.Exits.{passed_on}
use Rattle.teaching_table.proofs.Fixing.{found_table, found_nothing}
use Rattle.teaching_hand_out.proofs.Telling.{within_buffer, unbegun_12, unbegun_13, begun_from}
use Rattle.teaching_hand_out.proofs.begun.Goals as goal

pub returns-then-not-in_use : goal.returns-then-not-in_use
returns-then-not-in_use c = unbegun_12 _ _ _ (sym c.in_use.ensures ∙ c.if-not-in_use.true)

pub slice_bounds-rows-end : goal.slice_bounds-rows-end
slice_bounds-rows-end c = sym (length-take-le _ _ (within_buffer _ _ 0 (sym c.in_use.ensures ∙ c.if-not-in_use.false)))

-- the refusal that is told
abbrev why : {T : Type 0} → Result T Refusal → Refusal
why (Ok x) = Missing 0
why (Err r) = r

pub returns-in_err-t : goal.returns-in_err-t
returns-in_err-t c =
    let none = c.ok_or.ensures.ok_part ∙ ap result_ok c.in_err-t.was in
    let is = passed_on c.from_residual.ensures ∙ ap Err (ap why (sym c.in_err-t.was ∙ c.ok_or.ensures.value ∙ ap (λ o. ok_or o (Missing 0)) none)) in
    rw is (unbegun_13 _ _ _ (sym c.in_use.ensures ∙ c.if-not-in_use.false) (found_nothing c.fixed_table.ensures none))

pub slice_bounds-result-count : goal.slice_bounds-result-count
slice_bounds-result-count c = (found_table c.fixed_table.ensures _ _ (c.ok_or.ensures.ok_part ∙ ap result_ok c.in_ok-t.was)).among

pub slice_bounds-result-start : goal.slice_bounds-result-start
slice_bounds-result-start c = (found_table c.fixed_table.ensures _ _ (c.ok_or.ensures.ok_part ∙ ap result_ok c.in_ok-t.was)).among

pub returns : goal.returns
returns c =
    begun_from _ _ _ (sym c.in_use.ensures ∙ c.if-not-in_use.false) _ _
    (found_table c.fixed_table.ensures _ _ (c.ok_or.ensures.ok_part ∙ ap result_ok c.in_ok-t.was))
