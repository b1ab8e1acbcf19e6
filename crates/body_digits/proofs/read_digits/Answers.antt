-- `body_digits::read_digits` meets its contract: the first byte, then the whole field, then its digits are tested as the definition does.
use mathlib.Core.Path.{sym, ◌∙◌}
use Rattle.ground_refusal.proofs.Exits.{passed_on}
use Rattle.body_formats.proofs.Strings.{end_in, digits_no, digits_17, digits_past, digits_18_first, digits_18_later, digits_of}
use native.Mathlib.Omega.{arith}
use Rattle.body_digits.proofs.read_digits.Goals as goal

pub bounds-s-p : goal.bounds-s-p
bounds-s-p c = omega (arith, (end_in _ _ _ _ _ (sym c.in_ok-q.was ∙ c.field_end.ensures)).1)

pub returns-in_err-q : goal.returns-in_err-q
returns-in_err-q c = passed_on c.from_residual.ensures ∙ digits_no _ _ _ _ _ (sym c.in_err-q.was ∙ c.field_end.ensures)

pub returns-then-first-lt240 : goal.returns-then-first-lt240
returns-then-first-lt240 c = digits_17 _ _ _ _ _ (sym c.in_ok-q.was ∙ c.field_end.ensures) (omega arith)

pub returns-in_err-end : goal.returns-in_err-end
returns-in_err-end c = passed_on c.from_residual-in_err-end.ensures ∙ digits_past _ _ _ _ _ (sym c.in_ok-q.was ∙ c.field_end.ensures)
    (λ i. (c.type_inv.s i).fits) (omega arith) _ (sym c.in_err-end.was ∙ c.field_end-2.ensures)

pub returns-then-first-gt249 : goal.returns-then-first-gt249
returns-then-first-gt249 c = digits_18_first _ _ _ _ _ (sym c.in_ok-q.was ∙ c.field_end.ensures)
    (λ i. (c.type_inv.s i).fits) (omega arith) _ (sym c.in_ok-end.was ∙ c.field_end-2.ensures) (omega arith)

pub all_decimal-requires : goal.all_decimal-requires
all_decimal-requires c = (end_in _ _ _ _ _ (sym c.in_ok-end.was ∙ c.field_end-2.ensures)).1

pub overflow_sub-result : goal.overflow_sub-result
overflow_sub-result c = omega (
  arith,
  (end_in _ _ _ _ _ (sym c.in_ok-q.was ∙ c.field_end.ensures)).0,
  (end_in _ _ _ _ _ (sym c.in_ok-end.was ∙ c.field_end-2.ensures)).0,
)

pub returns-then-all_decimal : goal.returns-then-all_decimal
returns-then-all_decimal c = digits_of _ _ _ _ _ (sym c.in_ok-q.was ∙ c.field_end.ensures)
    (λ i. (c.type_inv.s i).fits) (omega arith) _ (sym c.in_ok-end.was ∙ c.field_end-2.ensures) (omega arith)
    (sym c.all_decimal.ensures ∙ c.if-all_decimal.true)

pub returns : goal.returns
returns c = digits_18_later _ _ _ _ _ (sym c.in_ok-q.was ∙ c.field_end.ensures)
    (λ i. (c.type_inv.s i).fits) (omega arith) _ (sym c.in_ok-end.was ∙ c.field_end-2.ensures) (omega arith)
    (sym c.all_decimal.ensures ∙ c.if-all_decimal.false)
