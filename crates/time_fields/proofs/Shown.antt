-- How a message stands at an instant: a live one never ends.
use mathlib.Core.Path.{◌≡◌, refl, sym, ap, ◌∙◌}
use Rattle.std.specs.Prelude.{Result, Ok, Err, None}
use mathlib.Core.Bool.{Bool, true, false, cond, true≢false}
use Prim.Native.Nat.{ℕ}
use Rattle.ground_refusal.specs.declared.Refusal.{Refusal}
use Rattle.ground_refusal.specs.declared.Refusal.TheVariants.{ImpossibleDay}
use Rattle.time_fields.specs.declared.Moment.{Moment}
use Rattle.time_fields.specs.declared.Showing.{Showing}
use Rattle.time_fields.specs.declared.Showing.TheVariants.{Before, On, Ended}
use Rattle.time_fields.specs.Field.{live_mark, is_instant, read_time, read_end}
use Rattle.time_fields.specs.Showing.{earlier, shown_by, shown_from, showing}

-- a live message never ends
has_ended : Result Showing Refusal → Bool
has_ended (Ok Ended) = true
has_ended (Ok Before) = false
has_ended (Ok On) = false
has_ended (Err r) = false

pub live_never_ended : (start : ℕ) (present : Moment) → showing start live_mark present ≡ (Ok Ended) → ⊥
unfolding showing shown_from shown_by read_end has_ended
live_never_ended start present e =
    true≢false (sym (ap has_ended e) ∙ by_case (is_instant present) (read_time start 0))
  where
    by_order : (t : Bool) → has_ended (cond t (Ok Before) (Ok On)) ≡ false
    by_order true = refl
    by_order false = refl

    by_case : (i : Bool) (t : Result Moment Refusal) → has_ended (cond i (shown_from t (Ok None) present) (Err (ImpossibleDay 0))) ≡ false
    by_case true (Ok from) = by_order (earlier present from)
    by_case true (Err r) = refl
    by_case false t = refl
