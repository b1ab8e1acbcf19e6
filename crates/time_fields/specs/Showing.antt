-- What a reader has to believe of a message at an instant: when it is before, on or ended, and what is refused.
use Rattle.std.specs.Prelude.{Bool, cond, ℕ, ltb, eqb, Result, Ok, Err, Option, Some, None}
use Rattle.ground_refusal.specs.declared.Refusal.{Refusal}
use Rattle.ground_refusal.specs.declared.Refusal.TheVariants.{ImpossibleDay}
use Rattle.time_fields.specs.declared.Moment.{Moment}
use Rattle.time_fields.specs.declared.Showing.{Showing}
use Rattle.time_fields.specs.declared.Showing.TheVariants.{Before, On, Ended}
use Rattle.time_fields.specs.Field.{is_instant, read_time, read_end}

-- a moment comes before another by its day, and on one day by its second
unfoldable pub earlier : Moment → Moment → Bool
earlier a b = cond (eqb a.day b.day) (ltb a.second b.second) (ltb a.day b.day)

-- "before" if now is earlier than start, "on" if not before and live or now is earlier than end, else "ended"
unfoldable pub shown_by : Moment → Result (Option Moment) Refusal → Moment → Result Showing Refusal
shown_by start (Err r) present = Err r
shown_by start (Ok None) present = cond (earlier present start) (Ok Before) (Ok On)
shown_by start (Ok (Some end)) present = cond (earlier present start) (Ok Before) (cond (earlier present end) (Ok On) (Ok Ended))

-- a refused start comes before a refused end
unfoldable pub shown_from : Result Moment Refusal → Result (Option Moment) Refusal → Moment → Result Showing Refusal
shown_from (Err r) end present = Err r
shown_from (Ok start) end present = shown_by start end present

-- "20 for a day out of range or a second above 86,399"; then the start's refusals, then the end's
unfoldable pub showing : ℕ → ℕ → Moment → Result Showing Refusal
showing start end present =
    cond (is_instant present) (shown_from (read_time start 0) (read_end end 0) present) (Err (ImpossibleDay 0))
