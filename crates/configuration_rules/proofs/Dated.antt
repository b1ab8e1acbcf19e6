-- A date that is too large for its fields has no day.
use Prim.Native.Nat.{ℕ, ◌<◌}
use mathlib.Core.Path.{◌≡◌, refl}
use mathlib.Core.Bool.{Bool, true, false}
use native.Mathlib.Omega.{arith}
use Rattle.time_days.specs.Calendar.{has_day}
use Rattle.configuration.proofs.Clocks.{day_fits}

module _ (y m d : ℕ) where
  no_day_where : (has_day y m d ≡ true → ⊥) → false ≡ has_day y m d
  no_day_where h = go (has_day y m d) refl
    where
      go : (t : Bool) → has_day y m d ≡ t → false ≡ t
      go true e = absurd (h e)
      go false e = refl

  pub year_too_large : 65535 < y → false ≡ has_day y m d
  year_too_large l = no_day_where (λ h. omega (arith, (day_fits y m d h).0))

  pub month_too_large : 255 < m → false ≡ has_day y m d
  month_too_large l = no_day_where (λ h. omega (arith, (day_fits y m d h).1))

  pub day_too_large : 255 < d → false ≡ has_day y m d
  day_too_large l = no_day_where (λ h. omega (arith, (day_fits y m d h).2))
