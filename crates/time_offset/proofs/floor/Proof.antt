-- `time_offset::floor` meets its contract: each of its steps is known as a plain number, and the bits give that number back.
use mathlib.Core.Path.{refl, sym, ap, ◌∙◌}
use Prim.Native.Nat.{ℕ, suc, ◌-◌, ◌/◌, ◌%◌}
use native.Mathlib.Omega.{arith}
use lib.IntN.{ℤ, pos, negsuc, neg_ℤ, ◌-ℤ◌, nat_abs}
use lib.Signed.{quot_z, rem_z}
use mir.Syntax.{w32}
use mir.Val.{to_z, of_z}
use Rattle.time_offset.specs.Offset.{floor_div, floor_mod}
use Rattle.time_offset.proofs.Signed.{same, sum, opposite, Known, then, known_below, known_from_0, unsigned}
use Rattle.time_offset.proofs.floor.Statement.{statement}
use Rattle.time_offset.proofs.floor.Tie as tie

abbrev read : ℤ → ℤ
read z = to_z w32 (of_z w32 z)

module _ (c : tie.Then-minutes-lt0) where
  abbrev z : ℤ
  z = c.before.args.minutes

  start : (k : ℕ) × Known w32 z (negsuc k)
  start = known_below w32 z c.before.ranges.minutes c.if-minutes-lt0.true

  abbrev k : ℕ
  k = start.0

  before : Known w32 (negsuc 0 -ℤ read z) (pos k)
  before =
      then start.1 (λ (y : ℤ). negsuc 0 -ℤ y)
      (same _ _ (sum (negsuc 0) (neg_ℤ (negsuc k))) (record { is = omega arith }))
      start.1.small

  times : Known w32 (quot_z (read (negsuc 0 -ℤ read z)) (pos 1440)) (pos (k / 1440))
  times = then before (λ (y : ℤ). quot_z y (pos 1440)) refl (omega (arith, before.small))

  days : Known w32 (negsuc 0 -ℤ read (quot_z (read (negsuc 0 -ℤ read z)) (pos 1440))) (negsuc (k / 1440))
  days =
      then times (λ (y : ℤ). negsuc 0 -ℤ y)
      (same _ _ (sum (negsuc 0) (neg_ℤ (pos (k / 1440)))) (record { is = omega (arith, opposite (pos (k / 1440))) }))
      times.small

  left : Known w32 (rem_z (read (negsuc 0 -ℤ read z)) (pos 1440)) (pos (k % 1440))
  left = then before (λ (y : ℤ). rem_z y (pos 1440)) refl (omega arith)

  minute : Known w32 (pos 1439 -ℤ read (rem_z (read (negsuc 0 -ℤ read z)) (pos 1440))) (pos (1440 - suc (k % 1440)))
  minute =
      then left (λ (y : ℤ). pos 1439 -ℤ y)
      (same _ _ (sum (pos 1439) (neg_ℤ (pos (k % 1440)))) (record { is = omega (arith, opposite (pos (k % 1440))) }))
      (omega arith)

module _ (c : tie.Else-minutes-lt0) where
  abbrev z' : ℤ
  z' = c.before.args.minutes

  start' : (k : ℕ) × Known w32 z' (pos k)
  start' = known_from_0 w32 z' c.before.ranges.minutes c.if-minutes-lt0.false

  days' : Known w32 (quot_z (read z') (pos 1440)) (pos (start'.0 / 1440))
  days' = then start'.1 (λ (y : ℤ). quot_z y (pos 1440)) refl (omega (arith, start'.1.small))

  minute' : Known w32 (rem_z (read z') (pos 1440)) (pos (start'.0 % 1440))
  minute' = then start'.1 (λ (y : ℤ). rem_z y (pos 1440)) refl (omega arith)

pub floor_spec : {M : Type 1} → statement M
unfolding floor_div floor_mod
floor_spec =
    tie.close
    (tie.spec
    (λ c. (before c).fits)
    (λ c. (omega arith, (times c).fits))
    (λ c. (days c).fits)
    (λ c. (omega arith, (times c).fits))
    (λ c. (minute c).fits)
    (λ c. unsigned (minute c) (omega arith))
    (λ c. (
      (days c).back ∙ ap (λ (y : ℤ). floor_div y 1440) (sym (start c).1.is),
      ap nat_abs (minute c).back ∙ ap (λ (y : ℤ). floor_mod y 1440) (sym (start c).1.is),
    ))
    (λ c. (omega arith, (days' c).fits))
    (λ c. (omega arith, (days' c).fits))
    (λ c. unsigned (minute' c) (omega arith))
    (λ c. (
      (days' c).back ∙ ap (λ (y : ℤ). floor_div y 1440) (sym (start' c).1.is),
      ap nat_abs (minute' c).back ∙ ap (λ (y : ℤ). floor_mod y 1440) (sym (start' c).1.is),
    )))
