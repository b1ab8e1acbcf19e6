-- Two decimal digits in a byte and the number that they are worth: each gives the other back.
use mathlib.Core.Path.{◌≡◌}
use mathlib.Core.Bool.{true}
use Prim.Native.Nat.{ℕ, ◌+◌, ◌*◌, ◌/◌, ◌%◌, ◌≤◌, ◌<◌}
use native.Mathlib.Omega.{arith}
use borrow.Author.Tests.{leb-true, le-leb}
use Rattle.time_fields.specs.Field.{two_digits, worth, decimal_pair}
use Rattle.ground_choices.proofs.Tests.{both, and_of}

-- the byte holds the two digits of n
pub record Holds (pair n : ℕ) : Type 0 where
  pub decimal : decimal_pair pair ≡ true
  pub value : worth pair ≡ n

module _ (n : ℕ) (below : n < 100) where
  pub two_digits_byte : two_digits n < 256
  unfolding two_digits
  two_digits_byte = omega arith

  pub two_digits_hold : Holds (two_digits n) n
  unfolding two_digits worth decimal_pair
  two_digits_hold =
      let high : (n / 10 * 16 + n % 10) / 16 ≤ 9 = omega arith in
      let low : (n / 10 * 16 + n % 10) % 16 ≤ 9 = omega arith in
      record { decimal = and_of (le-leb _ _ high) (le-leb _ _ low); value = omega arith }

pub two_digits_worth : (pair : ℕ) → decimal_pair pair ≡ true → two_digits (worth pair) ≡ pair
unfolding two_digits worth decimal_pair
two_digits_worth pair e =
    let d = both _ _ e in
    let high : pair / 16 ≤ 9 = leb-true _ _ d.0 in
    let low : pair % 16 ≤ 9 = leb-true _ _ d.1 in
    omega arith
