-- Laws of ranges: a test of both ends, one after the other, and what it says of the number.
use mathlib.Core.Path.{◌≡◌}
use mathlib.Core.Bool.{true, ◌&&◌}
use Prim.Native.Nat.{ℕ, ◌≤◌}
use lib.Dec.{leb}
use borrow.Author.Tests.{le-leb, leb-true}
use Rattle.ground_choices.proofs.Tests.{both}
use Rattle.ground_numbers.specs.Characters.{is_digit}

module _ (low n high : ℕ) where
  pub within : low ≤ n → n ≤ high → (leb low n && leb n high) ≡ true
  within h h' = rw (le-leb low n h, le-leb n high h')

  pub within_known : (leb low n && leb n high) ≡ true → (low ≤ n) × (n ≤ high)
  within_known e = let t = both (leb low n) (leb n high) e in (leb-true low n t.0, leb-true n high t.1)

-- a digit lies between '0' and '9'
pub digit_within : (c : ℕ) → is_digit c ≡ true → (0x30 ≤ c) × (c ≤ 0x39)
digit_within c e = within_known 0x30 c 0x39 e
