-- What a register in two lanes is, for any width w, polynomial p and start s: inner functions of `crc` keep it.
use Rattle.std.specs.Prelude.{◌≡◌, Bool, false, List, ◌++◌, ℕ, ◌^◌, ◌<◌, replicate}
use Rattle.std.specs.Int.Bits.{bit_xor}
use Rattle.crc_register.specs.Register.{crc}

-- The bits xs are read. A block of n bits that was taken out of them is added one block later, so that two blocks are under way at once:
-- q0 goes in with the next block, and q1 is added after it.
pub record Lanes (w p s n : ℕ) (xs : List Bool) (q0 q1 : ℕ) : Type 0 where
  pub fits : q1 < 2 ^ w
  pub is : crc w p s (xs ++ replicate n false) ≡ bit_xor (crc w p q0 (replicate n false)) q1
