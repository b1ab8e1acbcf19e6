-- What the inner functions of `crc32` keep of the bytes that they have read: one lane, or two.
use Rattle.std.specs.Prelude.{◌≡◌, List, ℕ, ◌+◌, ◌≤◌, length, take}
use Rattle.crc_register.specs.Register.{bytes_bits, crc}
use Rattle.crc_register.specs.Lanes.{Lanes}

-- The first i bytes of xs are read: q0 goes in with the next word of four bytes, q1 is added after it, and q2 after two words. Either two
-- lanes are two words apart, and so many bytes are left; or they are one word apart, and that is left; or there is one lane, the register.
pub data Read (p s : ℕ) (xs : List ℕ) (i : ℕ) : ℕ → ℕ → ℕ → Type 0 where
  apart : {q0 q2 : ℕ} → Lanes 32 p s 64 (bytes_bits (take i xs)) q0 q2 → i + 8 ≤ length xs → Read p s xs i q0 0 q2
  close : {q0 q1 : ℕ} → Lanes 32 p s 32 (bytes_bits (take i xs)) q0 q1 → i + 4 ≤ length xs → Read p s xs i q0 q1 0
  joined : {q0 : ℕ} → q0 ≡ crc 32 p s (bytes_bits (take i xs)) → Read p s xs i q0 0 0
