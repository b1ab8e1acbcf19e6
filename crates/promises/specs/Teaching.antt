-- M-112's promise, sentence by sentence: the slow gathering keeps what it is fed, and answers as the quick one does.
use Rattle.std.specs.Prelude.{ℕ, ◌^◌, ◌*◌, ◌≤◌, ◌<◌, List, ◌≡◌, length, take, Ok}
use Rattle.crc.specs.Crc.{AreBytes}
use Rattle.gathering_account.specs.Gathers.{ByteStrings}
use Rattle.teaching_rows.specs.Rows.{length_bytes, rows}
use Rattle.teaching_hand_out.specs.Asking.{handed_of}
use Rattle.teaching_account.specs.Lockstep.{fresh_slow, slow_after, Lockstep}

pub record Teaching : Type 0 where
  -- "Over every feed that its buffer has room for, it gives the same answers and the same body as the quick one"; a buffer that can be lent is shorter
  -- than eight bytes can tell
  pub lockstep : (buffer store : List ℕ) → length buffer < 256 ^ length_bytes → (fed : List (List ℕ)) → ByteStrings fed
      → length (rows fed) ≤ length buffer → Lockstep buffer store fed
  -- "keeps the fed byte strings back to back [..], an eight-byte length before each": what is in use is exactly the rows of what was fed
  pub keeps : (buffer store : List ℕ) → length buffer < 256 ^ length_bytes → (fed : List (List ℕ)) → ByteStrings fed → length (rows fed) ≤ length buffer
      → take (slow_after (fresh_slow buffer) fed).used (slow_after (fresh_slow buffer) fed).buffer ≡ rows fed
  -- what the header's size names: no buffer of bytes hands out more
  pub body_most_lem : (buffer : List ℕ) (used store : ℕ) → AreBytes buffer → (out : List ℕ) (n : ℕ) → handed_of buffer used store out ≡ Ok n → n ≤ 256 * 4084
