-- What the contracts of the functions that read and write the state's bytes cite.
use Rattle.std.specs.Prelude.{ℕ, ◌+◌, ◌-◌, ◌/◌, ◌%◌, ◌≤◌, true, List, ◌∷◌, ◌++◌, ◌≡◌, length, set, take, drop, Ok}
use Rattle.ground_placing.specs.Placed.{placed}
use Rattle.packet.specs.Sizes.{packet_bytes}
use Rattle.packet.specs.Judging.{judged}
use Rattle.packet.specs.declared.Judged.TheVariants.{Carrying}
use Rattle.packet_frames.specs.Framing.{is_begun, unfinished_most}
use Rattle.packet_memory.specs.Memory.{going_on}
use Rattle.packet_memory.specs.State.{unfinished_at, state_bytes, may_leave, memory_of}

-- the first k bytes kept in s are those that the packet p goes on from
pub record Goes (s p : List ℕ) (k : ℕ) : Type 0 where
  pub is : going_on (memory_of s) p ≡ take k (drop unfinished_at s)
  pub most : k ≤ unfinished_most
  pub begun : is_begun (take k (drop unfinished_at s)) ≡ true

-- the first `goes` bytes kept in s, and the packet's bytes from `left` on
unfoldable pub part_of : List ℕ → List ℕ → ℕ → ℕ → List ℕ
part_of s p goes left = take goes (drop unfinished_at s) ++ drop left p

-- they may be kept after the packet p
pub record Leaves (s p : List ℕ) (goes left : ℕ) : Type 0 where
  pub size : length s ≡ state_bytes
  pub packet : length p ≡ packet_bytes
  pub within : left ≤ packet_bytes
  pub most : goes + (packet_bytes - left) ≤ unfinished_most
  pub carries : judged p ≡ Ok Carrying
  pub begun : is_begun (part_of s p goes left) ≡ true
  pub may : may_leave p (part_of s p goes left) ≡ true

-- ---- the state's bytes as they are written

-- another mark
unfoldable pub marked : ℕ → List ℕ → List ℕ
marked mark s = set s 0 mark

-- a packet p that leaves the bytes u unfinished: the mark, how many they are, the packet, and they; all bytes after them stay
unfoldable pub holding : List ℕ → List ℕ → List ℕ → List ℕ
holding s u p = placed s 0 (1 ∷ length u / 256 % 256 ∷ length u % 256 ∷ (p ++ u))

-- they may be kept so
pub record Keeps (s p u : List ℕ) : Type 0 where
  pub size : length s ≡ state_bytes
  pub packet : length p ≡ packet_bytes
  pub short : length u ≤ unfinished_most
  pub carries : judged p ≡ Ok Carrying
  pub begun : is_begun u ≡ true
  pub may : may_leave p u ≡ true
