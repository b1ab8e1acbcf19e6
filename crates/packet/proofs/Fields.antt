-- A law of a packet's fields: where the pointer points.
use Prim.Native.Nat.{ℕ, ◌+◌}
use mathlib.Core.List.{List}
use mathlib.Core.Path.{◌≡◌}
use Rattle.packet.specs.Fields.{byte, payload_at, pointed_at}

-- where the pointer points, from the fields as they are read
pub pointed_is : (p : List ℕ) (a b : ℕ) → a ≡ payload_at p → b ≡ byte p a → a + 1 + b ≡ pointed_at p
unfolding pointed_at
pointed_is p a b e f = rw (f, e)
