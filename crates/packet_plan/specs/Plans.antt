-- What the contracts of the functions that plan a packet cite: what is given and left, by places in the unfinished bytes and in the packet.
use Rattle.std.specs.Prelude.{ℕ, ◌+◌, ◌-◌, ◌≤◌, true, false, List, ◌++◌, ◌≡◌, length, take, drop}
use Rattle.packet.specs.Sizes.{packet_bytes}
use Rattle.packet.specs.Fields.{starts, payload_at, pointed_at}
use Rattle.packet_frames.specs.Framing.{is_begun, unfinished_most, joined}
use Rattle.packet_plan.specs.declared.Plan.{Plan}
use Rattle.packet_plan.specs.Reading.{read_on}

-- the bytes of p from index a up to index b
unfoldable pub piece : ℕ → ℕ → List ℕ → List ℕ
piece a b p = take (b - a) (drop a p)

-- the bytes that are given
unfoldable pub given : Plan → List ℕ → List ℕ → List ℕ
given n u p = take n.ended u ++ piece n.from n.upto p ++ piece n.first n.stop p

-- the plan is what the packet p gives after the unfinished bytes u, and what it leaves
pub record Planned (u p : List ℕ) (n : Plan) : Type 0 where
  pub ended : n.ended ≤ length u
  pub begins : n.from ≤ n.upto
  pub upto : n.upto ≤ length p
  pub first : n.first ≤ n.stop
  pub stop : n.stop ≤ length p
  pub goes : n.goes ≤ length u
  pub left : n.left ≤ length p
  pub sections : joined (read_on u p).sections ≡ given n u p
  pub unfinished : (read_on u p).unfinished ≡ take n.goes u ++ drop n.left p

-- a packet without a start indicator, whose payload begins at `at`
pub record Unpointed (u p : List ℕ) (at : ℕ) : Type 0 where
  pub begun : is_begun u ≡ true
  pub short : length u ≤ unfinished_most
  pub size : length p ≡ packet_bytes
  pub plain : starts p ≡ false
  pub is : at ≡ payload_at p
  pub within : at ≤ packet_bytes

-- a packet with a pointer to `first`; the bytes ahead of it begin at `at`
pub record Pointed (u p : List ℕ) (at first : ℕ) : Type 0 where
  pub begun : is_begun u ≡ true
  pub short : length u ≤ unfinished_most
  pub size : length p ≡ packet_bytes
  pub begins : starts p ≡ true
  pub is : at ≡ payload_at p + 1
  pub points : first ≡ pointed_at p
  pub follows : at ≤ first
  pub within : first ≤ packet_bytes
