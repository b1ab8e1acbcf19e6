-- Laws of what a packet leaves unfinished: it may be kept.
use Prim.Native.Nat.{ℕ}
use mathlib.Core.Bool.{Bool, true, false}
use mathlib.Core.List.{List}
use mathlib.Core.Path.{◌≡◌}
use lib.ListN.{drop}
use Rattle.std.specs.Prelude.{if◌then◌else◌}
use Rattle.packet.specs.Fields.{starts, payload_at, pointed_at}
use Rattle.packet_frames.specs.Framing.{is_begun, gone_on}
use Rattle.packet_frames.proofs.Growing.{gone_begun, begun_begun}
use Rattle.packet_plan.specs.Reading.{ended, ahead, read_on}

pub left_begun : (u p : List ℕ) → is_begun u ≡ true → is_begun (read_on u p).unfinished ≡ true
unfolding read_on ended
left_begun u p e = go (starts p)
  where
    go : (b : Bool) → is_begun (if b then ended u (ahead p) (drop (pointed_at p) p) else gone_on u (drop (payload_at p) p)).unfinished ≡ true
    go true = begun_begun (drop (pointed_at p) p)
    go false = gone_begun u (drop (payload_at p) p) e
