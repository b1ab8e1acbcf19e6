-- `crc32` meets its contract: what two lanes leave comes together in a turn or two, and the last bytes go in one a turn.
use mathlib.Core.List.{List}
use mathlib.Core.Path.{subst}
use Prim.Native.Nat.{ℕ, ◌-◌, ◌≤◌}
use native.Mathlib.Omega.{arith}
use lib.ListN.{length, take, drop}
use lib.Seq.{take_all}
use borrow.Author.Rules.{rules}
use Rattle.crc.specs.Crc.{crc32_of}
use Rattle.crc.specs.Lanes.{Read}
use Rattle.crc.proofs.Walk.{walk_rest}
use Rattle.crc.proofs.Braid.{near_turn, read_end_lem}
use Rattle.crc.proofs.crc32.Goals as goal

-- the part that two lanes read is all of the string
whole : (s : List ℕ) (i q0 q2 : ℕ) → let part = take (length s - 0) (drop 0 s) in
    (i ≤ length part) × Read 0x04C11DB7 0xFFFFFFFF part i q0 0 q2 → (i ≤ length s) × Read 0x04C11DB7 0xFFFFFFFF s i q0 0 q2
whole s i q0 q2 = subst (λ xs. (i ≤ length xs) × Read 0x04C11DB7 0xFFFFFFFF xs i q0 0 q2) (take_all (length s - 0) s (omega arith))

pub loop-i-init : goal.loop-i-init
loop-i-init c = whole _ _ _ _ c.two_lanes-lanes.ensures

pub loop-i-preserved : goal.loop-i-preserved
loop-i-preserved c = let here = c.loop-i.invariant.1 in
    (search rules, near_turn here _ _ c.word.ensures c.near.ensures)

pub returns : goal.returns
unfolding crc32_of
returns c = let read = c.loop-i.invariant.1 in
    walk_rest (read_end_lem read (search rules)) c.by_bytes.ensures
