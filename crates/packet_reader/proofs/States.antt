-- The state's bytes after a call mean what is then remembered, and are the same after a refusal.
use Prim.Native.Nat.{ℕ}
use Rattle.ground_refusal.specs.declared.Refusal.{Refusal}
use mathlib.Core.Bool.{Bool, true, false}
use mathlib.Core.List.{List, []}
use mathlib.Core.Path.{◌≡◌, refl}
use native.Mathlib.Omega.{arith}
use lib.Dec.{ltb}
use lib.ListN.{length}
use Rattle.std.specs.Prelude.{if◌then◌else◌, Result, Ok, Err}
use Rattle.ground_refusal.specs.declared.Refusal.TheVariants.{OutputTooSmall}
use Rattle.packet.specs.Judging.{judged}
use Rattle.packet.specs.declared.Judged.{Judged}
use Rattle.packet.specs.declared.Judged.TheVariants.{Damaged, Skipped, Carrying}
use Rattle.packet.proofs.Judging.{carried}
use Rattle.packet_frames.specs.Framing.{Read, joined}
use Rattle.packet_frames.proofs.Growing.{begun_short}
use Rattle.packet_plan.specs.Reading.{read_on}
use Rattle.packet_plan.proofs.Reading.{left_begun}
use Rattle.packet_memory.specs.Memory.{held_after, repeated_once, is_repeat, going_on}
use Rattle.packet_memory.specs.State.{state_bytes, memory_of}
use Rattle.packet_memory.specs.Keeping.{marked, holding, Keeps}
use Rattle.packet_memory.proofs.Leaving.{leaves_may}
use Rattle.packet_memory.proofs.States.{repeat_possible, memory_begun, going_begun}
use Rattle.packet_memory.proofs.Keeping.{memory_holding, memory_repeated, memory_damaged}
use Rattle.packet_reader.specs.Unpacking.{refuses, gives, fitting, carrying, verdict_on, unpacking}
use Rattle.packet_reader.specs.Answers.{verdict_for, state_read, state_taken, state_on, state_after, StateBy}

module _ (s p : List ℕ) (room : ℕ) (n : length s ≡ state_bytes) where
  module _ (c : judged p ≡ Ok Carrying) where
    r : Read
    r = read_on (going_on (memory_of s) p) p

    keeps : Keeps s p r.unfinished
    unfolding r
    keeps =
        let u = going_on (memory_of s) p in
        let b = left_begun u p (going_begun (memory_of s) p (memory_begun s)) in
        record {
          size = n;
          packet = (carried p c).size;
          short = begun_short (read_on u p).unfinished b;
          carries = c;
          begun = b;
          may = leaves_may u p;
        }

    read_means : StateBy (fitting room p r) s (state_read s room p r)
    unfolding fitting state_read StateBy
    read_means = go (ltb room (length (joined r.sections)))
      where
        go : (b : Bool)
            → StateBy (if b then refuses OutputTooSmall else gives r.sections (held_after r.unfinished p)) s
            (if b then s else holding s r.unfinished p)
        go true = refl
        go false = memory_holding s p r.unfinished keeps

    taken_means : StateBy (carrying room (memory_of s) p) s (state_taken s room p)
    unfolding carrying state_taken StateBy r
    taken_means = go (is_repeat (memory_of s) p) refl
      where
        go : (b : Bool) → is_repeat (memory_of s) p ≡ b
            → StateBy (if b then gives [] (repeated_once (memory_of s)) else fitting room p (read_on (going_on (memory_of s) p) p)) s
            (if b then marked 2 s else state_read s room p (read_on (going_on (memory_of s) p) p))
        go true e = memory_repeated s (omega arith) (repeat_possible s p e (carried p c).size)
        go false e = read_means

  means_on : (j : Result Judged Refusal) → judged p ≡ j → StateBy (verdict_on j room (memory_of s) p) s (state_on j s room p)
  unfolding verdict_on state_on StateBy
  means_on (Err why) e = refl
  means_on (Ok Damaged) e = memory_damaged s
  means_on (Ok Skipped) e = refl
  means_on (Ok Carrying) e = taken_means e

-- a refusal leaves the state's bytes; else they mean what is then remembered
pub state_means : (s p out : List ℕ) → length s ≡ state_bytes → StateBy (verdict_for s p out) s (state_after s p out)
unfolding unpacking state_after
state_means s p out n = means_on s p (length out) n (judged p) refl
