-- From a state's bytes that mean a fresh unpacker, the calls give what was packed, in order, and nothing else.
use Prim.Native.Nat.{ℕ, ◌≤◌}
use Rattle.std.specs.Prelude.{Ok}
use mathlib.Core.List.{List, [], ◌∷◌, ◌++◌}
use mathlib.Core.Path.{◌≡◌, refl, sym, ap, ap₂, ◌∙◌, subst}
use native.Mathlib.Omega.{arith}
use lib.ListN.{length, take, replicate}
use Rattle.ground_placing.proofs.Placing.{placed_start}
use Rattle.packet.specs.Sizes.{counter_most}
use Rattle.packet_frames.specs.Framing.{joined}
use Rattle.packet_plan.proofs.Plans.{joined_append}
use Rattle.packet_memory.specs.Memory.{Memory, fresh}
use Rattle.packet_memory.specs.State.{state_bytes, is_possible, memory_of}
use Rattle.packet_reader.specs.Unpacking.{Verdict, refuses, gives, unpacking, more, and_then, unpacking_all}
use Rattle.packet_reader.specs.Answers.{answer_by, output_by, verdict_for, StateBy}
use Rattle.packet_reader.proofs.States.{state_means}
use Rattle.packet_writer.specs.Packing.{packed_all}
use Rattle.packet_arrival.specs.Packed.{AllGood}
use Rattle.packet_arrival.specs.Served.{Call, Served}
use Rattle.packet_arrival.proofs.Arrival.{arrives}

-- what a call shows, by the meaning of the state's bytes
record Shown (w : Verdict) (s out left written : List ℕ) (n : ℕ) : Type 0 where
  told : Ok n ≡ answer_by w
  output : written ≡ output_by w out
  means : StateBy w s left

shown : (room : ℕ) (s p : List ℕ) (n : ℕ) (left written : List ℕ) (v : Call room s p n left written)
    → Shown (unpacking room (memory_of s) p) s v.out left written n
shown room s p n left written v =
    subst (λ (x : ℕ). Shown (unpacking x (memory_of s) p) s v.out left written n) v.size
    (record {
      told = v.kept.told;
      output = v.kept.output;
      means = subst (StateBy (verdict_for s p v.out) s) (sym v.kept.state) (state_means s p v.out v.state);
    })

-- one that gives
shows : (ss : List (List ℕ)) (m : Memory) (s out left written : List ℕ) (n : ℕ) → Shown (gives ss m) s out left written n
    → (take n written ≡ joined ss) × (memory_of left ≡ m)
unfolding answer_by output_by StateBy
shows ss m s out left written n u =
    let t = u.told in
    let e : n ≡ length (joined ss) = cc in
    (ap (take n) u.output ∙ placed_start out (joined ss) n e, u.means)

-- what the packets after the first give
rest : (ss₁ ss : List (List ℕ)) (m : Memory) (w : Verdict) → more ss₁ w ≡ gives ss m
    → (ss₂ : List (List ℕ)) × (w ≡ gives ss₂ m) × (ss ≡ ss₁ ++ ss₂)
unfolding more
rest ss₁ ss m (refuses r) e = absurd (let z : ◌≡◌ {A = ℕ} 0 1 = cc in omega arith)
rest ss₁ ss m (gives ss₂ m₂) e = (ss₂, ap (gives ss₂) (let t : m₂ ≡ m = cc in t), let t : ss ≡ ss₁ ++ ss₂ = cc in t)

module _ (room : ℕ) where
  given : (ps : List (List ℕ)) (s : List ℕ) (ss : List (List ℕ)) (m : Memory) (got : List ℕ)
      → unpacking_all room (memory_of s) ps ≡ gives ss m → Served room s ps got → got ≡ joined ss
  unfolding unpacking_all and_then joined
  given [] s ss m got e v = v ∙ ap joined (let t : ◌≡◌ {A = List (List ℕ)} [] ss = cc in t)
  given (p ∷ ps) s ss m got e v =
      go (λ left ts f w. given ps left ts m v.3 f w) (unpacking room (memory_of s) p) e
      (shown room s p v.0 v.1 v.2 v.4)
    where
      go : ((left : List ℕ) (ts : List (List ℕ)) → unpacking_all room (memory_of left) ps ≡ gives ts m → Served room left ps v.3 → v.3 ≡ joined ts)
          → (w : Verdict) → and_then w (λ n. unpacking_all room n ps) ≡ gives ss m
          → Shown w s v.4.out v.1 v.2 v.0 → got ≡ joined ss
      go f (refuses r) e u = absurd (let z : ◌≡◌ {A = ℕ} 0 1 = cc in omega arith)
      go f (gives ss₁ m₁) e u =
          let h = shows ss₁ m₁ s v.4.out v.1 v.2 v.0 u in
          let t = rest ss₁ ss m (unpacking_all room m₁ ps) e in
          v.6
          ∙ ap₂ ◌++◌ h.0 (f v.1 t.0 (ap (λ n. unpacking_all room n ps) h.1 ∙ t.1) v.5)
          ∙ sym (joined_append ss₁ t.0) ∙ ap joined (sym t.2)

-- all zeros is the fresh state
pub zeros_fresh : memory_of (replicate state_bytes 0) ≡ fresh
unfolding memory_of is_possible
zeros_fresh = refl

-- "packing good sections, each from the counter after the last packet's, and unpacking gives them in order"
pub served : (room c : ℕ) (ss : List (List ℕ)) (s got : List ℕ) → 4096 ≤ room → c ≤ counter_most → AllGood ss → memory_of s ≡ fresh
    → Served room s (packed_all c ss) got → got ≡ joined ss
served room c ss s got roomy low fs e v =
    let a = arrives room c ss roomy low fs in
    given room (packed_all c ss) s ss a.0 got (ap (λ m. unpacking_all room m (packed_all c ss)) e ∙ a.1) v
