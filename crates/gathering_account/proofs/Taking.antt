-- A section that is taken: its contents stand in the store, and the other held payloads stand as before.
use Prim.Native.Nat.{ℕ, ◌+◌, ◌-◌, ◌≤◌, ◌<◌}
use mathlib.Core.Path.{◌≡◌, refl}
use mathlib.Core.Bool.{Bool, true, false}
use mathlib.Core.List.{List}
use native.Mathlib.Omega.{arith}
use borrow.Author.Tests.{ltb-true, ltb-false}
use lib.Dec.{ltb}
use lib.ListN.{length, get_or, set}
use lib.Seq.{get_or-set_same, get_or-set_other}
use Rattle.ground_placing.specs.Placed.{placed}
use Rattle.gathering_state.specs.Lists.{part}
use Rattle.gathering_state.specs.State.{place, held_payload, with_section}
use Rattle.gathering_state.specs.declared.Gathering.{Gathering}
use Rattle.gathering_state.proofs.State.{place_apart}
use Rattle.gathering_account.proofs.Parts.{part_same, part_before, part_after_lem}

module _ (g : Gathering) (store : List ℕ) (k : ℕ) (p : List ℕ) (within : place k + 4084 ≤ length store) (short : length p ≤ 4084) where
  -- the contents taken
  pub held_new : k < length g.held → held_payload (with_section g k (length p)) (placed store (place k) p) k ≡ p
  unfolding held_payload with_section
  held_new l =
      let e : get_or (set g.held k (length p + 1)) k 0 - 1 ≡ length p = rw (get_or-set_same g.held k (length p + 1) 0 l) (omega arith) in
      rw e (part_same store (place k) p (omega arith))

  -- another number's
  pub held_other : (j : ℕ) → (j ≡ k → ⊥) → get_or g.held j 0 ≤ 4085
      → held_payload (with_section g k (length p)) (placed store (place k) p) j ≡ held_payload g store j
  unfolding held_payload with_section
  held_other j ne l = rw (get_or-set_other g.held k j (length p + 1) 0 ne) (go (ltb j k) refl)
    where
      go : (b : Bool) → ltb j k ≡ b → part (placed store (place k) p) (place j) (get_or g.held j 0 - 1) ≡ part store (place j) (get_or g.held j 0 - 1)
      go true e =
          let a = place_apart j k (ltb-true j k e) in
          part_before store (place k) p (omega arith) (place j) (get_or g.held j 0 - 1) (omega arith)
      go false e =
          let b = ltb-false j k e in
          let a = place_apart k j (omega arith) in
          part_after_lem store (place k) p (omega arith) (place j) (get_or g.held j 0 - 1) (omega arith)
