-- Laws of a glance at a descriptor or a stream: what its tests find is what is asked for.
use Prim.Native.Nat.{ℕ, ◌+◌, ◌-◌, ◌/◌, ◌%◌, ◌≤◌, ◌<◌}
use Rattle.std.specs.Prelude.{Ok}
use mathlib.Core.Path.{◌≡◌, refl, ap, ◌∙◌}
use mathlib.Core.List.{List}
use mathlib.Core.Bool.{true, ◌&&◌}
use native.Mathlib.Omega.{arith}
use native.Mathlib.Nat.{mod-eq_of_lt}
use lib.ListN.{length, get_or}
use lib.Dec.{ltb, leb}
use borrow.Author.Tests.{le-leb, lt-ltb}
use Rattle.body_formats.specs.Format.{number_at}
use Rattle.body_formats.specs.Answers.{number_of, part_of, number_read, part_read}
use Rattle.body_formats.proofs.Classes.{Bytes}
use Rattle.body_formats.proofs.Bits.{reserved_is, part12_is}
use Rattle.body_formats.proofs.Readers.{number_is, part_of_lem}
use Rattle.body_numbers.proofs.Numbers.{number_one, number_two}
use Rattle.body_asking.proofs.Answers.{needed, part_there}
use Rattle.index_stream_fields.specs.Asked.{descriptor_part, stream_pid, stream_descriptors}

-- a number of two bytes, and the first of them
module _ (s : List ℕ) (b : Bytes s) (l p v : ℕ) (inside : l ≤ length s) (lies : p + 2 ≤ l) (e : v ≡ number_at s p 2) where
  first_there : Ok (v / 256, p + 1) ≡ number_read 1 s l p
  first_there =
      let high : v / 256 ≡ get_or s p 0 = omega (arith, b (p + 1), e, number_two s p refl refl) in
      number_is s l p 1 (omega arith) (omega arith) (v / 256) (p + 1) (number_one s p 1 (v / 256) refl high) refl

  both_there : Ok (v, p + 2) ≡ number_read 2 s l p
  both_there = number_is s l p 2 (omega arith) (omega arith) v (p + 2) e refl

module _ (s : List ℕ) (b : Bytes s) (at n : ℕ) (inside : at + n ≤ length s) where
  -- the part lies in the body and has a byte
  present : 0 < n → (ltb 0 n && leb (at + n) (length s)) ≡ true
  present h = rw (lt-ltb 0 n h, le-leb (at + n) (length s) inside)

  pub part_glanced : (m : ℕ) → 2 ≤ n → m ≡ get_or s (at + 1) 0 → m ≤ n - 2 → Ok (at + 2, m) ≡ descriptor_part s at n
  unfolding descriptor_part part_read
  part_glanced m k e h =
      part_there s b (at + n) inside (at + 1) 1 m (at + 2) (number_one s (at + 1) 1 m refl e) (omega arith) (omega arith)
      ∙ ap part_of (needed _ _ _ (present (omega arith)))

  module _ (v : ℕ) (small : v < 65536) where
    pub pid_glanced : 3 ≤ n → v ≡ number_at s (at + 1) 2 → 0xE000 ≤ v → Ok (v - 0xE000, at + 3) ≡ stream_pid s at n
    unfolding stream_pid
    pid_glanced k e h =
        let l = at + n in
        let p = at + 1 in
        let first = first_there s b l p v inside (omega arith) e in
        let whole = both_there s b l p v inside (omega arith) e in
        let bits = reserved_is s l p 3 1 (v / 256) (p + 1) first (let z : v / 256 / 32 ≡ 7 = omega arith in z) v (p + 2) whole in
        let low : v - 0xE000 ≡ v % 8192 = omega arith in
        let q : at + 3 ≡ p + 2 = omega arith in
        rw (low, q) bits ∙ ap number_of (needed _ _ _ (present (omega arith)))

    pub descriptors_glanced : 5 ≤ n → v ≡ number_at s (at + 3) 2 → 0xF000 ≤ v → v - 0xF000 < 1024 → v - 0xF000 ≤ n - 5
        → Ok (at + 5, v - 0xF000) ≡ stream_descriptors s at n
    unfolding stream_descriptors
    descriptors_glanced k e h few fits =
        let l = at + n in
        let p = at + 3 in
        let m = v - 0xF000 in
        let first = first_there s b l p v inside (omega arith) e in
        let whole = both_there s b l p v inside (omega arith) e in
        let bits = reserved_is s l p 4 1 (v / 256) (p + 1) first (let z : v / 256 / 16 ≡ 15 = omega arith in z) v (p + 2) whole in
        let low : m ≡ v % 4096 = omega arith in
        let q : at + 5 ≡ p + 2 = omega arith in
        let counted = part12_is s l p m (p + 2) (rw low bits) in
        rw q (part_of_lem s l p (p + 2) m (omega arith) _ _ (omega arith) (lt-ltb m 1024 few) ∙ (rw (mod-eq_of_lt few) at counted))
        ∙ ap part_of (needed _ _ _ (present (omega arith)))
