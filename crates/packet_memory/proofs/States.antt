-- Laws of the state's bytes as they are read: each way out of the functions that read them.
use Prim.Native.Nat.{ℕ, zero, suc, ◌+◌, ◌-◌, ◌*◌, ◌%◌, ◌≤◌, ◌<◌}
use mathlib.Core.Bool.{Bool, true, false, ◌&&◌, ◌||◌, and-false, false≢true}
use mathlib.Core.List.{List, [], ◌∷◌}
use mathlib.Core.Path.{◌≡◌, refl, sym, ap, ◌∙◌}
use native.Mathlib.Omega.{arith}
use borrow.Author.Tests.{eq-eqb, ne_eqb, le-leb, lt-leb, leb-true}
use lib.Dec.{eqb, leb}
use lib.ListN.{length, take, drop, length-drop}
use lib.Seq.{length-take-le}
use Rattle.std.specs.Prelude.{if◌then◌else◌}
use Rattle.ground_choices.proofs.Tests.{both}
use Rattle.ground_equal.specs.Same.{same_bytes}
use Rattle.packet.specs.Sizes.{packet_bytes}
use Rattle.packet.specs.Fields.{byte, counter}
use Rattle.packet.specs.Judging.{judged, is_carrying}
use Rattle.packet_frames.specs.Framing.{is_begun, unfinished_most}
use Rattle.packet_frames.proofs.Growing.{nothing_begun_lem}
use Rattle.packet_memory.specs.Memory.{Memory, fresh, is_repeat, follows, going_on}
use Rattle.packet_memory.specs.State.{last_at, unfinished_at, state_bytes, kept_of, last_of, unfinished_of, may_leave, is_possible, memory_of}
use Rattle.packet_memory.specs.Keeping.{Goes}

-- ---- reading

pub kept_is : (s : List ℕ) (x y : ℕ) → (x ≡ byte s 1) × (x ≤ 255) → (y ≡ byte s 2) × (y ≤ 255) → (x * 256 + y ≡ kept_of s) × (x * 256 + y ≤ 65535)
unfolding kept_of
kept_is s x y e f = let h = e.1 in let k = f.1 in (rw (e.0, f.0), omega arith)

module _ (s : List ℕ) where
  pub possible_unmarked : (byte s 0 ≡ 1 → ⊥) → (byte s 0 ≡ 2 → ⊥) → false ≡ is_possible s
  unfolding is_possible
  possible_unmarked h k = simp (ne_eqb (byte s 0) 1 h, ne_eqb (byte s 0) 2 k)

  pub possible_other : is_carrying (judged (last_of s)) ≡ false → false ≡ is_possible s
  unfolding is_possible
  possible_other e = simp (e, and-false)

  pub possible_above : unfinished_most < kept_of s → false ≡ is_possible s
  unfolding is_possible
  possible_above h = simp (lt-leb (kept_of s) unfinished_most h, and-false)

  marked : 0 < byte s 0 → byte s 0 ≤ 2 → (eqb (byte s 0) 1 || eqb (byte s 0) 2) ≡ true
  marked h k = go (byte s 0) h k
    where
      go : (n : ℕ) → 0 < n → n ≤ 2 → (eqb n 1 || eqb n 2) ≡ true
      go zero h k = absurd (omega arith)
      go (suc zero) h k = refl
      go (suc (suc zero)) h k = refl
      go (suc (suc (suc n))) h k = absurd (omega arith)

  pub possible_then : 0 < byte s 0 → byte s 0 ≤ 2 → is_carrying (judged (last_of s)) ≡ true → kept_of s ≤ unfinished_most
      → (is_begun (unfinished_of s) && may_leave (last_of s) (unfinished_of s)) ≡ is_possible s
  unfolding is_possible
  possible_then h k e l = simp (marked h k, e, le-leb (kept_of s) unfinished_most l)

  -- the unfinished bytes, as the part that is lent
  part_kept : (k : ℕ) → k ≡ kept_of s → take (unfinished_at + k - unfinished_at) (drop unfinished_at s) ≡ unfinished_of s
  unfolding unfinished_of
  part_kept k e = ap (λ (n : ℕ). take n (drop unfinished_at s)) less
    where
      less : unfinished_at + k - unfinished_at ≡ kept_of s
      less = omega arith

  pub possible_not_begun : (k : ℕ) → k ≡ kept_of s → is_begun (take (unfinished_at + k - unfinished_at) (drop unfinished_at s)) ≡ false → false ≡ is_possible s
  unfolding is_possible
  possible_not_begun k q b = simp (ap is_begun (sym (part_kept k q)) ∙ b, and-false)

  pub possible_end : (k : ℕ) → k ≡ kept_of s → 0 < byte s 0 → byte s 0 ≤ 2 → is_carrying (judged (last_of s)) ≡ true → k ≤ unfinished_most
      → is_begun (take (unfinished_at + k - unfinished_at) (drop unfinished_at s)) ≡ true
      → may_leave (last_of s) (take (unfinished_at + k - unfinished_at) (drop unfinished_at s)) ≡ is_possible s
  possible_end k q h m c l b =
      ap (may_leave (last_of s)) (part_kept k q)
      ∙ ap (λ t. t && may_leave (last_of s) (unfinished_of s)) (sym b ∙ ap is_begun (part_kept k q))
      ∙ possible_then h m c (omega arith)

  -- what a possible state shows
  pub possible_shows : is_possible s ≡ true
      → (is_carrying (judged (last_of s)) ≡ true) × (kept_of s ≤ unfinished_most)
      × (is_begun (unfinished_of s) ≡ true) × (may_leave (last_of s) (unfinished_of s) ≡ true)
  unfolding is_possible
  possible_shows e =
      let marks = eqb (byte s 0) 1 || eqb (byte s 0) 2 in
      let carries = is_carrying (judged (last_of s)) in
      let short = leb (kept_of s) unfinished_most in
      let z = both (marks && carries && short && is_begun (unfinished_of s)) (may_leave (last_of s) (unfinished_of s)) e in
      let a = both (marks && carries && short) (is_begun (unfinished_of s)) z.0 in
      let b = both (marks && carries) short a.0 in
      let c = both marks carries b.0 in
      (c.1, leb-true (kept_of s) unfinished_most b.1, a.1, z.1)

  pub memory_fresh : is_possible s ≡ false → memory_of s ≡ fresh
  unfolding memory_of
  memory_fresh e = rw e

  pub memory_held : is_possible s ≡ true → memory_of s ≡ record { unfinished = unfinished_of s; last = last_of s; repeated = eqb (byte s 0) 2 }
  unfolding memory_of
  memory_held e = rw e

-- ---- repeats

no_repeat : (p : List ℕ) → length p ≡ packet_bytes → false ≡ same_bytes [] p
unfolding same_bytes
no_repeat [] e = absurd (omega arith)
no_repeat (b ∷ bs) e = refl

module _ (s p : List ℕ) where
  pub repeat_fresh : is_possible s ≡ false → length p ≡ packet_bytes → false ≡ is_repeat (memory_of s) p
  unfolding is_repeat fresh
  repeat_fresh e n = rw (memory_fresh s e) (no_repeat p n)

  module _ (e : is_possible s ≡ true) where
    pub repeat_second : byte s 0 ≡ 2 → false ≡ is_repeat (memory_of s) p
    unfolding is_repeat
    repeat_second m = rw (memory_held s e, m)

    pub repeat_then : (byte s 0 ≡ 2 → ⊥) → same_bytes (last_of s) p ≡ is_repeat (memory_of s) p
    unfolding is_repeat
    repeat_then m = rw (memory_held s e, ne_eqb (byte s 0) 2 m)

-- ---- gaps

follows_is : (l p : List ℕ) → length l ≡ packet_bytes → follows l p ≡ eqb (counter p) ((counter l + 1) % 16)
unfolding follows
follows_is [] p e = absurd (omega arith)
follows_is (b ∷ bs) p e = refl

module _ (s p : List ℕ) where
  pub going_nothing : is_possible s ≡ false → Goes s p 0
  unfolding going_on fresh
  going_nothing e = record { is = rw (memory_fresh s e) (either (follows [] p)); most = omega arith; begun = nothing_begun_lem }
    where
      either : (b : Bool) → (if b then [] else []) ≡ take 0 (drop unfinished_at s)
      either true = refl
      either false = refl

  module _ (e : is_possible s ≡ true) (n : length s ≡ state_bytes) where
    last_length : length (last_of s) ≡ packet_bytes
    unfolding last_of
    last_length = length-take-le packet_bytes (drop last_at s) (let l = length-drop last_at s in omega arith)

    pub going_gap : (x y : ℕ) → x ≡ counter p → y ≡ counter (last_of s) → (x ≡ (y + 1) % 16 → ⊥) → Goes s p 0
    unfolding going_on
    going_gap x y a b h =
        record {
          is = rw (memory_held s e, follows_is (last_of s) p last_length, ← a, ← b, ne_eqb x ((y + 1) % 16) h);
          most = omega arith;
          begun = nothing_begun_lem;
        }

    pub going_then : (x y k : ℕ) → x ≡ counter p → y ≡ counter (last_of s) → x ≡ (y + 1) % 16 → k ≡ kept_of s → Goes s p k
    unfolding going_on unfinished_of
    going_then x y k a b h q =
        let v = possible_shows s e in
        let w = v.1 in
        record {
          is = rw (memory_held s e, follows_is (last_of s) p last_length, ← a, ← b, eq-eqb x ((y + 1) % 16) h, q);
          most = omega arith;
          begun = rw q v.2;
        }

-- only a state that holds something has a repeat
pub repeat_possible : (s p : List ℕ) → is_repeat (memory_of s) p ≡ true → length p ≡ packet_bytes → is_possible s ≡ true
repeat_possible s p e n = go (is_possible s) refl
  where
    go : (b : Bool) → is_possible s ≡ b → is_possible s ≡ true
    go true q = q
    go false q = absurd (false≢true (repeat_fresh s p q n ∙ e))

-- ---- what is unfinished may be kept

pub memory_begun : (s : List ℕ) → is_begun (memory_of s).unfinished ≡ true
unfolding fresh
memory_begun s = go (is_possible s) refl
  where
    go : (b : Bool) → is_possible s ≡ b → is_begun (memory_of s).unfinished ≡ true
    go true e = ap (λ m. is_begun m.unfinished) (memory_held s e) ∙ (possible_shows s e).2
    go false e = ap (λ m. is_begun m.unfinished) (memory_fresh s e) ∙ nothing_begun_lem

pub going_begun : (m : Memory) (p : List ℕ) → is_begun m.unfinished ≡ true → is_begun (going_on m p) ≡ true
unfolding going_on
going_begun m p e = go (follows m.last p)
  where
    go : (b : Bool) → is_begun (if b then m.unfinished else []) ≡ true
    go true = e
    go false = nothing_begun_lem
