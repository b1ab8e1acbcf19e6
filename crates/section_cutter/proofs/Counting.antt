-- Laws of the sections of a body: how many they are, where each part begins, and how long it is.
use Prim.Native.Nat.{ℕ, suc, ◌+◌, ◌-◌, ◌*◌, ◌≤◌, ◌<◌, min}
use mathlib.Core.Bool.{Bool, true, false}
use mathlib.Core.List.{List}
use mathlib.Core.Path.{◌≡◌, refl, sym, ap, ◌∙◌}
use native.Mathlib.Nat.{min-eq_left}
use native.Mathlib.Omega.{arith}
use borrow.Author.Tests.{le-ltb, ne_eqb, eqb-false, ltb-false, leb-true, leb-false}
use lib.Dec.{eqb, leb, ltb}
use lib.ListN.{length, take, drop, length-take, length-drop}
use lib.Seq.{take_all}
use Rattle.ground_numbers.specs.Sizes.{payload_most, body_most}
use Rattle.ground_refusal.specs.declared.Refusal.TheVariants.{PastBody, TooLarge}
use Rattle.section_cutter.specs.Cutting.{part_start, section_count, part_carried, counted_of}
use Rattle.std.specs.Prelude.{if◌then◌else◌, Ok, Err}

-- ---- places, 4,084 bytes apart

pub place_zero : part_start 0 ≡ 0
unfolding part_start
place_zero = refl

pub place_suc : (k : ℕ) → part_start (suc k) ≡ part_start k + payload_most
unfolding part_start
place_suc k = omega arith

-- ---- the count

pub counted_is : (n : ℕ) → 0 < n → n ≤ body_most → counted_of n ≡ Ok (section_count n)
unfolding counted_of
counted_is n h h' = rw (ne_eqb n 0 (omega arith), le-ltb body_most n h')

-- what an answer of the count shows
pub counted_some : (n k : ℕ) → counted_of n ≡ Ok k → (k ≡ section_count n) × (0 < n) × (n ≤ body_most)
unfolding counted_of
counted_some n k e = go (eqb n 0) (ltb body_most n) refl refl e
  where
    go : (a b : Bool) → eqb n 0 ≡ a → ltb body_most n ≡ b
        → (if a then Err (PastBody 0) else if b then Err TooLarge else Ok (section_count n)) ≡ Ok k
        → (k ≡ section_count n) × (0 < n) × (n ≤ body_most)
    go true b p q e = let z : ◌≡◌ {A = ℕ} 0 1 = cc in absurd (omega arith)
    go false true p q e = let z : ◌≡◌ {A = ℕ} 0 1 = cc in absurd (omega arith)
    go false false p q e = let d = eqb-false n 0 p in let l = ltb-false body_most n q in (cc, omega arith, l)

-- a section begins in the body, and the last one ends it
pub begins_within : (n k : ℕ) → k < section_count n → part_start k < n
unfolding part_start section_count
begins_within n k h = omega arith

pub ends_within : (n : ℕ) → n ≤ part_start (section_count n)
unfolding part_start section_count
ends_within n = omega arith

pub count_some : (n : ℕ) → 0 < n → 0 < section_count n
unfolding section_count
count_some n h = omega arith

pub count_most : (n : ℕ) → n ≤ body_most → section_count n ≤ 256
unfolding section_count
count_most n h = omega arith

-- "bodies of 4,084, 4,085 and 1,045,504 bytes make 1, 2 and 256 sections"
pub counts : (section_count 4084 ≡ 1) × (section_count 4085 ≡ 2) × (section_count 1045504 ≡ 256)
unfolding section_count
counts = (refl, refl, refl)

-- ---- the part that a section carries

take_least : (n m : ℕ) (s : List ℕ) → n ≡ min m (length s) → take n s ≡ take m s
take_least n m s e = go (leb m (length s)) refl
  where
    go : (t : Bool) → leb m (length s) ≡ t → take n s ≡ take m s
    go true h = ap (λ (k : ℕ). take k s) (e ∙ min-eq_left (leb-true m (length s) h))
    go false h = let l = leb-false m (length s) h in take_all n s (omega arith) ∙ sym (take_all m s (omega arith))

pub part_is : (body : List ℕ) (k n : ℕ) → n ≡ min payload_most (length body - k * payload_most) → take (k * payload_most + n - k * payload_most) (drop (k * payload_most) body) ≡ part_carried body k
unfolding part_carried part_start
part_is body k n e =
    let f : k * payload_most + n - k * payload_most ≡ n = omega arith in
    rw f (take_least n payload_most (drop (k * payload_most) body) (rw (length-drop (k * payload_most) body) e))

pub part_count : (body : List ℕ) (k n : ℕ) → n ≡ min payload_most (length body - k * payload_most) → n ≡ length (part_carried body k)
unfolding part_carried part_start
part_count body k n e = e ∙ sym (length-take payload_most (drop (k * payload_most) body) ∙ rw length-drop)

pub part_length : (body : List ℕ) (k : ℕ) → length (part_carried body k) ≤ payload_most
unfolding part_carried
part_length body k = simp (length-take, length-drop) (omega arith)

-- every section but the last is full
pub part_full : (body : List ℕ) (k : ℕ) → suc k < section_count (length body) → length (part_carried body k) ≡ payload_most
unfolding part_carried
part_full body k h =
    let b = begins_within (length body) (suc k) h in
    let p = place_suc k in
    simp (length-take, length-drop) (omega arith)

-- and none is empty
pub part_some : (body : List ℕ) (k : ℕ) → k < section_count (length body) → 0 < length (part_carried body k)
unfolding part_carried
part_some body k h = let b = begins_within (length body) k h in simp (length-take, length-drop) (omega arith)
