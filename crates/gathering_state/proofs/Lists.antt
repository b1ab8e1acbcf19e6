-- Laws of the lists behind a gathering: each loop's step and end, and what each definition says of single elements.
use Prim.Native.Nat.{ℕ, zero, suc, ◌+◌, ◌-◌, ◌*◌, ◌≤◌, ◌<◌, min, max}
use mathlib.Core.Path.{◌≡◌, refl, ◌∙◌, ap, ap₂}
use mathlib.Core.List.{List, [], ◌∷◌}
use native.Mathlib.Numerals.{add-one}
use native.Mathlib.Nat.{add-zero}
use native.Mathlib.Omega.{arith}
use borrow.Author.Tests.{eq-eqb, ne_eqb}
use lib.ListN.{length, get_or, set, take, drop, replicate, length-drop, length-set, drop_of_length-le}
use lib.Seq.{drop-cons, length-take-le}
use Rattle.gathering_state.specs.Lists.{greatest, smallest_missing, total, held_count, part}

-- ---- the greatest

module _ (s : List ℕ) (i : ℕ) where
  pub greatest_step : i < length s → greatest (drop i s) ≡ max (get_or s i 0) (greatest (drop (i + 1) s))
  unfolding greatest
  greatest_step h = rw (add-one, drop-cons s i 0 h)

  pub greatest_end : length s ≤ i → greatest (drop i s) ≡ 0
  unfolding greatest
  greatest_end h = rw (drop_of_length-le s h)

-- the greatest of a list is that of its two parts' greatest
pub greatest_parts : (n : ℕ) (s : List ℕ) → greatest s ≡ max (greatest (take n s)) (greatest (drop n s))
unfolding greatest
greatest_parts zero s = omega arith
greatest_parts (suc n) [] = refl
greatest_parts (suc n) (x ∷ xs) = let a = greatest_parts n xs in omega arith

-- none is above the greatest
pub greatest_at : (s : List ℕ) (i : ℕ) → get_or s i 0 ≤ greatest s
unfolding greatest
greatest_at [] i = omega arith
greatest_at (n ∷ ns) zero = omega arith
greatest_at (n ∷ ns) (suc i) = let a = greatest_at ns i in omega arith

pub greatest_take : (n : ℕ) (s : List ℕ) → greatest (take n s) ≤ greatest s
unfolding greatest
greatest_take zero s = omega arith
greatest_take (suc n) [] = omega arith
greatest_take (suc n) (x ∷ xs) = let a = greatest_take n xs in omega arith

pub greatest_zeros : (s : List ℕ) → greatest s ≡ 0 → s ≡ replicate (length s) 0
unfolding greatest
greatest_zeros [] e = refl
greatest_zeros (n ∷ ns) e = let a : n ≡ 0 = omega arith in let b = greatest_zeros ns (omega arith) in ap₂ ◌∷◌ a b

pub greatest_set : (s : List ℕ) (i n m : ℕ) → greatest s ≤ m → n ≤ m → greatest (set s i n) ≤ m
unfolding greatest
greatest_set [] i n m h l = h
greatest_set (x ∷ xs) zero n m h l = omega arith
greatest_set (x ∷ xs) (suc i) n m h l = let a = greatest_set xs i n m (omega arith) l in omega arith

pub zeros_greatest : (n : ℕ) → greatest (replicate n 0) ≡ 0
unfolding greatest
zeros_greatest zero = refl
zeros_greatest (suc n) = let a = zeros_greatest n in omega arith

pub zeros_at : (n i : ℕ) → get_or {A = ℕ} (replicate n 0) i 0 ≡ 0
zeros_at zero i = refl
zeros_at (suc n) zero = refl
zeros_at (suc n) (suc i) = zeros_at n i

-- ---- the smallest missing number

-- a missing number is the smallest from there on
pub missing_stop : (s : List ℕ) (k : ℕ) → k < length s → get_or s k 0 ≡ 0 → smallest_missing (drop k s) ≡ 0
unfolding smallest_missing
missing_stop s k h t = rw (drop-cons s k 0 h, eq-eqb (get_or s k 0) 0 t)

module _ (s : List ℕ) (k : ℕ) (e : smallest_missing s ≡ k + smallest_missing (drop k s)) where
  pub missing_end : length s ≤ k → k ≡ smallest_missing s
  unfolding smallest_missing
  missing_end h = rw (e, drop_of_length-le s h, add-zero)

  pub missing_step : k < length s → (get_or s k 0 ≡ 0 → ⊥) → smallest_missing s ≡ (k + 1) + smallest_missing (drop (k + 1) s)
  unfolding smallest_missing
  missing_step h t = e ∙ rw (drop-cons s k 0 h, ne_eqb (get_or s k 0) 0 t, add-one) (omega arith)

-- every number is held: none is missing
pub missing_none : (s : List ℕ) → ((i : ℕ) → i < length s → get_or s i 0 ≡ 0 → ⊥) → smallest_missing s ≡ length s
unfolding smallest_missing
missing_none [] f = refl
missing_none (n ∷ ns) f = rw (ne_eqb n 0 (f 0 (omega arith))) (ap suc (missing_none ns (λ i h. f (suc i) (omega arith))))

-- every number before the smallest missing one is held
pub missing_before : (s : List ℕ) (i : ℕ) → i < smallest_missing s → get_or s i 0 ≡ 0 → ⊥
unfolding smallest_missing
missing_before [] i h e = omega arith
missing_before (zero ∷ ns) i h e = omega arith
missing_before (suc n ∷ ns) zero h e = omega arith
missing_before (suc n ∷ ns) (suc i) h e = let l = rw (ne_eqb (suc n) 0 (λ z. omega arith)) at h in missing_before ns i (omega arith) e

-- ---- the total

module _ (s : List ℕ) (i : ℕ) where
  pub total_step : i < length s → total (drop i s) ≡ (get_or s i 0 - 1) + total (drop (i + 1) s)
  unfolding total
  total_step h = rw (add-one, drop-cons s i 0 h)

  pub total_end : length s ≤ i → total (drop i s) ≡ 0
  unfolding total
  total_end h = rw (drop_of_length-le s h)

-- so many payloads of at most 4,084 bytes
pub total_most : (s : List ℕ) → greatest s ≤ 4084 + 1 → total s ≤ length s * 4084
unfolding greatest total
total_most [] h = omega arith
total_most (n ∷ ns) h = let a = total_most ns (omega arith) in omega arith

-- one number more, of n bytes
pub total_set : (s : List ℕ) (k n : ℕ) → k < length s → get_or s k 0 ≡ 0 → total (set s k (n + 1)) ≡ total s + n
unfolding total
total_set [] k n l e = omega arith
total_set (x ∷ xs) zero n l e = omega arith
total_set (x ∷ xs) (suc k) n l e = let a = total_set xs k n (omega arith) e in omega arith

pub total_none : (s : List ℕ) → greatest s ≡ 0 → total s ≡ 0
unfolding greatest total
total_none [] e = refl
total_none (n ∷ ns) e = let a = total_none ns (omega arith) in omega arith

-- ---- how many are held

-- each number counts once, if it is held
held_cons : (n : ℕ) (ns : List ℕ) → held_count (n ∷ ns) ≡ min n 1 + held_count ns
unfolding held_count
held_cons zero ns = omega arith
held_cons (suc n) ns = rw (ne_eqb (suc n) 0 (λ z. omega arith)) (omega arith)

module _ (s : List ℕ) (i : ℕ) where
  pub held_step : i < length s → held_count (drop i s) ≡ min (get_or s i 0) 1 + held_count (drop (i + 1) s)
  held_step h = rw (add-one, drop-cons s i 0 h) (held_cons (get_or s i 0) (drop (suc i) s))

  pub held_end : length s ≤ i → held_count (drop i s) ≡ 0
  unfolding held_count
  held_end h = rw (drop_of_length-le s h)

pub held_most : (s : List ℕ) → held_count s ≤ length s
held_most [] = let a = held_end [] 0 (omega arith) in omega arith
held_most (n ∷ ns) = let a = held_most ns in let b = held_cons n ns in omega arith

-- one number more
pub held_set : (s : List ℕ) (k n : ℕ) → k < length s → get_or s k 0 ≡ 0 → held_count (set s k (n + 1)) ≡ held_count s + 1
held_set [] k n l e = omega arith
held_set (x ∷ xs) zero n l e = let a = held_cons x xs in let b = held_cons (n + 1) xs in omega arith
held_set (x ∷ xs) (suc k) n l e =
    let a = held_set xs k n (omega arith) e in
    let b = held_cons x xs in
    let d = held_cons x (set xs k (n + 1)) in
    omega arith

pub held_none : (s : List ℕ) → greatest s ≡ 0 → held_count s ≡ 0
unfolding greatest
held_none [] e = held_end [] 0 (omega arith)
held_none (n ∷ ns) e = let a = held_none ns (omega arith) in let b = held_cons n ns in omega arith

-- where none is missing, all are held
pub held_all : (s : List ℕ) → length s ≤ smallest_missing s → held_count s ≡ length s
unfolding smallest_missing
held_all [] l = held_end [] 0 (omega arith)
held_all (zero ∷ ns) l = omega arith
held_all (suc n ∷ ns) l =
    let m = rw (ne_eqb (suc n) 0 (λ z. omega arith)) at l in
    let a = held_all ns (omega arith) in
    let b = held_cons (suc n) ns in
    omega arith

-- where one is not held, fewer are than there are
pub held_fewer : (s : List ℕ) (k : ℕ) → k < length s → get_or s k 0 ≡ 0 → held_count s < length s
held_fewer s k l e = let a = held_set s k 0 l e in let b = held_most (set s k (0 + 1)) in let d = length-set s k (0 + 1) in omega arith

-- ---- a part

pub length_part : (d : List ℕ) (at n : ℕ) → at + n ≤ length d → length (part d at n) ≡ n
unfolding part
length_part d at n h = length-take-le n (drop at d) (simp length-drop (omega arith))

-- the part from at to at + n
pub part_between : (d : List ℕ) (at n : ℕ) → take (at + n - at) (drop at d) ≡ part d at n
unfolding part
part_between d at n = let e : at + n - at ≡ n = omega arith in rw e
