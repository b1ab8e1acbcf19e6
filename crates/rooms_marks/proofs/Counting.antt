-- Laws of counting in lists: a room more, no rooms, and all rooms together.
use Prim.Native.Nat.{ℕ, zero, suc, ◌+◌, ◌≤◌, ◌<◌}
use mathlib.Core.Path.{◌≡◌, refl}
use mathlib.Core.List.{List, [], ◌∷◌}
use mathlib.Core.Logic.{◌⊎◌, inl, inr, ⊎_elim}
use native.Mathlib.Numerals.{add-one}
use native.Mathlib.Omega.{arith}
use borrow.Author.Tests.{eq-eqb, ne_eqb, eqb-true, eqb-false}
use lib.Dec.{eqb}
use lib.ListN.{length, get_or, set, replicate, drop, drop_of_length-le}
use lib.Seq.{drop-cons}
use Rattle.rooms_marks.proofs.Tests.{Seen, yes_is, no_is, seen}
use Rattle.rooms_marks.specs.Rooms.{count, held_rooms, uses, free_rooms}

-- ---- one element

pub count_here : (x y : ℕ) (ys : List ℕ) → y ≡ x → count x (y ∷ ys) ≡ suc (count x ys)
unfolding count
count_here x y ys e = rw (eq-eqb y x e)

pub count_later : (x y : ℕ) (ys : List ℕ) → (y ≡ x → ⊥) → count x (y ∷ ys) ≡ count x ys
unfolding count
count_later x y ys e = rw (ne_eqb y x e)

-- the same before both
count_cons : (x y : ℕ) (ys zs : List ℕ) (n : ℕ) → count x zs ≡ n + count x ys → count x (y ∷ zs) ≡ n + count x (y ∷ ys)
count_cons x y ys zs n e = go (seen (eqb y x))
  where
    go : Seen (eqb y x) → count x (y ∷ zs) ≡ n + count x (y ∷ ys)
    go (yes_is h) = let q = eqb-true y x h in let a = count_here x y zs q in let b = count_here x y ys q in omega arith
    go (no_is h) = let q = eqb-false y x h in let a = count_later x y zs q in let b = count_later x y ys q in omega arith

-- ---- where 0 stood, v is set

pub count_set_same : (L : List ℕ) (k v : ℕ) → k < length L → get_or L k 0 ≡ 0 → 1 ≤ v → count v (set L k v) ≡ 1 + count v L
count_set_same [] k v h e l = absurd (omega arith)
count_set_same (y ∷ ys) zero v h e l = let a = count_here v v ys refl in let b = count_later v y ys (λ q. omega arith) in omega arith
count_set_same (y ∷ ys) (suc k) v h e l = count_cons v y ys (set ys k v) 1 (count_set_same ys k v (omega arith) e l)

pub count_set_other : (L : List ℕ) (k v x : ℕ) → get_or L k 0 ≡ 0 → 1 ≤ x → (v ≡ x → ⊥) → count x (set L k v) ≡ count x L
count_set_other [] k v x e l d = refl
count_set_other (y ∷ ys) zero v x e l d = let a = count_later x v ys d in let b = count_later x y ys (λ q. omega arith) in omega arith
count_set_other (y ∷ ys) (suc k) v x e l d = let q = count_set_other ys k v x e l d in let r = count_cons x y ys (set ys k v) 0 (omega arith) in omega arith

pub count_zeros : (x n : ℕ) → 1 ≤ x → count x (replicate n 0) ≡ 0
unfolding count
count_zeros x zero l = refl
count_zeros x (suc n) l = let a = count_zeros x n l in let b = count_later x 0 (replicate n 0) (λ q. omega arith) in omega arith

pub zeros_at : (n k : ℕ) → get_or {A = ℕ} (replicate n 0) k 0 ≡ 0
zeros_at zero k = refl
zeros_at (suc n) zero = refl
zeros_at (suc n) (suc k) = zeros_at n k

count_more : (x y : ℕ) (ys : List ℕ) → count x ys ≤ count x (y ∷ ys)
count_more x y ys = go (seen (eqb y x))
  where
    go : Seen (eqb y x) → count x ys ≤ count x (y ∷ ys)
    go (yes_is h) = let a = count_here x y ys (eqb-true y x h) in omega arith
    go (no_is h) = let a = count_later x y ys (eqb-false y x h) in omega arith

-- what stands somewhere is counted
pub count_at : (L : List ℕ) (k x : ℕ) → k < length L → get_or L k 0 ≡ x → 1 ≤ count x L
count_at [] k x h e = absurd (omega arith)
count_at (y ∷ ys) zero x h e = let a = count_here x y ys e in omega arith
count_at (y ∷ ys) (suc k) x h e = let a = count_at ys k x (omega arith) e in let b = count_more x y ys in omega arith

-- ---- how many are held

pub held_later : (y : ℕ) (ys : List ℕ) → y ≡ 0 → held_rooms (y ∷ ys) ≡ held_rooms ys
unfolding held_rooms
held_later y ys e = rw (eq-eqb y 0 e)

pub held_here : (y : ℕ) (ys : List ℕ) → (y ≡ 0 → ⊥) → held_rooms (y ∷ ys) ≡ suc (held_rooms ys)
unfolding held_rooms
held_here y ys e = rw (ne_eqb y 0 e)

pub held_zeros : (n : ℕ) → held_rooms (replicate n 0) ≡ 0
unfolding held_rooms
held_zeros zero = refl
held_zeros (suc n) = let a = held_zeros n in let b = held_later 0 (replicate n 0) refl in omega arith

pub held_set : (L : List ℕ) (k v : ℕ) → k < length L → get_or L k 0 ≡ 0 → 1 ≤ v → held_rooms (set L k v) ≡ suc (held_rooms L)
held_set [] k v h e l = absurd (omega arith)
held_set (y ∷ ys) zero v h e l = let a = held_here v ys (λ q. omega arith) in let b = held_later y ys e in omega arith
held_set (y ∷ ys) (suc k) v h e l = go (held_set ys k v (omega arith) e l) (seen (eqb y 0))
  where
    go : held_rooms (set ys k v) ≡ suc (held_rooms ys) → Seen (eqb y 0) → held_rooms (y ∷ set ys k v) ≡ suc (held_rooms (y ∷ ys))
    go i (yes_is h) = let q = eqb-true y 0 h in let a = held_later y ys q in let b = held_later y (set ys k v) q in omega arith
    go i (no_is h) = let q = eqb-false y 0 h in let a = held_here y ys q in let b = held_here y (set ys k v) q in omega arith

-- ---- all rooms together

-- f 1 + .. + f n
unfoldable pub sum_to : (ℕ → ℕ) → ℕ → ℕ
sum_to f zero = 0
sum_to f (suc n) = f (suc n) + sum_to f n

pub sum_add : (f g : ℕ → ℕ) (n : ℕ) → sum_to (λ r. f r + g r) n ≡ sum_to f n + sum_to g n
unfolding sum_to
sum_add f g zero = refl
sum_add f g (suc n) = let a = sum_add f g n in omega arith

-- counted by each of n values, an element that is none of them adds nothing, and one of them adds one
sum_out : (y : ℕ) (ys : List ℕ) (n : ℕ) → (n < y) ⊎ (y ≡ 0) → sum_to (λ r. count r (y ∷ ys)) n ≡ sum_to (λ r. count r ys) n
unfolding sum_to
sum_out y ys zero h = refl
sum_out y ys (suc n) h =
    let a = sum_out y ys n (⊎_elim (λ l. inl (omega arith)) (λ e. inr e) h) in
    let b = count_later (suc n) y ys (λ q. ⊎_elim (λ l. omega arith) (λ e. omega arith) h) in
    omega arith

sum_in : (y : ℕ) (ys : List ℕ) (n : ℕ) → 1 ≤ y → y ≤ n → sum_to (λ r. count r (y ∷ ys)) n ≡ suc (sum_to (λ r. count r ys) n)
unfolding sum_to
sum_in y ys zero l h = absurd (omega arith)
sum_in y ys (suc n) l h = go (seen (eqb y (suc n))) (λ m. sum_in y ys n l m)
  where
    go : Seen (eqb y (suc n)) → (y ≤ n → sum_to (λ r. count r (y ∷ ys)) n ≡ suc (sum_to (λ r. count r ys) n))
        → count (suc n) (y ∷ ys) + sum_to (λ r. count r (y ∷ ys)) n ≡ suc (count (suc n) ys + sum_to (λ r. count r ys) n)
    go (yes_is e) next = let q = eqb-true y (suc n) e in let a = count_here (suc n) y ys q in let b = sum_out y ys n (inl (omega arith)) in omega arith
    go (no_is e) next = let q = eqb-false y (suc n) e in let a = count_later (suc n) y ys q in let b = next (omega arith) in omega arith

nothing_sums : (n : ℕ) → sum_to (λ r. count r []) n ≡ 0
unfolding sum_to count
nothing_sums zero = refl
nothing_sums (suc n) = let a = nothing_sums n in omega arith

-- where all are at most n, those that are not 0 are those counted by 1 to n
pub sum_counts : (L : List ℕ) (n : ℕ) → ((k : ℕ) → get_or L k 0 ≤ n) → sum_to (λ r. count r L) n ≡ held_rooms L
unfolding held_rooms
sum_counts [] n f = nothing_sums n
sum_counts (y ∷ ys) n f = go (seen (eqb y 0)) (sum_counts ys n (λ k. f (suc k)))
  where
    go : Seen (eqb y 0) → sum_to (λ r. count r ys) n ≡ held_rooms ys → sum_to (λ r. count r (y ∷ ys)) n ≡ held_rooms (y ∷ ys)
    go (yes_is e) i = let q = eqb-true y 0 e in let a = sum_out y ys n (inr q) in let b = held_later y ys q in omega arith
    go (no_is e) i = let q = eqb-false y 0 e in let l = f 0 in let a = sum_in y ys n (omega arith) l in let b = held_here y ys q in omega arith

-- ---- held and free

module _ (ps qs : List ℕ) (n : ℕ) where
  free_here : uses (suc n) ps qs ≡ 0 → free_rooms (suc n) ps qs ≡ suc (free_rooms n ps qs)
  unfolding free_rooms
  free_here e = rw (eq-eqb (uses (suc n) ps qs) 0 e)

  free_not : (uses (suc n) ps qs ≡ 0 → ⊥) → free_rooms (suc n) ps qs ≡ free_rooms n ps qs
  unfolding free_rooms
  free_not e = rw (ne_eqb (uses (suc n) ps qs) 0 e)

-- each of n rooms is held once or free
held_or_free : (n : ℕ) (ps qs : List ℕ) → ((r : ℕ) → 1 ≤ r → r ≤ n → uses r ps qs ≤ 1) → sum_to (λ r. uses r ps qs) n + free_rooms n ps qs ≡ n
unfolding sum_to free_rooms
held_or_free zero ps qs f = refl
held_or_free (suc n) ps qs f = go (seen (eqb (uses (suc n) ps qs) 0)) (held_or_free n ps qs (λ r l h. f r l (omega arith)))
  where
    go : Seen (eqb (uses (suc n) ps qs) 0) → sum_to (λ r. uses r ps qs) n + free_rooms n ps qs ≡ n
        → uses (suc n) ps qs + sum_to (λ r. uses r ps qs) n + free_rooms (suc n) ps qs ≡ suc n
    go (yes_is e) i = let u = eqb-true (uses (suc n) ps qs) 0 e in let a = free_here ps qs n u in omega arith
    go (no_is e) i =
        let u = eqb-false (uses (suc n) ps qs) 0 e in
        let a = free_not ps qs n u in
        let b = f (suc n) (omega arith) (omega arith) in
        omega arith

uses_sum : (n : ℕ) (ps qs : List ℕ) → ((k : ℕ) → get_or ps k 0 ≤ n) → ((k : ℕ) → get_or qs k 0 ≤ n)
    → sum_to (λ r. uses r ps qs) n ≡ held_rooms ps + held_rooms qs
unfolding uses
uses_sum n ps qs f g =
    let a = sum_add (λ r. count r ps) (λ r. count r qs) n in
    let b = sum_counts ps n f in
    let c = sum_counts qs n g in
    omega arith

-- where the rooms held are some of n, and none is held twice, held and free rooms are n together
pub held_and_free : (n : ℕ) (ps qs : List ℕ) → ((k : ℕ) → get_or ps k 0 ≤ n) → ((k : ℕ) → get_or qs k 0 ≤ n) → ((r : ℕ) → 1 ≤ r → r ≤ n → uses r ps qs ≤ 1)
    → held_rooms ps + held_rooms qs + free_rooms n ps qs ≡ n
held_and_free n ps qs f g once = let a = uses_sum n ps qs f g in let b = held_or_free n ps qs once in omega arith

-- ---- how many are held, one at a time

module _ (s : List ℕ) (i : ℕ) where
  pub held_step : i < length s → (get_or s i 0 ≡ 0 → ⊥) → held_rooms (drop i s) ≡ suc (held_rooms (drop (i + 1) s))
  held_step h e = rw (add-one, drop-cons s i 0 h) (held_here (get_or s i 0) (drop (suc i) s) e)

  pub held_skip : i < length s → get_or s i 0 ≡ 0 → held_rooms (drop i s) ≡ held_rooms (drop (i + 1) s)
  held_skip h e = rw (add-one, drop-cons s i 0 h) (held_later (get_or s i 0) (drop (suc i) s) e)

  pub held_end : length s ≤ i → held_rooms (drop i s) ≡ 0
  unfolding held_rooms
  held_end h = rw (drop_of_length-le s h)
