-- Laws of free rooms: the one found is free, none is found only where every room is held, and none twice as facts of each room.
use Prim.Native.Nat.{ℕ, zero, suc, ◌+◌, ◌≤◌, ◌<◌}
use mathlib.Core.Path.{◌≡◌, refl, sym, ◌∙◌, ap}
use mathlib.Core.Bool.{true}
use mathlib.Core.List.{List}
use native.Mathlib.Omega.{arith}
use borrow.Author.Tests.{eq-eqb, ne_eqb, eqb-true, eqb-false, leb-true, le-leb}
use lib.Dec.{eqb, leb}
use Rattle.ground_choices.proofs.Tests.{both, and_of}
use Rattle.rooms_marks.specs.Rooms.{uses, none_twice, free_from, free_room}
use Rattle.rooms_marks.proofs.Tests.{Seen, yes_is, no_is, seen}

-- ---- the search

module _ (ps qs : List ℕ) where
  found_here : (r n : ℕ) → uses r ps qs ≡ 0 → free_from ps qs r (suc n) ≡ r
  unfolding free_from
  found_here r n e = rw (eq-eqb (uses r ps qs) 0 e)

  found_later : (r n : ℕ) → (uses r ps qs ≡ 0 → ⊥) → free_from ps qs r (suc n) ≡ free_from ps qs (suc r) n
  unfolding free_from
  found_later r n e = rw (ne_eqb (uses r ps qs) 0 e)

  from_none : (r : ℕ) → free_from ps qs r zero ≡ 0
  unfolding free_from
  from_none r = refl

  free_from_lem : (n r : ℕ) → 1 ≤ free_from ps qs r n → (r ≤ free_from ps qs r n) × (free_from ps qs r n < r + n) × (uses (free_from ps qs r n) ps qs ≡ 0)
  free_from_lem zero r l = let a = from_none r in absurd (omega arith)
  free_from_lem (suc n) r l = go (seen (eqb (uses r ps qs) 0)) (λ m. free_from_lem n (suc r) m)
    where
      go : Seen (eqb (uses r ps qs) 0)
          → (1 ≤ free_from ps qs (suc r) n
          → (suc r ≤ free_from ps qs (suc r) n) × (free_from ps qs (suc r) n < suc r + n) × (uses (free_from ps qs (suc r) n) ps qs ≡ 0))
          → (r ≤ free_from ps qs r (suc n)) × (free_from ps qs r (suc n) < r + suc n) × (uses (free_from ps qs r (suc n)) ps qs ≡ 0)
      go (yes_is e) next =
          let u = eqb-true (uses r ps qs) 0 e in
          let a = found_here r n u in
          (omega arith, omega arith, ap (λ (t : ℕ). uses t ps qs) a ∙ u)
      go (no_is e) next =
          let a = found_later r n (eqb-false (uses r ps qs) 0 e) in
          let b = next (rw a at l) in
          (omega arith, omega arith, ap (λ (t : ℕ). uses t ps qs) a ∙ b.2)

  none_from : (n r : ℕ) → 1 ≤ r → free_from ps qs r n ≡ 0 → (t : ℕ) → r ≤ t → t < r + n → 1 ≤ uses t ps qs
  none_from zero r l e t a b = absurd (omega arith)
  none_from (suc n) r l e t a b = go (seen (eqb (uses r ps qs) 0)) (seen (eqb t r)) (λ f c. none_from n (suc r) (omega arith) f t c (omega arith))
    where
      go : Seen (eqb (uses r ps qs) 0) → Seen (eqb t r) → (free_from ps qs (suc r) n ≡ 0 → suc r ≤ t → 1 ≤ uses t ps qs) → 1 ≤ uses t ps qs
      go (yes_is u) w next = let x = found_here r n (eqb-true (uses r ps qs) 0 u) in absurd (omega arith)
      go (no_is u) (yes_is w) next = let d = eqb-false (uses r ps qs) 0 u in let i : 1 ≤ uses r ps qs = omega arith in rw (eqb-true t r w) i
      go (no_is u) (no_is w) next = let d = eqb-false t r w in next (sym (found_later r n (eqb-false (uses r ps qs) 0 u)) ∙ e) (omega arith)

-- a room that is found is one of the n, and free
pub record FreeIs (n : ℕ) (ps qs : List ℕ) (r : ℕ) : Type 0 where
  pub low : 1 ≤ r
  pub high : r ≤ n
  pub unused : uses r ps qs ≡ 0

pub free_is : (n : ℕ) (ps qs : List ℕ) → 1 ≤ free_room n ps qs → FreeIs n ps qs (free_room n ps qs)
unfolding free_room
free_is n ps qs l = let a = free_from_lem ps qs n 1 l in record { low = l; high = omega arith; unused = a.2 }

pub free_most : (n : ℕ) (ps qs : List ℕ) → free_room n ps qs ≤ n
free_most n ps qs = go (seen (eqb (free_room n ps qs) 0))
  where
    go : Seen (eqb (free_room n ps qs) 0) → free_room n ps qs ≤ n
    go (yes_is e) = let a = eqb-true (free_room n ps qs) 0 e in omega arith
    go (no_is e) = let d = eqb-false (free_room n ps qs) 0 e in (free_is n ps qs (omega arith)).high

-- none is found: every room is held
pub all_held : (n : ℕ) (ps qs : List ℕ) → free_room n ps qs ≡ 0 → (t : ℕ) → 1 ≤ t → t ≤ n → 1 ≤ uses t ps qs
unfolding free_room
all_held n ps qs e t l h = none_from ps qs n 1 (omega arith) e t l (omega arith)

-- a room is free: one is found
pub some_free : (n : ℕ) (ps qs : List ℕ) (t : ℕ) → 1 ≤ t → t ≤ n → uses t ps qs ≡ 0 → 1 ≤ free_room n ps qs
some_free n ps qs t l h u = go (seen (eqb (free_room n ps qs) 0))
  where
    go : Seen (eqb (free_room n ps qs) 0) → 1 ≤ free_room n ps qs
    go (yes_is e) = let a = all_held n ps qs (eqb-true (free_room n ps qs) 0 e) t l h in absurd (omega arith)
    go (no_is e) = let d = eqb-false (free_room n ps qs) 0 e in omega arith

-- ---- no room twice

pub once_at : (n : ℕ) (ps qs : List ℕ) → none_twice n ps qs ≡ true → (r : ℕ) → 1 ≤ r → r ≤ n → uses r ps qs ≤ 1
unfolding none_twice
once_at zero ps qs e r l h = absurd (omega arith)
once_at (suc n) ps qs e r l h =
    let b = both (leb (uses (suc n) ps qs) 1) (none_twice n ps qs) e in
    go (seen (eqb r (suc n))) b (λ w. once_at n ps qs b.1 r l w)
  where
    go : Seen (eqb r (suc n)) → (leb (uses (suc n) ps qs) 1 ≡ true) × (none_twice n ps qs ≡ true)
        → (r ≤ n → uses r ps qs ≤ 1) → uses r ps qs ≤ 1
    go (yes_is z) b next = rw (eqb-true r (suc n) z) (leb-true _ 1 b.0)
    go (no_is z) b next = let d = eqb-false r (suc n) z in next (omega arith)

pub none_twice_lem : (n : ℕ) (ps qs : List ℕ) → ((r : ℕ) → 1 ≤ r → r ≤ n → uses r ps qs ≤ 1) → none_twice n ps qs ≡ true
unfolding none_twice
none_twice_lem zero ps qs f = refl
none_twice_lem (suc n) ps qs f = and_of (le-leb _ 1 (f (suc n) (omega arith) (omega arith))) (none_twice_lem n ps qs (λ r l h. f r l (omega arith)))
