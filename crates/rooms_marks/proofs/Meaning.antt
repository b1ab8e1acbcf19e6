-- The marks mean the rooms: a mark is how often its room is held, so the code's free room and its test are those of the definitions.
use Prim.Native.Nat.{ℕ, zero, suc, ◌+◌, ◌≤◌, ◌<◌, min}
use mathlib.Core.Path.{◌≡◌, refl, sym, ◌∙◌, ap}
use mathlib.Core.Bool.{true}
use mathlib.Core.List.{List, [], ◌∷◌}
use native.Mathlib.Omega.{arith}
use borrow.Author.Tests.{eq-eqb, ne_eqb, eqb-true, eqb-false, le-leb, leb-true}
use lib.Dec.{eqb, leb}
use lib.ListN.{length, get_or, replicate, length-set, length-replicate}
use lib.Seq.{get_or-set_same, get_or-set_other}
use Rattle.ground_choices.proofs.Tests.{both, and_of}
use Rattle.rooms_marks.specs.Rooms.{count, uses, none_twice, free_from, free_room}
use Rattle.rooms_marks.proofs.Tests.{Seen, yes_is, no_is, seen, same_answer}
use Rattle.rooms_marks.proofs.Counting.{count_here, count_later, zeros_at}
use Rattle.rooms_marks.proofs.Free.{once_at, none_twice_lem}
use Rattle.rooms_marks.proofs.Marking.{raised_some}
use Rattle.rooms_marks.specs.Marks.{raised_at, marked, marks_of, free_mark, all_once}

-- ---- a mark is how often its room stands in the list

raised_long : (marks : List ℕ) (r : ℕ) → length (raised_at marks r) ≡ length marks
unfolding raised_at
raised_long marks zero = refl
raised_long marks (suc r) = length-set marks (suc r) (min 2 (get_or marks (suc r) 0 + 1))

marked_long : (rs marks : List ℕ) → length (marked marks rs) ≡ length marks
unfolding marked
marked_long [] marks = refl
marked_long (r ∷ rs) marks = marked_long rs (raised_at marks r) ∙ raised_long marks r

count_none : (k : ℕ) → count k [] ≡ 0
unfolding count
count_none k = refl

-- its own mark is one more, up to 2, and another's stays
raised_here : (marks : List ℕ) (k : ℕ) → 0 < k → k < length marks → get_or (raised_at marks k) k 0 ≡ min 2 (get_or marks k 0 + 1)
raised_here marks k p h = rw (raised_some marks k p) (get_or-set_same marks k (min 2 (get_or marks k 0 + 1)) 0 h)

raised_other : (marks : List ℕ) (r k : ℕ) → (k ≡ r → ⊥) → get_or (raised_at marks r) k 0 ≡ get_or marks k 0
unfolding raised_at
raised_other marks zero k s = refl
raised_other marks (suc r) k s = get_or-set_other marks (suc r) k (min 2 (get_or marks (suc r) 0 + 1)) 0 s

-- room k was marked j times so far
pub marked_at : (rs marks : List ℕ) (k j : ℕ) → 0 < k → k < length marks → get_or marks k 0 ≡ min 2 j → get_or (marked marks rs) k 0 ≡ min 2 (j + count k rs)
unfolding marked
marked_at [] marks k j p h e = let a = count_none k in omega arith
marked_at (r ∷ rs) marks k j p h e = go (seen (eqb r k)) (λ i f. marked_at rs (raised_at marks r) k i p (rw (raised_long marks r) h) f)
  where
    go : Seen (eqb r k) → ((i : ℕ) → get_or (raised_at marks r) k 0 ≡ min 2 i → get_or (marked (raised_at marks r) rs) k 0 ≡ min 2 (i + count k rs))
        → get_or (marked (raised_at marks r) rs) k 0 ≡ min 2 (j + count k (r ∷ rs))
    go (yes_is q) next =
        let s = eqb-true r k q in
        let a = count_here k r rs s in
        let m : get_or (raised_at marks r) k 0 ≡ min 2 (get_or marks k 0 + 1) = rw s (raised_here marks k p h) in
        let b = next (j + 1) (omega arith) in
        omega arith
    go (no_is q) next =
        let s = eqb-false r k q in
        let a = count_later k r rs s in
        let b = next j (raised_other marks r k (λ z. s (sym z)) ∙ e) in
        omega arith

pub marks_long : (one two : List ℕ) → length (marks_of one two) ≡ 513
unfolding marks_of
marks_long one two = marked_long two (marked (replicate 513 0) one) ∙ marked_long one (replicate 513 0) ∙ length-replicate {A = ℕ} 513 0

pub mark_is : (ps qs : List ℕ) (r : ℕ) → 0 < r → r ≤ 512 → get_or (marks_of ps qs) r 0 ≡ min 2 (uses r ps qs)
unfolding marks_of uses
mark_is ps qs r p h =
    let l = length-replicate {A = ℕ} 513 0 in
    let a = marked_at ps (replicate 513 0) r 0 p (omega arith) (zeros_at 513 r) in
    let m = marked_long ps (replicate 513 0) in
    marked_at qs (marked (replicate 513 0) ps) r (0 + count r ps) p (omega arith) a ∙ ap (λ (x : ℕ). min 2 (x + count r qs)) (omega arith)

-- ---- the free room

module _ (ps qs : List ℕ) where
  abbrev marks : List ℕ
  marks = marks_of ps qs

  same_test : (r : ℕ) → 0 < r → r ≤ 512 → eqb (get_or marks r 0) 0 ≡ eqb (uses r ps qs) 0
  same_test r p h = go (seen (eqb (uses r ps qs) 0)) (mark_is ps qs r p h)
    where
      go : Seen (eqb (uses r ps qs) 0) → get_or marks r 0 ≡ min 2 (uses r ps qs) → eqb (get_or marks r 0) 0 ≡ eqb (uses r ps qs) 0
      go (yes_is e) m = let u = eqb-true (uses r ps qs) 0 e in eq-eqb (get_or marks r 0) 0 (omega arith) ∙ sym e
      go (no_is e) m = let u = eqb-false (uses r ps qs) 0 e in ne_eqb (get_or marks r 0) 0 (λ z. omega arith) ∙ sym e

  free_same : (n r : ℕ) → 0 < r → r + n ≤ 513 → free_mark marks r n ≡ free_from ps qs r n
  unfolding free_mark free_from
  free_same zero r p h = refl
  free_same (suc n) r p h = let a = free_same n (suc r) (omega arith) (omega arith) in rw (same_test r p (omega arith), a)

  pub free_means : (n : ℕ) → n ≤ 512 → free_mark marks 1 n ≡ free_room n ps qs
  unfolding free_room
  free_means n h = free_same n 1 (omega arith) (omega arith)

  -- ---- no room twice

  once_means_at : (n r : ℕ) → all_once marks r n ≡ true → (t : ℕ) → r ≤ t → t < r + n → get_or marks t 0 ≤ 1
  unfolding all_once
  once_means_at zero r e t a b = absurd (omega arith)
  once_means_at (suc n) r e t a b =
      go (seen (eqb t r)) (both (leb (get_or marks r 0) 1) (all_once marks (suc r) n) e) (λ f c. once_means_at n (suc r) f t c (omega arith))
    where
      go : Seen (eqb t r) → (leb (get_or marks r 0) 1 ≡ true) × (all_once marks (suc r) n ≡ true)
          → (all_once marks (suc r) n ≡ true → suc r ≤ t → get_or marks t 0 ≤ 1) → get_or marks t 0 ≤ 1
      go (yes_is q) w next = rw (eqb-true t r q) (leb-true (get_or marks r 0) 1 w.0)
      go (no_is q) w next = let d = eqb-false t r q in next w.1 (omega arith)

  all_once_lem : (n r : ℕ) → ((t : ℕ) → r ≤ t → t < r + n → get_or marks t 0 ≤ 1) → all_once marks r n ≡ true
  unfolding all_once
  all_once_lem zero r f = refl
  all_once_lem (suc n) r f = and_of (le-leb (get_or marks r 0) 1 (f r (omega arith) (omega arith))) (all_once_lem n (suc r) (λ t a b. f t (omega arith) (omega arith)))

  pub once_means : (n : ℕ) → n ≤ 512 → all_once marks 1 n ≡ none_twice n ps qs
  once_means n h = same_answer (all_once marks 1 n) (none_twice n ps qs)
      (λ e. none_twice_lem n ps qs (λ r l m. (let a = once_means_at n 1 e r l (omega arith) in let b = mark_is ps qs r l (omega arith) in omega arith)))
      (λ e. all_once_lem n 1 (λ r l m. (let a = once_at n ps qs e r l (omega arith) in let b = mark_is ps qs r l (omega arith) in omega arith)))
