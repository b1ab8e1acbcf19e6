-- Laws of the loops that set marks and look at them: where each starts, one turn, where it ends.
use Prim.Native.Nat.{ℕ, zero, suc, ◌+◌, ◌-◌, ◌≤◌, ◌<◌, min}
use mathlib.Core.Path.{◌≡◌, refl, sym, ◌∙◌, ap}
use mathlib.Core.Bool.{true, false}
use mathlib.Core.List.{List}
use native.Mathlib.Numerals.{add-one}
use native.Mathlib.Omega.{arith}
use borrow.Author.Tests.{eq-eqb, ne_eqb, le-leb, lt-leb}
use lib.ListN.{length, get_or, set, drop, drop_of_length-le}
use lib.Seq.{drop-cons, set_out}
use Rattle.rooms_marks.specs.Marks.{raised_at, marked, free_mark, all_once}

-- ---- the first free room

module _ (marks : List ℕ) (n r : ℕ) where
  pub free_start : free_mark marks 1 n ≡ free_mark marks 1 (n + 1 - 1)
  free_start = let m : n + 1 - 1 ≡ n = omega arith in rw m

  pub once_start : all_once marks 1 n ≡ all_once marks 1 (n + 1 - 1)
  once_start = let m : n + 1 - 1 ≡ n = omega arith in rw m

  pub free_step : r ≤ n → (get_or marks r 0 ≡ 0 → ⊥) → free_mark marks r (n + 1 - r) ≡ free_mark marks (r + 1) (n + 1 - (r + 1))
  unfolding free_mark
  free_step l e = let m : n + 1 - r ≡ suc (n + 1 - (r + 1)) = omega arith in rw (m, ne_eqb (get_or marks r 0) 0 e, add-one r)

  pub free_end : n < r → free_mark marks r (n + 1 - r) ≡ 0
  unfolding free_mark
  free_end l = let m : n + 1 - r ≡ 0 = omega arith in rw m

  pub once_stop : r ≤ n → 2 ≤ get_or marks r 0 → all_once marks r (n + 1 - r) ≡ false
  unfolding all_once
  once_stop l e = let m : n + 1 - r ≡ suc (n - r) = omega arith in rw (m, lt-leb (get_or marks r 0) 1 e)

  pub once_step : r ≤ n → get_or marks r 0 < 2 → all_once marks r (n + 1 - r) ≡ all_once marks (r + 1) (n + 1 - (r + 1))
  unfolding all_once
  once_step l e = let m : n + 1 - r ≡ suc (n + 1 - (r + 1)) = omega arith in rw (m, le-leb (get_or marks r 0) 1 (omega arith), add-one r)

  pub once_end : n < r → all_once marks r (n + 1 - r) ≡ true
  unfolding all_once
  once_end l = let m : n + 1 - r ≡ 0 = omega arith in rw m

-- a room that is not marked is the first from there on
pub free_stop : (marks : List ℕ) (r n : ℕ) → 0 < n → get_or marks r 0 ≡ 0 → free_mark marks r n ≡ r
unfolding free_mark
free_stop marks r zero l e = absurd (omega arith)
free_stop marks r (suc n) l e = rw (eq-eqb (get_or marks r 0) 0 e)

-- ---- marking

pub raised_none : (marks : List ℕ) (r : ℕ) → r ≡ 0 → raised_at marks r ≡ marks
unfolding raised_at
raised_none marks r e = rw e

pub raised_some : (marks : List ℕ) (r : ℕ) → 0 < r → raised_at marks r ≡ set marks r (min 2 (get_or marks r 0 + 1))
unfolding raised_at
raised_some marks zero h = absurd (omega arith)
raised_some marks (suc r) h = refl

module _ (rooms : List ℕ) (k : ℕ) where
  pub mark_turn : (marks : List ℕ) → k < length rooms
      → marked marks (drop k rooms) ≡ marked (raised_at marks (get_or rooms k 0)) (drop (k + 1) rooms)
  unfolding marked
  mark_turn marks h = rw (add-one k, drop-cons rooms k 0 h)

  pub mark_end : (marks : List ℕ) → length rooms ≤ k → marked marks (drop k rooms) ≡ marks
  unfolding marked
  mark_end marks h = rw (drop_of_length-le rooms h)

  -- one turn, by the mark that was set; for no room and for one past the marks none is
  module _ (marks₀ marks : List ℕ) (h : k < length rooms) (i : marked marks₀ rooms ≡ marked marks (drop k rooms)) where
    turned : (r : ℕ) → r ≡ get_or rooms k 0 → (marks' : List ℕ) → raised_at marks r ≡ marks' → marked marks₀ rooms ≡ marked marks' (drop (k + 1) rooms)
    turned r e marks' m = i ∙ mark_turn marks h ∙ ap (λ (x : ℕ). marked (raised_at marks x) (drop (k + 1) rooms)) (sym e)
        ∙ ap (λ (x : List ℕ). marked x (drop (k + 1) rooms)) m

    pub mark_set : (r v : ℕ) → r ≡ get_or rooms k 0 → 0 < r → v ≡ min 2 (get_or marks r 0 + 1) → (marks' : List ℕ) → marks' ≡ set marks r v
        → marked marks₀ rooms ≡ marked marks' (drop (k + 1) rooms)
    mark_set r v e p f marks' m = turned r e marks' (raised_some marks r p ∙ ap (set marks r) (sym f) ∙ sym m)

    pub mark_past : (r : ℕ) → r ≡ get_or rooms k 0 → 0 < r → length marks ≤ r → (marks' : List ℕ) → marks' ≡ marks
        → marked marks₀ rooms ≡ marked marks' (drop (k + 1) rooms)
    mark_past r e p l marks' m = turned r e marks' (raised_some marks r p ∙ set_out marks r _ l ∙ sym m)

    pub mark_none : (r : ℕ) → r ≡ get_or rooms k 0 → r ≡ 0 → (marks' : List ℕ) → marks' ≡ marks → marked marks₀ rooms ≡ marked marks' (drop (k + 1) rooms)
    mark_none r e z marks' m = turned r e marks' (raised_none marks r z ∙ sym m)
