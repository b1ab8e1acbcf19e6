-- Laws of bytes laid into a list: a run of stores, one part after another, and the last byte first.
use Prim.Native.Nat.{ℕ, suc, ◌+◌, ◌≤◌, ◌<◌}
use mathlib.Core.List.{List, [], ◌∷◌, ◌++◌, append_assoc, append-nil}
use mathlib.Core.Path.{◌≡◌, refl, sym, ap, ◌∙◌}
use native.Mathlib.Nat.{add-zero, zero-add, add_assoc}
use native.Mathlib.Omega.{arith}
use lib.ListN.{length, set, take, drop, length-append, length-drop, take-append-drop}
use lib.Seq.{sets, sets-eq, length-take-le, take-append-le, drop-append-le, take-take, take_at, drop_at, drop-drop, drop-cons, take-set-le, drop-set-add}
use Rattle.ground_placing.specs.Placed.{placed}

-- ---- stores one after the other

pub stored : (d : List ℕ) (at : ℕ) (s : List ℕ) → at + length s ≤ length d → sets d at s ≡ placed d at s
unfolding placed
stored d at s h = sets-eq s d at h

-- ---- one part after another

module _ (d : List ℕ) (at : ℕ) (s : List ℕ) (room : at + length s ≤ length d) where
  front : length (take at d ++ s) ≡ at + length s
  front = length-append (take at d) s ∙ ap (λ (n : ℕ). n + length s) (length-take-le at d (omega arith))

  pub placed_front : take (at + length s) (placed d at s) ≡ take at d ++ s
  unfolding placed
  placed_front = take_at (take at d ++ s) (drop (at + length s) d) (at + length s) front

  pub placed_back : drop (at + length s) (placed d at s) ≡ drop (at + length s) d
  unfolding placed
  placed_back = drop_at (take at d ++ s) (drop (at + length s) d) (at + length s) front

  pub placed_length : length (placed d at s) ≡ length d
  unfolding placed
  placed_length = length-append (take at d ++ s) (drop (at + length s) d) ∙ rw (front, length-drop) (omega arith)

  unfold_placed : (t : List ℕ) (k : ℕ) → placed (placed d at s) k t ≡ take k (placed d at s) ++ t ++ drop (k + length t) (placed d at s)
  unfolding placed
  unfold_placed t k = refl

  laid : (t : List ℕ) → take at d ++ s ++ t ++ drop (at + length s + length t) d ≡ placed d at (s ++ t)
  unfolding placed
  laid t = rw (append_assoc (take at d) s t, length-append s t, add_assoc)

  pub placed_next : (t : List ℕ) (k : ℕ) → k ≡ at + length s → placed (placed d at s) k t ≡ placed d at (s ++ t)
  placed_next t k e =
      rw e
      (unfold_placed t (at + length s)
      ∙ rw (placed_front, ← (drop-drop (length t) (at + length s) (placed d at s)), placed_back, drop-drop (length t) (at + length s) d) (laid t))

-- bytes laid before others
pub placed_before : (d : List ℕ) (at : ℕ) (s t : List ℕ) (k : ℕ) → k ≡ at + length s → k + length t ≤ length d → placed (placed d k t) at s ≡ placed d at (s ++ t)
unfolding placed
placed_before d at s t k e h = rw (front, ← e, back) (simp (append_assoc, length-append) (rw (← add_assoc, ← e)))
  where
    long : length (take k d ++ t) ≡ k + length t
    long = length-append (take k d) t ∙ ap (λ (n : ℕ). n + length t) (length-take-le k d (omega arith))

    front : take at (take k d ++ t ++ drop (k + length t) d) ≡ take at d
    front =
        take-append-le at (take k d ++ t) (drop (k + length t) d) (omega (arith, long))
        ∙ take-append-le at (take k d) t (omega (arith, length-take-le k d (omega arith))) ∙ take-take at k d (omega arith)

    back : drop k (take k d ++ t ++ drop (k + length t) d) ≡ t ++ drop (k + length t) d
    back =
        drop-append-le k (take k d ++ t) (drop (k + length t) d) (omega (arith, long))
        ∙ ap (λ l. l ++ drop (k + length t) d) (drop_at (take k d) t k (length-take-le k d (omega arith)))

-- the bytes at the start
pub placed_start : (d s : List ℕ) (k : ℕ) → k ≡ length s → take k (placed d 0 s) ≡ s
unfolding placed
placed_start d s k e = take_at s (drop (0 + length s) d) k (sym e)

pub placed_whole : (d s : List ℕ) → placed d 0 s ≡ s ++ drop (length s) d
unfolding placed
placed_whole d s = rw zero-add

-- ---- the last byte first

pub placed_none : (d : List ℕ) (at : ℕ) → placed d at [] ≡ d
unfolding placed
placed_none d at = rw (append-nil, add-zero, take-append-drop)

pub placed_last : (d : List ℕ) (at : ℕ) (s : List ℕ) (b : ℕ) → at + length s < length d → placed d at (s ++ (b ∷ [])) ≡ placed (set d (at + length s) b) at s
unfolding placed
placed_last d at s b h =
    rw (take-set-le at d (at + length s) b (omega arith), tail)
    (simp (append_assoc, length-append) (rw one))
  where
    one : at + (length s + 1) ≡ suc (at + length s)
    one = omega arith

    tail : drop (at + length s) (set d (at + length s) b) ≡ b ∷ drop (suc (at + length s)) d
    tail =
        ap (λ n. drop (at + length s) (set d n b)) (sym (add-zero (at + length s)))
        ∙ drop-set-add (at + length s) d 0 b
        ∙ ap (λ l. set l 0 b) (drop-cons d (at + length s) 0 h)
