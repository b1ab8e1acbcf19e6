-- `Stands s p xs`: the bytes xs stand in s from the position p on.
use Prim.Native.Nat.{ℕ, suc, ◌+◌, ◌<◌}
use mathlib.Core.Path.{◌≡◌, refl, sym, ap, ◌∙◌}
use mathlib.Core.List.{List, [], ◌∷◌, ◌++◌, append_assoc, append-nil}
use native.Mathlib.Omega.{arith}
use native.Mathlib.Nat.{add-zero}
use lib.ListN.{length, get_or, take, drop, length-append, take-append-drop}
use lib.Seq.{drop-drop, drop-append_seam, take-append_seam, get_or-drop, drop-cons}

abbrev pub Stands : List ℕ → ℕ → List ℕ → Type 0
Stands s p xs = (r : List ℕ) × (drop p s ≡ xs ++ r)

pub stands_nil : (s : List ℕ) (p : ℕ) → Stands s p []
stands_nil s p = (drop p s, refl)

pub stands_whole : (s : List ℕ) → Stands s 0 s
stands_whole s = ([], sym (append-nil s))

pub stands_left : (s : List ℕ) (p : ℕ) (xs ys : List ℕ) → Stands s p (xs ++ ys) → Stands s p xs
stands_left s p xs ys h = (ys ++ h.0, h.1 ∙ append_assoc xs ys h.0)

pub stands_right : (s : List ℕ) (p : ℕ) (xs ys : List ℕ) → Stands s p (xs ++ ys) → Stands s (p + length xs) ys
stands_right s p xs ys h =
    (h.0, sym (drop-drop (length xs) p s) ∙ ap (drop (length xs)) (h.1 ∙ append_assoc xs ys h.0) ∙ drop-append_seam xs (ys ++ h.0))

pub stands_join : (s : List ℕ) (p : ℕ) (xs ys : List ℕ) → Stands s p xs → Stands s (p + length xs) ys → Stands s p (xs ++ ys)
stands_join s p xs ys h k =
    let after : h.0 ≡ ys ++ k.0 =
    sym (drop-append_seam xs h.0) ∙ ap (drop (length xs)) (sym h.1) ∙ drop-drop (length xs) p s ∙ k.1 in
    (k.0, h.1 ∙ ap (λ (r : List ℕ). xs ++ r) after ∙ sym (append_assoc xs ys k.0))

pub stands_take : (s : List ℕ) (p n : ℕ) → Stands s p (take n (drop p s))
stands_take s p n = (drop n (drop p s), sym (take-append-drop n (drop p s)))

-- the part of s that xs fill
pub taken : (s : List ℕ) (p : ℕ) (xs : List ℕ) → Stands s p xs → take (length xs) (drop p s) ≡ xs
taken s p xs h = ap (take (length xs)) h.1 ∙ take-append_seam xs h.0

pub stands_get : (s : List ℕ) (p x : ℕ) (xs : List ℕ) → Stands s p (x ∷ xs) → get_or s p 0 ≡ x
stands_get s p x xs h =
    ap (λ (k : ℕ). get_or s k 0) (sym (add-zero p)) ∙ sym (get_or-drop p s 0 0) ∙ ap (λ (l : List ℕ). get_or l 0 0) h.1

pub stands_next : (s : List ℕ) (p x : ℕ) (xs : List ℕ) → Stands s p (x ∷ xs) → Stands s (p + 1) xs
stands_next s p x xs h = stands_right s p (x ∷ []) xs h

pub stands_byte : (s : List ℕ) (p : ℕ) → p < length s → Stands s p (get_or s p 0 ∷ [])
stands_byte s p h = (drop (suc p) s, drop-cons s p 0 h)

-- what stands from the start to the end is the whole
pub stands_all : (s xs : List ℕ) → Stands s 0 xs → length xs ≡ length s → s ≡ xs
stands_all s xs t h = whole t.0 t.1
  where
    whole : (r : List ℕ) → s ≡ xs ++ r → s ≡ xs
    whole [] q = q ∙ append-nil xs
    whole (y ∷ ys) q = absurd (omega (arith, simp length-append at (ap length q)))
