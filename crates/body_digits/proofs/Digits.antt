-- Laws of decimal digits in neighbouring parts of a byte string: of two at once, of a start that passes, and of the last bytes.
use Prim.Native.Nat.{ℕ, zero, suc, ◌+◌, ◌-◌, ◌/◌, ◌%◌, ◌≤◌, ◌<◌}
use mathlib.Core.Path.{◌≡◌, refl, sym, ap, ap₂, ◌∙◌}
use mathlib.Core.List.{List, [], ◌∷◌}
use mathlib.Core.Bool.{Bool, true, false, ◌&&◌}
use native.Mathlib.Omega.{arith}
use native.Mathlib.Nat.{zero-add, suc-add}
use lib.ListN.{length, get_or, take, drop}
use lib.Seq.{drop-cons, drop-drop, take-nil}
use lib.Dec.{ltb}
use borrow.Author.Tests.{ltb-true, ltb-false, lt-ltb, le-ltb}
use Rattle.body_formats.specs.Format.{halves, decimal}

-- whether each of the n bytes at p holds two decimal digits
abbrev pub digits_at : List ℕ → ℕ → ℕ → Bool
digits_at s p n = decimal (halves (take n (drop p s)))

-- ---- neighbouring parts

and_twice : (a b c d : Bool) → (a && (b && (c && d))) ≡ ((a && (b && c)) && d)
and_twice true true c d = refl
and_twice true false c d = refl
and_twice false b c d = refl

and_true : (a b : Bool) → (a && b) ≡ true → a ≡ true
and_true true b e = refl
and_true false b e = e

split : (a b : ℕ) (l : List ℕ) → decimal (halves (take (a + b) l)) ≡ (decimal (halves (take a l)) && decimal (halves (take b (drop a l))))
unfolding decimal halves
split zero b l = ap (λ n. decimal (halves (take n l))) (zero-add b)
split (suc a) b [] = ap (λ l. decimal (halves l)) (take-nil (suc a + b) ∙ sym (take-nil b))
split (suc a) b (x ∷ xs) =
    ap (λ n. decimal (halves (take n (x ∷ xs)))) (suc-add a b)
    ∙ ap (λ t. ltb (x / 16) 10 && (ltb (x % 16) 10 && t)) (split a b xs)
    ∙ and_twice (ltb (x / 16) 10) (ltb (x % 16) 10) (decimal (halves (take a xs))) (decimal (halves (take b (drop a xs))))

module _ (s : List ℕ) (p : ℕ) where
  -- the one law of every lane: a part of a + b bytes is its first a and the next b
  pub digits_join : (a b : ℕ) → digits_at s p (a + b) ≡ (digits_at s p a && digits_at s (p + a) b)
  digits_join a b = split a b (drop p s) ∙ ap (λ l. digits_at s p a && decimal (halves (take b l))) (drop-drop a p s)

  -- a part that passes has a start that does
  digits_start : (a n : ℕ) → a ≤ n → digits_at s p n ≡ true → digits_at s p a ≡ true
  digits_start a n h e =
      let z : a + (n - a) ≡ n = omega arith in
      and_true _ _ (sym (digits_join a (n - a)) ∙ ap (digits_at s p) z ∙ e)

  module _ (n j : ℕ) (start : digits_at s p j ≡ true) where
    -- m bytes that fail, after a start that passes
    pub digits_fail : (m : ℕ) → j + m ≤ n → digits_at s (p + j) m ≡ false → digits_at s p n ≡ false
    digits_fail m h e =
        let z : j + m + (n - (j + m)) ≡ n = omega arith in
        ap (digits_at s p) (sym z)
        ∙ digits_join (j + m) (n - (j + m))
        ∙ ap (λ t. t && digits_at s (p + (j + m)) (n - (j + m))) (digits_join j m ∙ ap₂ ◌&&◌ start e)

    -- a longer start
    pub digits_further : (m : ℕ) → digits_at s (p + j) m ≡ true → digits_at s p (j + m) ≡ true
    digits_further m e = digits_join j m ∙ ap₂ ◌&&◌ start e

    -- the last m bytes decide, where the start reaches to them or into them
    pub digits_last : (m : ℕ) → m ≤ n → n ≤ j + m → digits_at s (p + (n - m)) m ≡ digits_at s p n
    digits_last m h k =
        let z : n - m + m ≡ n = omega arith in
        sym
        (ap (digits_at s p) (sym z)
        ∙ digits_join (n - m) m
        ∙ ap (λ t. t && digits_at s (p + (n - m)) m) (digits_start (n - m) j (omega arith) start))

-- eleven bytes by two windows of eight, of which the second, three bytes on, asks for five once more
pub eleven : (s : List ℕ) (p q : ℕ) → q ≡ p + 3 → digits_at s p 8 ≡ true → digits_at s q 8 ≡ true → digits_at s p 11 ≡ true
eleven s p q e first last = sym (digits_last s p 11 8 first 8 (omega arith) (omega arith)) ∙ ap (λ x. digits_at s x 8) (sym e) ∙ last

-- ---- one byte

below : (b : ℕ) → ltb b 160 ≡ ltb (b / 16) 10
below b = go (ltb b 160) refl
  where
    go : (t : Bool) → ltb b 160 ≡ t → ltb b 160 ≡ ltb (b / 16) 10
    go true e = let h : b < 160 = ltb-true b 160 e in e ∙ sym (lt-ltb (b / 16) 10 (omega arith))
    go false e = let h : 160 ≤ b = ltb-false b 160 e in e ∙ sym (le-ltb (b / 16) 10 (omega arith))

-- a byte's two tests
pub digits_one : (s : List ℕ) (p : ℕ) → p + 1 ≤ length s → (ltb (get_or s p 0) 160 && ltb (get_or s p 0 % 16) 10) ≡ digits_at s p 1
unfolding decimal halves
digits_one s p h = rw (below, drop-cons s p 0 (omega arith)) (and_unit (ltb (get_or s p 0 / 16) 10) (ltb (get_or s p 0 % 16) 10))
  where
    and_unit : (t u : Bool) → (t && u) ≡ (t && (u && true))
    and_unit true true = refl
    and_unit true false = refl
    and_unit false u = refl
