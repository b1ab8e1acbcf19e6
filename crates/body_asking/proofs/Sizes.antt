-- Fields of a fixed size, one after the other: where each begins, and the i-th of a list of them.
use Prim.Native.Nat.{ℕ, zero, suc, ◌+◌, ◌*◌, ◌≤◌, ◌<◌}
use mathlib.Core.Path.{◌≡◌, sym, ap, ap₂, subst, ◌∙◌}
use mathlib.Core.List.{List}
use native.Mathlib.Omega.{arith}
use native.Mathlib.Nat.{mul-zero, mul-suc}
use lib.ListN.{get_or, take, drop}
use Rattle.ground_refusal.specs.declared.Refusal.TheVariants.{DigitAboveNine}
use Rattle.body_formats.specs.Reading.{found, Fault}
use Rattle.body_formats.specs.Format.{Format, count, only, among, number, nibbles, nibbles_among, reserved, bytes, bytes_among, halves, tail, decimal, digits, ◌▷◌, repeat}
use Rattle.body_formats.specs.Time.{time, end_time}
use Rattle.body_formats.proofs.Outcomes.{found_inj, and_then_found, need_found, judged_found, within_found}
use Rattle.body_formats.proofs.Leaves.{reserved_found}
use Rattle.body_formats.proofs.Elements.{followed_found}

-- whatever F reads has n bytes
abbrev pub Sized : {A : Type 0} → Format A → ℕ → Type 0
Sized {A} F n = (s : List ℕ) (l p : ℕ) (a : A) (q : ℕ) → F.parse s l p ≡ found a q → q ≡ p + n

-- ---- the fields

pub count_sized : (w : ℕ) → Sized (count w) w
unfolding count
count_sized w s l p a q e = sym (found_inj (within_found s l p (p + w) _ a q e).2).1

pub only_found : {A : Type 0} (fault : A → ℕ → Fault) (F : Format A) (s : List ℕ) (l p : ℕ) (a : A) (q : ℕ) → (only fault F).parse s l p ≡ found a q → F.parse s l p ≡ found a q
unfolding only
only_found fault F s l p a q e =
    let i = and_then_found (F.parse s l p) _ a q e in
    let k = found_inj (judged_found (fault i.0 p) (found i.0 i.1) a q i.3).1 in
    i.2 ∙ ap₂ found k.0 k.1

only_sized : {A : Type 0} (fault : A → ℕ → Fault) (F : Format A) (n : ℕ) → Sized F n → Sized (only fault F) n
only_sized fault F n z s l p a q e = z s l p a q (only_found fault F s l p a q e)

pub among_sized : (lo hi : ℕ) (F : Format ℕ) (n : ℕ) → Sized F n → Sized (among lo hi F) n
among_sized lo hi F n z = only_sized _ F n z

pub number_sized : (w : ℕ) → Sized (number w) w
unfolding number
number_sized w = only_sized _ (count w) w (count_sized w)

pub number_inside : (w : ℕ) (s : List ℕ) (l p v q : ℕ) → (number w).parse s l p ≡ found v q → p + w ≤ l
unfolding number count
number_inside w s l p v q e = (within_found s l p (p + w) _ v q (only_found _ (count w) s l p v q e)).1

pub time_sized : Sized time 5
unfolding time
time_sized = only_sized _ (number 5) 5 (number_sized 5)

pub end_sized : Sized end_time 5
unfolding end_time
end_sized = only_sized _ (number 5) 5 (number_sized 5)

nibbles_sized : Sized nibbles 1
unfolding nibbles
nibbles_sized s l p a q e = sym (found_inj (within_found s l p (p + 1) _ a q e).2).1

pub nibbles_among_sized : (lo hi : ℕ) → Sized (nibbles_among lo hi) 1
nibbles_among_sized lo hi = only_sized _ nibbles 1 nibbles_sized

-- the bytes are those of the body
pub bytes_are : (lo hi n : ℕ) (s : List ℕ) (l p : ℕ) (xs : List ℕ) (q : ℕ) → (bytes_among lo hi n).parse s l p ≡ found xs q → (take n (drop p s) ≡ xs) × (p + n ≡ q)
unfolding bytes
bytes_are lo hi n s l p xs q e = found_inj (within_found s l p (p + n) _ xs q (only_found _ (bytes n) s l p xs q e)).2

pub bytes_sized : (lo hi n : ℕ) → Sized (bytes_among lo hi n) n
bytes_sized lo hi n s l p xs q e = sym (bytes_are lo hi n s l p xs q e).1

pub reserved_sized : (k w : ℕ) → Sized (reserved k w) (suc w)
unfolding reserved
reserved_sized k w s l p a q e = sym (found_inj (within_found s l p (p + suc w) _ a q (reserved_found k s l p _ a q e).1).2).1

pub digits_sized : (h : ℕ) → Sized (digits h) (suc h)
unfolding digits
digits_sized h s l p ds q e =
    let f = within_found s l p (p + suc h) _ ds q (reserved_found 4 s l p _ ds q e).1 in
    sym (found_inj (need_found (decimal (tail (halves (take (suc h) (drop p s))))) (DigitAboveNine p) _ ds q f.2).1).1

-- ---- one after the other

pub next : {A B : Type 0} (F : Format A) (G : Format B) (n : ℕ) → Sized F n → (s : List ℕ) (l p r : ℕ) (x : A × B) (q : ℕ) → r ≡ p + n → (F ▷ G).parse s l p ≡ found x q
    → (F.parse s l p ≡ found x.0 r) × (G.parse s l r ≡ found x.1 q)
next F G n z s l p r x q h e =
    let f = followed_found F G s l p x q e in
    let m : f.0 ≡ r = z s l p x.0 f.0 f.1 ∙ sym h in
    (f.1 ∙ ap (found x.0) m, ap (G.parse s l) (sym m) ∙ f.2)

-- ---- the i-th of n

module _ {A : Type 0} (F : Format A) (w : ℕ) (z : Sized F w) (s : List ℕ) (l : ℕ) where
  pub repeat_sized : (n p : ℕ) (xs : List A) (q : ℕ) → repeat (F.parse s l) n p ≡ found xs q → q ≡ p + w * n
  unfolding repeat
  repeat_sized zero p xs q e = omega (arith, (found_inj e).1)
  repeat_sized (suc n) p xs q e =
      let i = and_then_found (F.parse s l p) _ xs q e in
      let j = and_then_found (repeat (F.parse s l) n i.1) _ xs q i.3 in
      let m = repeat_sized n i.1 j.0 j.1 j.2 in
      omega (arith, (found_inj j.3).1, m, z s l p i.0 i.1 i.2, mul-suc w n)

  pub nth_sized : (d : A) (n i p : ℕ) (xs : List A) (q : ℕ) → repeat (F.parse s l) n p ≡ found xs q → i < n
      → F.parse s l (p + w * i) ≡ found (get_or xs i d) (p + w * i + w)
  unfolding repeat
  nth_sized d zero i p xs q e h = absurd (omega arith)
  nth_sized d (suc n) zero p xs q e h =
      let a = and_then_found (F.parse s l p) _ xs q e in
      let b = and_then_found (repeat (F.parse s l) n a.1) _ xs q a.3 in
      let here : p ≡ p + w * 0 = omega (arith, mul-zero w) in
      subst (λ (t : ℕ). F.parse s l t ≡ found (get_or xs 0 d) (t + w)) here
      (a.2 ∙ ap₂ found (ap (λ ys. get_or ys 0 d) (found_inj b.3).0) (z s l p a.0 a.1 a.2))
  nth_sized d (suc n) (suc i) p xs q e h =
      let a = and_then_found (F.parse s l p) _ xs q e in
      let b = and_then_found (repeat (F.parse s l) n a.1) _ xs q a.3 in
      let t = nth_sized d n i a.1 b.0 b.1 b.2 (omega arith) in
      let here : a.1 + w * i ≡ p + w * suc i = omega (arith, z s l p a.0 a.1 a.2, mul-suc w i) in
      subst (λ (t : ℕ). F.parse s l t ≡ found (get_or xs (suc i) d) (t + w)) here
      (t ∙ ap (λ x. found x (a.1 + w * i + w)) (ap (λ ys. get_or ys (suc i) d) (found_inj b.3).0))
