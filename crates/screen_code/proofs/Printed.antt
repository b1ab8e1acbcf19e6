-- Laws of a code's twelve bytes: each holds two digits, and two codes have the same bytes exactly if they have the same digits.
use Prim.Native.Nat.{ℕ, zero, suc, ◌+◌, ◌-◌, ◌*◌, ◌/◌, ◌%◌, ◌≤◌, ◌<◌}
use mathlib.Core.Path.{◌≡◌, refl, sym, ap, ap₂, ◌∙◌}
use mathlib.Core.Bool.{Bool, true, false}
use mathlib.Core.List.{List, [], ◌∷◌}
use native.Mathlib.Numerals.{add-one}
use native.Mathlib.Omega.{arith}
use borrow.Author.Tests.{ltb-true}
use lib.Dec.{ltb}
use lib.ListN.{length, get_or, take, set}
use lib.Seq.{take-suc, take-suc-set, take_all}
use Rattle.body_formats.specs.Format.{halves, paired, tail, decimal, digits}
use Rattle.body_formats.specs.Resource.{resource}
use Rattle.screen_code.specs.Code.{is_code, same}
use Rattle.screen_code.proofs.Same.{both, same_refl, same_is, code_long, code_decimal}

-- ---- two digits to a byte

pub decimal_at : (ds : List ℕ) (i : ℕ) → decimal ds ≡ true → get_or ds i 0 < 10
unfolding decimal
decimal_at [] i e = omega arith
decimal_at (a ∷ r) zero e = ltb-true a 10 (both (ltb a 10) (decimal r) e).0
decimal_at (a ∷ r) (suc i) e = decimal_at r i (both (ltb a 10) (decimal r) e).1

paired_at : (xs : List ℕ) (i k : ℕ) → k ≡ 2 * i → suc k < length xs → get_or (paired xs) i 0 ≡ get_or xs k 0 * 16 + get_or xs (suc k) 0
unfolding paired
paired_at [] i k e h = absurd (omega arith)
paired_at (a ∷ []) i k e h = absurd (omega arith)
paired_at (a ∷ (b ∷ r)) zero zero e h = refl
paired_at (a ∷ (b ∷ r)) zero (suc k) e h = absurd (omega arith)
paired_at (a ∷ (b ∷ r)) (suc i) zero e h = absurd (omega arith)
paired_at (a ∷ (b ∷ r)) (suc i) (suc zero) e h = absurd (omega arith)
paired_at (a ∷ (b ∷ r)) (suc i) (suc (suc k)) e h = paired_at r i k (omega arith) (omega arith)

paired_long : (h : ℕ) (xs : List ℕ) → length xs ≡ 2 * h → length (paired xs) ≡ h
unfolding paired
paired_long zero [] e = refl
paired_long (suc h) [] e = absurd (omega arith)
paired_long h (a ∷ []) e = absurd (omega arith)
paired_long zero (a ∷ (b ∷ r)) e = absurd (omega arith)
paired_long (suc h) (a ∷ (b ∷ r)) e = ap suc (paired_long h r (omega arith))

pub print_long : (code : List ℕ) → is_code code ≡ true → length (resource.print code) ≡ 12
unfolding digits
print_long code e = let l = code_long code e in paired_long 12 (15 ∷ code) (omega arith)

-- ---- the bytes one by one, as they are put together

module _ (code : List ℕ) (e : is_code code ≡ true) where
  pub first_byte : get_or (resource.print code) 0 0 ≡ 15 % 16 * 16 + get_or code 0 0 % 16
  unfolding digits
  first_byte =
      let l = code_long code e in
      let d = decimal_at code 0 (code_decimal code e) in
      paired_at (15 ∷ code) 0 0 (omega arith) (omega arith) ∙ omega arith

  pub next_byte : (i : ℕ) → 1 ≤ i → i < 12 → get_or (resource.print code) i 0 ≡ get_or code (2 * i - 1) 0 % 16 * 16 + get_or code (2 * i) 0 % 16
  unfolding digits
  next_byte zero g h = elim g [ ]
  next_byte (suc j) g h =
      let l = code_long code e in
      let here : suc (2 * j + 1) ≡ 2 * suc j = omega arith in
      let at : 2 * suc j - 1 ≡ 2 * j + 1 = omega arith in
      let on : suc (2 * j + 1) ≡ 2 * suc j = omega arith in
      let high = decimal_at code (2 * j + 1) (code_decimal code e) in
      let low = decimal_at code (2 * suc j) (code_decimal code e) in
      paired_at (15 ∷ code) (suc j) (suc (2 * j + 1)) here (omega arith)
      ∙ ap₂ (λ (x y : ℕ). x * 16 + y) (small _ high) (ap (λ (k : ℕ). get_or code k 0) on ∙ small _ low)
      ∙ ap (λ (k : ℕ). get_or code k 0 % 16 * 16 + get_or code (2 * suc j) 0 % 16) (sym at)
    where
      small : (x : ℕ) → x < 10 → x ≡ x % 16
      small x h = omega arith

  pub put_first : (b : ℕ) → b ≡ get_or (resource.print code) 0 0 → b ∷ [] ≡ take 1 (resource.print code)
  put_first b f =
      let l = print_long code e in
      let z : 0 < length (resource.print code) = omega arith in
      rw f (sym (take-suc (resource.print code) 0 0 z))

  module _ (own : List ℕ) (i : ℕ) (long : length own ≡ 12) (so_far : take i own ≡ take i (resource.print code)) where
    -- one byte more
    pub put_next : (b : ℕ) → i < 12 → b ≡ get_or (resource.print code) i 0 → take (i + 1) (set own i b) ≡ take (i + 1) (resource.print code)
    put_next b h f =
        let l = print_long code e in
        let z : i < length (resource.print code) = omega arith in
        rw (add-one, take-suc-set own i b (omega arith), take-suc (resource.print code) i 0 z) (rw (so_far, f))

    pub put_all : 12 ≤ i → own ≡ resource.print code
    put_all h =
        let l = print_long code e in
        sym (take_all i own (omega arith)) ∙ so_far ∙ take_all i (resource.print code) (omega arith)

-- ---- the same bytes, the same digits

halves_paired : (h : ℕ) (xs : List ℕ) → length xs ≡ 2 * h → ((i : ℕ) → get_or xs i 0 < 16) → halves (paired xs) ≡ xs
unfolding paired halves
halves_paired h [] e s = refl
halves_paired h (a ∷ []) e s = absurd (omega arith)
halves_paired zero (a ∷ (b ∷ r)) e s = absurd (omega arith)
halves_paired (suc h) (a ∷ (b ∷ r)) e s =
    let low : b < 16 = s 1 in
    let up : (a * 16 + b) / 16 ≡ a = omega arith in
    let down : (a * 16 + b) % 16 ≡ b = omega arith in
    rw (up, down) (ap (λ (l : List ℕ). a ∷ b ∷ l) (halves_paired h r (omega arith) (λ i. s (suc (suc i)))))

print_back : (code : List ℕ) → is_code code ≡ true → tail (halves (resource.print code)) ≡ code
unfolding digits
print_back code e =
    let l = code_long code e in
    ap tail (halves_paired 12 (15 ∷ code) (omega arith) below)
  where
    below : (i : ℕ) → get_or (15 ∷ code) i 0 < 16
    below zero = omega arith
    below (suc i) = let d = decimal_at code i (code_decimal code e) in omega arith

pub same_printed : (a b : List ℕ) → is_code a ≡ true → is_code b ≡ true → same (resource.print a) (resource.print b) ≡ same a b
same_printed a b e f = go (same (resource.print a) (resource.print b)) refl (same a b) refl
  where
    go : (x : Bool) → same (resource.print a) (resource.print b) ≡ x → (y : Bool) → same a b ≡ y → x ≡ y
    go true p true q = refl
    go false p false q = refl
    go false p true q = sym p ∙ ap (λ (c : List ℕ). same (resource.print a) (resource.print c)) (sym (same_is a b q)) ∙ same_refl (resource.print a)
    go true p false q =
        let z = sym (print_back a e) ∙ ap (λ (l : List ℕ). tail (halves l)) (same_is _ _ p) ∙ print_back b f in
        sym (same_refl a) ∙ ap (same a) z ∙ q
