-- Fields packed in one number come back: each has its own bits, whatever stands above it and below it.
use Prim.Native.Nat.{ℕ, zero, suc, ◌+◌, ◌*◌, ◌/◌, ◌%◌, ◌^◌, ◌<◌}
use mathlib.Core.Path.{◌≡◌, refl, sym, ap, ◌∙◌}
use mathlib.Core.List.{List, [], ◌∷◌}
use native.Mathlib.Omega.{arith}
use native.Mathlib.Numerals.{unary_clauses}
use native.Mathlib.Nat.{mod-lt, mod-eq_of_lt, mul-one}
use lib.Arith.{digits_lt}
use lib.ListN.{length, get_or, take, drop}
use lib.Seq.{drop-cons}
use lib.Pow.{pow_pos, pow-add, high, low, field, mod-mod-pow}
use Rattle.c_answers.specs.Packing.{widths, packed}

-- a number has no more bits than its fields
pub packed_below : (fs : List (ℕ × ℕ)) → packed fs < 2 ^ widths fs
unfolding packed widths
packed_below [] = omega arith
packed_below (f ∷ fs) = rw (pow-add 2 f.0 (widths fs)) (digits_lt (mod-lt f.1 (pow_pos f.0)) (packed_below fs))

widths_split : (fs : List (ℕ × ℕ)) (k : ℕ) → widths (take k fs) + widths (drop k fs) ≡ widths fs
unfolding widths
widths_split fs zero = omega arith
widths_split [] (suc k) = refl
widths_split (f ∷ fs) (suc k) = omega (arith, widths_split fs k)

-- the low bits are the fields from the k-th on
low_fields : (fs : List (ℕ × ℕ)) (k : ℕ) → packed fs % 2 ^ widths (drop k fs) ≡ packed (drop k fs)
unfolding packed widths
low_fields fs zero = mod-eq_of_lt (packed_below fs)
low_fields [] (suc k) = refl
low_fields (f ∷ fs) (suc k) =
    let n = f.1 % 2 ^ f.0 * 2 ^ widths fs + packed fs in
    let below = widths (drop k fs) in
    sym (mod-mod-pow n (widths (take k fs)) below)
    ∙ ap (λ (m : ℕ). m % 2 ^ below)
    (ap (λ (j : ℕ). n % 2 ^ j) (widths_split fs k) ∙ low (f.1 % 2 ^ f.0) (widths fs) (packed_below fs))
    ∙ low_fields fs k

-- above the others stands the first one
pub first_back : (f : ℕ × ℕ) (fs : List (ℕ × ℕ)) → packed (f ∷ fs) / 2 ^ widths fs ≡ f.1 % 2 ^ f.0
unfolding packed
first_back f fs = high (f.1 % 2 ^ f.0) (widths fs) (packed_below fs)

-- the k-th, counted from 0, is taken by the widths below it and its own
pub field_back : (fs : List (ℕ × ℕ)) (k : ℕ) → k < length fs
    → packed fs / 2 ^ widths (drop (suc k) fs) % 2 ^ (get_or fs k (0, 0)).0 ≡ (get_or fs k (0, 0)).1 % 2 ^ (get_or fs k (0, 0)).0
unfolding widths
field_back fs k there =
    let f = get_or fs k (0, 0) in
    let below = widths (drop (suc k) fs) in
    let e = drop-cons fs k (0, 0) there in
    sym (field (packed fs) f.0 below)
    ∙ ap (λ (n : ℕ). n / 2 ^ below) (ap (λ (l : List (ℕ × ℕ)). packed fs % 2 ^ widths l) (sym e) ∙ low_fields fs k ∙ ap packed e)
    ∙ first_back f (drop (suc k) fs)

-- two fields, as a sum
pub packed_two : (w v x u : ℕ) → packed ((w, v) ∷ (x, u) ∷ []) ≡ v % 2 ^ w * 2 ^ x + u % 2 ^ x
unfolding packed widths
packed_two w v x u = simp (unary_clauses, mul-one)
