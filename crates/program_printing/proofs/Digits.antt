-- Laws of digits: how many there are, the low one first, and how many decimal digits a number has.
use Prim.Native.Nat.{ℕ, zero, suc, ◌+◌, ◌*◌, ◌/◌, ◌%◌, ◌^◌, ◌≤◌, ◌<◌}
use mathlib.Core.Path.{◌≡◌, refl, sym, ap, ◌∙◌}
use mathlib.Core.List.{List}
use native.Mathlib.Omega.{arith}
use native.Mathlib.Nat.{pow-suc}
use native.Mathlib.Decide.{dec_lt}
use mathlib.Core.Logic.{◌⊎◌, inl, inr, ⊎_elim}
use borrow.Author.Tests.{lt-ltb, le-ltb}
use lib.ListN.{length, set, length-append}
use Rattle.program_printing.specs.Characters.{digit_character, digits_of, places_within, places_of, decimal_of, refused_text}
use Rattle.ground_refusal.specs.Numbers.{refusal_number}
use Rattle.ground_refusal.specs.declared.Refusal.{Refusal}
use Rattle.ground_refusal.proofs.Numbers.{number_most}
use Rattle.ground_placing.specs.Placed.{placed}
use Rattle.ground_placing.proofs.Placing.{placed_none, placed_last}

pub digits_length : (base width n : ℕ) → length (digits_of base width n) ≡ width
unfolding digits_of
digits_length base zero n = refl
digits_length base (suc width) n = rw (length-append, digits_length base width (n / base)) (omega arith)

-- a turn of the loop that writes from the low digit on
pub digits_turn : (d : List ℕ) (at base k i n : ℕ) → i ≡ at + k → at + suc k ≤ length d
    → placed d at (digits_of base (suc k) n) ≡ placed (set d i (digit_character (n % base))) at (digits_of base k (n / base))
unfolding digits_of
digits_turn d at base k i n e h =
    let m = digits_length base k (n / base) in
    placed_last d at (digits_of base k (n / base)) (digit_character (n % base)) (omega (arith, m)) ∙ rw (m, e)

pub digits_done : (d : List ℕ) (at base k n : ℕ) → k ≡ 0 → placed d at (digits_of base k n) ≡ d
unfolding digits_of
digits_done d at base k n z = rw (z, placed_none)

-- ---- decimal places

pub below_or_not : (n m : ℕ) → (n < m) ⊎ (m ≤ n)
below_or_not n m = by (dec_lt n m)
  where
    by : Dec (n < m) → (n < m) ⊎ (m ≤ n)
    by (yes h) = inl h
    by (no h) = inr (omega arith)

within_small : (steps n : ℕ) → n < 10 → places_within steps n ≡ 1
unfolding places_within
within_small zero n h = refl
within_small (suc steps) n h = rw (lt-ltb n 10 h)

within_more : (steps n : ℕ) → 10 ≤ n → places_within (suc steps) n ≡ suc (places_within steps (n / 10))
unfolding places_within
within_more steps n h = rw (le-ltb n 10 h)

-- more steps than the number change nothing
within_steps : (a b n : ℕ) → n ≤ a → n ≤ b → places_within a n ≡ places_within b n
within_steps zero b n h l = within_small zero n (omega arith) ∙ sym (within_small b n (omega arith))
within_steps (suc a) zero n h l = within_small (suc a) n (omega arith) ∙ sym (within_small zero n (omega arith))
within_steps (suc a) (suc b) n h l =
    ⊎_elim
    (λ small. within_small (suc a) n small ∙ sym (within_small (suc b) n small))
    (λ more. within_more a n more ∙ ap suc (within_steps a b (n / 10) (omega arith) (omega arith)) ∙ sym (within_more b n more))
    (below_or_not n 10)

pub places_one : (n : ℕ) → n < 10 → places_of n ≡ 1
unfolding places_of
places_one n h = within_small n n h

pub places_more : (n : ℕ) → 10 ≤ n → places_of n ≡ suc (places_of (n / 10))
unfolding places_of
places_more zero h = absurd (omega arith)
places_more (suc n) h =
    within_more n (suc n) h ∙ ap suc (within_steps n (suc n / 10) (suc n / 10) (omega arith) (omega arith))

ten_pos : (k : ℕ) → 0 < 10 ^ k
ten_pos zero = omega arith
ten_pos (suc k) = omega (arith, pow-suc 10 k, ten_pos k)

-- one more than the logarithm
pub places_are : (k n : ℕ) → 10 ^ k ≤ n → n < 10 * 10 ^ k → places_of n ≡ k + 1
places_are zero n l h = omega (arith, places_one n (omega arith))
places_are (suc k) n l h =
    let p = pow-suc 10 k in
    let more : 10 ≤ n = omega (arith, p, ten_pos k) in
    omega (arith, places_more n more, places_are k (n / 10) (omega (arith, p)) (omega (arith, p)))

-- no leading zeros: a number below 10 ^ w has at most w digits
pub places_most : (w n : ℕ) → n < 10 ^ suc w → places_of n ≤ suc w
places_most zero n h = omega (arith, places_one n h)
places_most (suc w) n h =
    ⊎_elim
    (λ small. omega (arith, places_one n small))
    (λ more. omega (arith, places_more n more, places_most w (n / 10) (omega (arith, pow-suc 10 (suc w)))))
    (below_or_not n 10)

within_enough : (steps n : ℕ) → n ≤ steps → n < 10 ^ places_within steps n
within_enough zero n h = rw (within_small zero n (omega arith)) (omega arith)
within_enough (suc steps) n h =
    ⊎_elim
    (λ small. rw (within_small (suc steps) n small) small)
    (λ more.
    rw (within_more steps n more, pow-suc) (omega (arith, within_enough steps (n / 10) (omega arith))))
    (below_or_not n 10)

-- and every digit is there
pub places_enough : (n : ℕ) → n < 10 ^ places_of n
unfolding places_of
places_enough n = within_enough n n (omega arith)

-- ---- how long

pub decimal_most : (w n : ℕ) → n < 10 ^ suc w → length (decimal_of n) ≤ suc w
decimal_most w n h = omega (arith, digits_length 10 (places_of n) n, places_most w n h)

pub refused_most : (r : Refusal) → length (refused_text r) ≤ 10
unfolding refused_text
refused_most r = omega (arith, decimal_most 1 (refusal_number r) (number_most r))
