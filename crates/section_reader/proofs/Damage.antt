-- A changed bit in a good section is refused, and a changed fixed bit by its own number.
use Prim.Native.Nat.{ℕ, zero, suc, ◌+◌, ◌-◌, ◌*◌, ◌/◌, ◌%◌, ◌^◌, ◌≤◌, ◌<◌}
use Rattle.std.specs.Prelude.{Result, Ok, Err}
use mathlib.Core.Bool.{true}
use mathlib.Core.List.{List}
use mathlib.Core.Path.{◌≡◌, refl, sym, ap, ◌∙◌}
use native.Mathlib.Nat.{add-zero, mul-div_cancel_left}
use native.Mathlib.Omega.{arith}
use lib.Bits.{bit_xor, differ, xor_shr, xor_step, xor_zero_r}
use lib.ListN.{length, get_or, length-set}
use lib.Pow.{pow-add, pow_pos}
use lib.Seq.{get_or-set_same, get_or-set_other}
use Rattle.crc.proofs.Burst.{crc32_one_bit}
use Rattle.crc.specs.Crc.{bit_changed}
use Rattle.ground_refusal.specs.declared.Refusal.{Refusal}
use Rattle.ground_refusal.specs.declared.Refusal.TheVariants.{FixedBitZero}
use Rattle.section_reader.specs.Section.{is_kind, fixed_bits, read_section, FixedBit, before_length, before_version}
use Rattle.section_reader.specs.declared.Heading.{Heading}
use Rattle.section_reader.proofs.Accepting.{accepted}
use Rattle.section_reader.proofs.Reading.{fixed_bit_zero, fixed_known, fixed_not}

-- one changed bit anywhere in a good section is refused
pub bit_refused : (s : List ℕ) (h : Heading) (n i k : ℕ) → read_section s ≡ Ok (h, n) → i < length s → k < 8
    → (r : Refusal) × (read_section (bit_changed s i k) ≡ Err r)
bit_refused s h n i k e within small = go (read_section (bit_changed s i k)) refl
  where
    go : (x : Result (Heading × ℕ) Refusal) → read_section (bit_changed s i k) ≡ x → (r : Refusal) × (read_section (bit_changed s i k) ≡ Err r)
    go (Ok (h', n')) e' = absurd (crc32_one_bit s i k within small ((accepted (bit_changed s i k) h' n' e').check ∙ sym (accepted s h n e).check))
    go (Err r) e' = (r, e')

-- ---- a changed bit is changed

other_digit : (d : ℕ) → d < 2 → differ d 1 ≡ 1 - d
other_digit zero h = refl
other_digit (suc zero) h = refl
other_digit (suc (suc d)) h = absurd (omega arith)

flips_low : (m : ℕ) → bit_xor m 1 ≡ m → ⊥
flips_low m e =
    let f = xor_step m 1 ∙ ap (λ (x : ℕ). x * 2 + differ (m % 2) 1) (xor_zero_r (m / 2)) in
    omega (arith, sym e ∙ f, other_digit (m % 2) (omega arith))

-- above the w low bits
above : (w j b : ℕ) → bit_xor b (2 ^ (w + j)) / 2 ^ w ≡ bit_xor (b / 2 ^ w) (2 ^ j)
above w j b = xor_shr b (2 ^ (w + j)) w ∙ ap (bit_xor (b / 2 ^ w)) (ap (λ (x : ℕ). x / 2 ^ w) (pow-add 2 w j) ∙ mul-div_cancel_left (2 ^ j) (pow_pos w))

flips : (a j : ℕ) → bit_xor a (2 ^ j) ≡ a → ⊥
flips a j e =
    flips_low (a / 2 ^ j)
    (sym (above j 0 a) ∙ ap (λ (n : ℕ). bit_xor a (2 ^ n) / 2 ^ j) (add-zero j) ∙ ap (λ (x : ℕ). x / 2 ^ j) e)

changed_above : (s : List ℕ) (i w j : ℕ) → i < length s → get_or (bit_changed s i (w + j)) i 0 / 2 ^ w ≡ get_or s i 0 / 2 ^ w → ⊥
unfolding bit_changed
changed_above s i w j h e =
    flips (get_or s i 0 / 2 ^ w) j
    (sym (above w j (get_or s i 0)) ∙ ap (λ (x : ℕ). x / 2 ^ w) (sym (get_or-set_same s i (bit_xor (get_or s i 0) (2 ^ (w + j))) 0 h)) ∙ e)

changed_length : (s : List ℕ) (i k : ℕ) → length (bit_changed s i k) ≡ length s
unfolding bit_changed
changed_length s i k = length-set s i (bit_xor (get_or s i 0) (2 ^ k))

changed_other : (s : List ℕ) (i j k : ℕ) → (j ≡ i → ⊥) → get_or (bit_changed s i k) j 0 ≡ get_or s j 0
unfolding bit_changed
changed_other s i j k h = get_or-set_other s i j (bit_xor (get_or s i 0) (2 ^ k)) 0 h

-- a fixed bit is refused as such where nothing earlier is
pub fixed_bit_refused : (s : List ℕ) (i k : ℕ) → 12 ≤ length s → is_kind (get_or s 0 0) ≡ true → fixed_bits s ≡ true → FixedBit i k
    → read_section (bit_changed s i k) ≡ Err FixedBitZero
fixed_bit_refused s i k long kind fixed (before_length j h) =
    fixed_bit_zero (bit_changed s 1 (4 + j)) (rw changed_length long) (rw (changed_other s 1 0 (4 + j) (omega arith)) kind)
    (fixed_not (bit_changed s 1 (4 + j)) (λ x. changed_above s 1 4 j (omega arith) (x.0 ∙ sym (fixed_known s fixed).0)))
fixed_bit_refused s i k long kind fixed (before_version j h) =
    fixed_bit_zero (bit_changed s 5 (6 + j)) (rw changed_length long) (rw (changed_other s 5 0 (6 + j) (omega arith)) kind)
    (fixed_not (bit_changed s 5 (6 + j)) (λ x. changed_above s 5 6 j (omega arith) (x.1 ∙ sym (fixed_known s fixed).1)))
