-- The laws of an identifier's day by its digits: of decimal digits the bytes are in the order of the numbers that they write.
use Prim.Native.Nat.{ℕ, zero, suc, ◌+◌, ◌*◌, ◌/◌, ◌%◌, ◌≤◌, ◌<◌}
use Rattle.std.specs.Prelude.{Ok}
use mathlib.Core.Path.{◌≡◌, refl, sym, ◌∙◌}
use mathlib.Core.List.{List, [], ◌∷◌}
use mathlib.Core.Bool.{Bool, true, ◌&&◌}
use native.Mathlib.Decide.{dec_le}
use native.Mathlib.Omega.{arith}
use lib.ListN.{length, get_or}
use lib.Dec.{leb, ltb, lit≤}
use borrow.Author.Tests.{ltb-true, leb-true}
use Rattle.ground_choices.proofs.Tests.{both}
use Rattle.ground_refusal.specs.declared.Refusal.TheVariants.{DigitAboveNine}
use Rattle.time_dates.proofs.Dates.{usual_date}
use Rattle.time_fields.specs.Field.{worth}
use Rattle.body_formats.specs.Reading.{found}
use Rattle.body_formats.specs.Format.{decimal, digits}
use Rattle.body_formats.specs.Identifier.{identifier_pairs, identifier_bytes, has_real_day}
use Rattle.body_formats.specs.Answers.{field_part}
use Rattle.body_formats.proofs.Outcomes.{found_inj, need_found, within_found}
use Rattle.body_formats.proofs.Leaves.{reserved_found}
use Rattle.body_formats.proofs.Readers.{field_found}
use Rattle.body_formats.proofs.Strings.{low_digit, high_digit}
use Rattle.body_formats.proofs.Identifiers.{digits_in, real_day}

-- ---- the digits that were read: they are decimal

pub digits_read : (s : List ℕ) (l p : ℕ) (ds : List ℕ) (q : ℕ) → (digits identifier_pairs).parse s l p ≡ found ds q
    → (digits_in s p identifier_bytes ≡ ds) × (decimal (digits_in s p identifier_bytes) ≡ true)
unfolding digits
digits_read s l p ds q e =
    let g = reserved_found 4 s l p _ ds q e in
    let f = within_found s l p (p + identifier_bytes) _ ds q g.1 in
    let d = need_found (decimal (digits_in s p identifier_bytes)) (DigitAboveNine p) _ ds q f.2 in
    ((found_inj d.1).0, d.0)

pub part_decimal : (s : List ℕ) (l p a n : ℕ) → Ok (a, n) ≡ field_part p ((digits identifier_pairs).parse s l p) → decimal (digits_in s a identifier_bytes) ≡ true
part_decimal s l p a n e =
    let f = field_found p ((digits identifier_pairs).parse s l p) a n e in
    rw f.3 (digits_read s l p f.0 f.1 f.2).1

decimal_each : (ds : List ℕ) (i : ℕ) → decimal ds ≡ true → get_or ds i 0 < 10
unfolding decimal
decimal_each [] i e = lit≤ tt
decimal_each (a ∷ ds) zero e = ltb-true a 10 (both (ltb a 10) (decimal ds) e).0
decimal_each (a ∷ ds) (suc i) e = decimal_each ds i (both (ltb a 10) (decimal ds) e).1

-- ---- what decimal bytes are worth

-- both digits of a byte
abbrev Pair : ℕ → Type 0
Pair b = (b / 16 < 10) × (b % 16 < 10)

year_within : (c y : ℕ) → Pair c → Pair y → 0x1901 ≤ c * 256 + y → c * 256 + y ≤ 0x2037 → (1901 ≤ worth c * 100 + worth y) × (worth c * 100 + worth y ≤ 2037)
unfolding worth
year_within c y hc hy from until = elim (dec_le c 0x19) [ yes h ↦ early h | no h ↦ late h ]
  where
    early : c ≤ 0x19 → (1901 ≤ worth c * 100 + worth y) × (worth c * 100 + worth y ≤ 2037)
    early h = let z : c ≡ 0x19 = omega arith in (omega arith, omega arith)

    late : (c ≤ 0x19 → ⊥) → (1901 ≤ worth c * 100 + worth y) × (worth c * 100 + worth y ≤ 2037)
    late h = let z : c ≡ 0x20 = omega arith in (omega arith, omega arith)

month_within : (m : ℕ) → Pair m → 1 ≤ m → m ≤ 0x12 → (1 ≤ worth m) × (worth m ≤ 12) × (worth m ≡ 2 → m ≡ 2)
unfolding worth
month_within m h from until = (omega arith, omega arith, λ e. omega arith)

day_within : (d : ℕ) → Pair d → 1 ≤ d → d ≤ 0x30 → (1 ≤ worth d) × (worth d ≤ 30) × (d ≤ 0x28 → worth d ≤ 28)
unfolding worth
day_within d h from until = (omega arith, omega arith, λ e. omega arith)

-- ---- a usual day

module _ (s : List ℕ) (p : ℕ) (there : p + identifier_bytes ≤ length s) (dec : decimal (digits_in s p identifier_bytes) ≡ true) where
  -- the bytes that have two of the digits
  byte_pair : (k : ℕ) → k + 1 < identifier_bytes → Pair (get_or s (p + (k + 1)) 0)
  byte_pair k h =
      let high = high_digit s p identifier_bytes there k h in
      let low = low_digit s p identifier_bytes there (k + 1) h in (
        omega (arith, high, decimal_each (digits_in s p identifier_bytes) (k + k + 1) dec),
        omega (arith, low, decimal_each (digits_in s p identifier_bytes) (k + 1 + (k + 1)) dec),
      )

  module _ (y m d last : ℕ) where
    abbrev early : Bool
    early = leb 0x1901 y && leb y 0x2037

    abbrev months : Bool
    months = (early && leb 1 m) && leb m 0x12

    -- a day that the comparisons tell
    pub usual_day : y ≡ get_or s (p + 12) 0 * 256 + get_or s (p + 13) 0 → m ≡ get_or s (p + 14) 0 → d ≡ get_or s (p + 15) 0
        → (last ≤ 0x30) × (m ≡ 2 → last ≡ 0x28) → ((months && leb 1 d) && leb d last) ≡ true → true ≡ has_real_day (digits_in s p identifier_bytes)
    usual_day ey em ed long e =
        let sixth = both (months && leb 1 d) (leb d last) e in
        let fifth = both months (leb 1 d) sixth.0 in
        let fourth = both (early && leb 1 m) (leb m 0x12) fifth.0 in
        let third = both early (leb 1 m) fourth.0 in
        let second = both (leb 0x1901 y) (leb y 0x2037) third.0 in
        let from = leb-true 0x1901 y second.0 in
        let until = leb-true y 0x2037 second.1 in
        let m₁ = leb-true 1 m third.1 in
        let m₂ = leb-true m 0x12 fourth.1 in
        let d₁ = leb-true 1 d fifth.1 in
        let d₂ = leb-true d last sixth.1 in
        let years = year_within (get_or s (p + 12) 0) (get_or s (p + 13) 0) (byte_pair 11 (lit≤ tt)) (byte_pair 12 (lit≤ tt)) (omega arith) (omega arith) in
        let month = month_within (get_or s (p + 14) 0) (byte_pair 13 (lit≤ tt)) (omega arith) (omega arith) in
        let day = day_within (get_or s (p + 15) 0) (byte_pair 14 (lit≤ tt)) (omega arith) (omega (arith, long.0)) in
        sym (usual_date _ _ _ years.0 years.1 month.0 month.1 day.0 day.1
        (λ f. day.2 (omega (arith, long.1 (omega (arith, month.2 f))))))
        ∙ real_day s p there _ _ _ refl refl refl
