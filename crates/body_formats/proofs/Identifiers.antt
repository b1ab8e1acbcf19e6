-- The laws of a message's identifier: tables, walks, pens and fields asked for cite these, and not what its format is made of.
use Prim.Native.Nat.{ℕ, ◌+◌, ◌*◌, ◌/◌, ◌%◌, ◌≤◌, ◌<◌}
use Rattle.std.specs.Prelude.{Ok, Err}
use mathlib.Core.Path.{◌≡◌, refl, sym, ap, ap₂, ◌∙◌}
use mathlib.Core.List.{List, [], ◌∷◌}
use mathlib.Core.Bool.{Bool, true, false}
use native.Mathlib.Nat.{le_refl}
use native.Mathlib.Omega.{arith}
use lib.ListN.{length, get_or, take, drop}
use lib.Dec.{eqb, lit≤}
use borrow.Author.Tests.{eqb-true}
use Rattle.ground_choices.proofs.Tests.{both}
use Rattle.ground_refusal.specs.declared.Refusal.{Refusal}
use Rattle.ground_refusal.specs.declared.Refusal.TheVariants.{ImpossibleDay}
use Rattle.time_days.specs.Calendar.{has_day}
use Rattle.time_fields.specs.Field.{worth}
use Rattle.body_formats.specs.Reading.{Reading, found, and_then, Fault, unless, is_fine, judged}
use Rattle.body_formats.specs.Format.{halves, paired, tail, decimal, only, digits}
use Rattle.body_formats.specs.Identifier.{identifier_pairs, identifier_bytes, identifier_year, identifier_month, identifier_day, has_real_day, unreal_day, identifier}
use Rattle.body_formats.specs.Answers.{number_of, field_part, nth_digit, digit_read}
use Rattle.body_formats.proofs.Outcomes.{and_then_found, judged_found}
use Rattle.body_formats.proofs.Classes.{Bytes, Lawful}
use Rattle.body_formats.proofs.Leaves.{digits_lawful}
use Rattle.body_formats.proofs.Parts.{only_lawful}
use Rattle.body_formats.proofs.Places.{Placed, unless_until, only_placed, digits_placed}
use Rattle.body_formats.proofs.Readers.{field_found, field_refused}
use Rattle.body_formats.proofs.Strings.{Fills, digits_fit, digits_fill, digits_take, digits_many, digits_bytes, digits_entries, low_digit, high_digit, digit_of_lem, digits_value}

-- ---- both round trips, and its places

-- whether its day is real does not depend on where it stands
day_even : (ds : List ℕ) (p : ℕ) → is_fine (unreal_day ds p) ≡ is_fine (unreal_day ds 0)
day_even ds p = go (has_real_day ds)
  where
    go : (t : Bool) → is_fine (unless t (ImpossibleDay p)) ≡ is_fine (unless t (ImpossibleDay 0))
    go true = refl
    go false = refl

pub identifier_lawful : Lawful identifier
unfolding identifier
identifier_lawful = only_lawful unreal_day (digits identifier_pairs) day_even (digits_lawful identifier_pairs)

pub identifier_placed : Placed identifier
unfolding identifier
identifier_placed =
    only_placed unreal_day (digits identifier_pairs) (λ ds at. unless_until (has_real_day ds) (ImpossibleDay at) (le_refl at)) (digits_placed identifier_pairs)

-- its two entries on a tape: where it starts, and its 18 bytes
pub identifier_entries : (ds : List ℕ) (at : ℕ) → identifier.tape ds at ≡ at ∷ identifier_bytes ∷ []
unfolding identifier only
identifier_entries ds at = digits_entries identifier_pairs ds at

-- ---- a writable one

-- its bytes are those of its digits, which are 35, after four ones
pub identifier_print : (ds : List ℕ) → identifier.print ds ≡ paired (15 ∷ ds)
unfolding identifier only digits
identifier_print ds = refl

module _ (ds : List ℕ) (r : identifier.writable ds ≡ true) where
  right : ((digits identifier_pairs).writable ds ≡ true) × (is_fine (unreal_day ds 0) ≡ true)
  unfolding identifier only
  right = both ((digits identifier_pairs).writable ds) (is_fine (unreal_day ds 0)) r

  pub identifier_digits : (length ds ≡ 35) × (decimal ds ≡ true)
  unfolding digits
  identifier_digits = let c = both (eqb (length ds) 35) (decimal ds) right.0 in (eqb-true (length ds) 35 c.0, c.1)

  -- its day is real
  pub identifier_day_lem : has_real_day ds ≡ true
  identifier_day_lem = go (has_real_day ds) right.1
    where
      go : (t : Bool) → is_fine (unless t (ImpossibleDay 0)) ≡ true → t ≡ true
      go true e = refl
      go false e = e

  pub identifier_takes : identifier_bytes ≡ length (identifier.print ds)
  unfolding identifier only digits
  identifier_takes = digits_take identifier_pairs ds (record { writable = right.0; small = refl })

-- ---- one that was read: where it ends, its bytes, its digits

module _ (s : List ℕ) (l p : ℕ) (ds : List ℕ) (q : ℕ) (e : identifier.parse s l p ≡ found ds q) where
  -- its digits were read
  plain : (digits identifier_pairs).parse s l p ≡ found ds q
  unfolding identifier only
  plain =
      let f = and_then_found ((digits identifier_pairs).parse s l p) _ ds q e in
      f.2 ∙ (judged_found (unreal_day f.0 p) _ ds q f.3).1

  pub identifier_fits : (q ≡ p + identifier_bytes) × (q ≤ length s)
  identifier_fits = digits_fit s l p identifier_pairs ds q plain

  pub identifier_sized : q ≡ p + identifier_bytes
  identifier_sized = identifier_fits.0

  pub identifier_bytes_lem : Bytes s → take identifier_bytes (drop p s) ≡ identifier.print ds
  unfolding identifier only
  identifier_bytes_lem b = digits_bytes s l p identifier_pairs ds q plain b

  pub identifier_many : Bytes s → length ds ≡ 35
  identifier_many b = digits_many s l p identifier_pairs ds q plain b

-- the part answered is the one that it fills
pub identifier_fills : (s : List ℕ) (l p a n : ℕ) → Bytes s → Ok (a, n) ≡ field_part p (identifier.parse s l p)
    → (a ≡ p) × (n ≡ identifier_bytes) × Fills identifier s l p identifier_bytes
unfolding identifier only
identifier_fills s l p a n b e =
    let f = field_found p (identifier.parse s l p) a n e in
    let d = plain s l p f.0 f.1 f.2 in
    let g = digits_fill s l p identifier_pairs a n b (e ∙ ap (field_part p) (f.2 ∙ sym d)) in (
      g.0,
      g.1,
      record {
        value = g.2.value;
        parsed = f.2 ∙ sym d ∙ g.2.parsed;
        in_body_lem = g.2.in_body_lem;
        in_part_lem = g.2.in_part_lem;
        printed = g.2.printed;
        taped = g.2.taped;
      },
    )

-- ---- as it is read: its digits, and then their day

-- the digits in the n bytes at p
abbrev pub digits_in : List ℕ → ℕ → ℕ → List ℕ
digits_in s p n = tail (halves (take n (drop p s)))

module _ (s : List ℕ) (l p : ℕ) where
  pub identifier_no : (r : Refusal) → Err r ≡ field_part p ((digits identifier_pairs).parse s l p) → Err r ≡ field_part p (identifier.parse s l p)
  unfolding identifier only
  identifier_no r e = rw (field_refused p ((digits identifier_pairs).parse s l p) r e)

  -- the digits are there, and their day decides
  module _ (b : Bytes s) (a n : ℕ) (e : Ok (a, n) ≡ field_part p ((digits identifier_pairs).parse s l p)) where
    pub digits_there : (a ≡ p) × (n ≡ identifier_bytes) × (p + n ≤ length s)
    digits_there = let f = digits_value s l p identifier_pairs a n b e in (f.0, f.1, f.2)

    by_day : identifier.parse s l p ≡ judged (unreal_day (digits_in s p n) p) (found (digits_in s p n) (p + n))
    unfolding identifier only
    by_day = rw (digits_value s l p identifier_pairs a n b e).3

    pub identifier_unreal : has_real_day (digits_in s a identifier_bytes) ≡ false → Err (ImpossibleDay a) ≡ field_part p (identifier.parse s l p)
    identifier_unreal t =
        let f = digits_there in
        let u : has_real_day (digits_in s p n) ≡ false = ap₂ (λ (x m : ℕ). has_real_day (digits_in s x m)) (sym f.0) f.1 ∙ t in
        rw (by_day, u, f.0)

    pub identifier_real : has_real_day (digits_in s a identifier_bytes) ≡ true → Ok (a, n) ≡ field_part p (identifier.parse s l p)
    identifier_real t =
        let f = digits_there in
        let u : has_real_day (digits_in s p n) ≡ true = ap₂ (λ (x m : ℕ). has_real_day (digits_in s x m)) (sym f.0) f.1 ∙ t in
        e ∙ ap (field_part p) ((digits_value s l p identifier_pairs a n b e).3 ∙ sym (by_day ∙ rw u))

  -- each of its digits, asked for in the bytes of the part
  pub identifier_each : (a n : ℕ) → Bytes s → Ok (a, n) ≡ field_part p (identifier.parse s l p)
      → (a + n ≤ length s) × ((i : ℕ) → number_of (nth_digit (digits_in s a n) i a) ≡ digit_read identifier i s l p)
  identifier_each a n b e =
      let f = field_found p (identifier.parse s l p) a n e in
      let d = plain s l p f.0 f.1 f.2 in
      let v = digits_value s l p identifier_pairs a n b (e ∙ ap (field_part p) (f.2 ∙ sym d)) in
      (omega (arith, v.0, v.2), λ i. digit_of_lem identifier s l p i a n (p + n) v.0 (f.2 ∙ sym d ∙ v.3))

-- ---- its day in the 18 bytes: each of the bytes 12 to 15 has two of its digits

module _ (s : List ℕ) (p : ℕ) (there : p + identifier_bytes ≤ length s) where
  pub real_day : (y m d : ℕ) → y ≡ worth (get_or s (p + 12) 0) * 100 + worth (get_or s (p + 13) 0) → m ≡ worth (get_or s (p + 14) 0) → d ≡ worth (get_or s (p + 15) 0)
      → has_day y m d ≡ has_real_day (digits_in s p identifier_bytes)
  unfolding has_real_day identifier_year identifier_month identifier_day worth
  real_day y m d ey em ed =
      let low : (k : ℕ) → k < identifier_bytes → get_or (digits_in s p identifier_bytes) (k + k) 0 ≡ get_or s (p + k) 0 % 16 = low_digit s p identifier_bytes there in
      let high : (k : ℕ) → k + 1 < identifier_bytes → get_or (digits_in s p identifier_bytes) (k + k + 1) 0 ≡ get_or s (p + (k + 1)) 0 / 16 = high_digit s p identifier_bytes there in
      let ey' : y ≡ identifier_year (digits_in s p identifier_bytes) =
      ey ∙ omega (arith, high 11 (lit≤ tt), low 12 (lit≤ tt), high 12 (lit≤ tt), low 13 (lit≤ tt)) in
      let em' : m ≡ identifier_month (digits_in s p identifier_bytes) = em ∙ omega (arith, high 13 (lit≤ tt), low 14 (lit≤ tt)) in
      let ed' : d ≡ identifier_day (digits_in s p identifier_bytes) = ed ∙ omega (arith, high 14 (lit≤ tt), low 15 (lit≤ tt)) in
      rw (ey', em', ed')
