-- What the tests of a glance say of digits, identifiers and times: their formats find them.
use Prim.Native.Nat.{ℕ, ◌+◌, ◌*◌, ◌/◌, ◌%◌, ◌^◌, ◌≤◌, ◌<◌}
use Rattle.std.specs.Prelude.{Result, Ok, Err, None}
use Rattle.ground_refusal.specs.declared.Refusal.{Refusal}
use Rattle.time_fields.specs.declared.Moment.{Moment}
use mathlib.Core.Path.{◌≡◌, refl, sym, ap, ◌∙◌}
use mathlib.Core.List.{List}
use mathlib.Core.Bool.{Bool, true, false, ◌&&◌, cond, false≢true}
use native.Mathlib.Omega.{arith}
use native.Mathlib.Nat.{le_refl, add-zero}
use native.Mathlib.Numerals.{add-one}
use lib.ListN.{length, get_or, take, drop}
use lib.Dec.{leb, eqb}
use borrow.Author.Tests.{le-leb, leb-true, lt-ltb}
use Rattle.ground_choices.proofs.Tests.{both, and_of}
use Rattle.time_days.specs.Calendar.{in_range}
use Rattle.time_fields.specs.Field.{worth, decimal_pair, day_part, hour_part, minute_part, second_part, is_decimal, possible, moment_of, read_time, as_end, read_end, live_mark}
use Rattle.time_fields.proofs.Parts.{Parts, parts}
use Rattle.time_fields.proofs.Reading.{reads_time, end_live}
use Rattle.body_formats.specs.Reading.{fine}
use Rattle.body_formats.specs.Format.{number_at, halves, decimal, digits, only, number}
use Rattle.body_formats.specs.Time.{time_fault, end_fault, time, end_time}
use Rattle.body_formats.specs.Identifier.{identifier_pairs, identifier_bytes, has_real_day, unreal_day, identifier}
use Rattle.body_formats.proofs.Outcomes.{found_inj, and_then_found, judged_found}
use Rattle.body_formats.proofs.Classes.{Bytes}
use Rattle.body_formats.proofs.Leaves.{number_below}
use Rattle.body_formats.proofs.Identifiers.{digits_in}
use Rattle.body_formats.proofs.Strings.{first_digit}
use Rattle.body_identifier.proofs.Days.{digits_read}
use Rattle.body_glance.specs.Glance.{Reads}
use Rattle.body_glance.proofs.Finds.{reads_only, reads_to, reads_number, reads_digits}

-- no is never yes
pub not_good : {P : Type 0} → false ≡ true → P
not_good e = absurd (false≢true e)

-- ---- digits

pub digits_good : (s : List ℕ) (p h : ℕ) → p < length s → 240 ≤ get_or s p 0 → get_or s p 0 ≤ 249 → decimal (halves (take h (drop (p + 1) s))) ≡ true
    → (ds : List ℕ) × Reads (digits h) s p ds (p + (h + 1))
digits_good s p h k from until d =
    let first : get_or s p 0 % 16 < 10 = omega arith in
    let all = first_digit s p h k ∙ and_of (lt-ltb (get_or s p 0 % 16) 10 first) d in
    (_, reads_to (ap (λ n. p + n) (sym (add-one h))) (reads_digits s p h (omega arith) all))

-- ---- an identifier

module _ (s : List ℕ) (p : ℕ) (k : p + 18 ≤ length s) (g : (ds : List ℕ) × Reads (digits identifier_pairs) s p ds (p + 18)) where
  pub identifier_decimal : decimal (digits_in s p identifier_bytes) ≡ true
  identifier_decimal = (digits_read s (p + 18) p g.0 (p + 18) (g.1.here (p + 18) (le_refl (p + 18)) k)).1

  pub identifier_good : has_real_day (digits_in s p identifier_bytes) ≡ true → (ds : List ℕ) × Reads identifier s p ds (p + 18)
  unfolding identifier
  identifier_good e =
      let same = (digits_read s (p + 18) p g.0 (p + 18) (g.1.here (p + 18) (le_refl (p + 18)) k)).0 in
      (g.0, reads_only unreal_day (rw (← same, e)) g.1)

-- ---- times

pair_decimal : {x y : ℕ} → x ≡ y → y ≤ 0x59 → y % 16 ≤ 9 → decimal_pair x ≡ true
unfolding decimal_pair
pair_decimal {x} e h d = and_of (le-leb (x / 16) 9 (omega arith)) (le-leb (x % 16) 9 (omega arith))

-- two decimal digits that are not above two others are not worth more
worth_most : {x y : ℕ} (tens ones : ℕ) → x ≡ y → y ≤ tens * 16 + ones → y % 16 ≤ 9 → ones ≤ 9 → worth x ≤ tens * 10 + ones
unfolding worth
worth_most tens ones e h d k = omega arith

-- the five bytes of a field, and what is asked of them
module _ (s : List ℕ) (p : ℕ) (b : Bytes s) where
  five : number_at s p 5
      ≡ (get_or s p 0 * 256 + get_or s (p + 1) 0) * 2 ^ 24 + get_or s (p + 2) 0 * 2 ^ 16 + get_or s (p + 3) 0 * 2 ^ 8 + get_or s (p + 4) 0
  unfolding number_at
  five = rw add-zero (omega arith)

  pub record Timely : Type 0 where
    pub day : 15079 ≤ get_or s p 0 * 256 + get_or s (p + 1) 0
    pub hour : get_or s (p + 2) 0 ≤ 0x23
    pub minute : get_or s (p + 3) 0 ≤ 0x59
    pub second : get_or s (p + 4) 0 ≤ 0x59
    pub hour_digit : get_or s (p + 2) 0 % 16 ≤ 9
    pub minute_digit : get_or s (p + 3) 0 % 16 ≤ 9
    pub second_digit : get_or s (p + 4) 0 % 16 ≤ 9

  module _ (t : Timely) where
    timed : read_time (number_at s p 5) p ≡ Ok (moment_of (number_at s p 5))
    unfolding is_decimal possible in_range
    timed =
        let f = number_at s p 5 in
        let u : Parts f (get_or s p 0 * 256 + get_or s (p + 1) 0) (get_or s (p + 2) 0) (get_or s (p + 3) 0) (get_or s (p + 4) 0) =
        rw five (parts (get_or s p 0 * 256 + get_or s (p + 1) 0) (b (p + 2)) (b (p + 3)) (b (p + 4))) in
        let from : 15079 ≤ day_part f = omega (arith, u.day, t.day) in
        let until : day_part f ≤ 65535 = omega (arith, u.day, b p, b (p + 1)) in
        let hours : worth (hour_part f) ≤ 23 = worth_most 2 3 u.hour t.hour t.hour_digit (omega arith) in
        let minutes : worth (minute_part f) ≤ 59 = worth_most 5 9 u.minute t.minute t.minute_digit (omega arith) in
        let seconds : worth (second_part f) ≤ 59 = worth_most 5 9 u.second t.second t.second_digit (omega arith) in
        reads_time f p (number_below s p 5 b)
        (and_of (pair_decimal u.hour (omega (arith, t.hour)) t.hour_digit)
        (and_of (pair_decimal u.minute t.minute t.minute_digit) (pair_decimal u.second t.second t.second_digit)))
        (and_of (and_of (le-leb 15079 (day_part f) from) (le-leb (day_part f) 65535 until))
        (and_of (le-leb (worth (hour_part f)) 23 hours)
        (and_of (le-leb (worth (minute_part f)) 59 minutes) (le-leb (worth (second_part f)) 59 seconds))))

    pub time_good : (x : ℕ) × Reads time s p x (p + 5)
    unfolding time
    time_good = (number_at s p 5, reads_only _ (rw timed) (reads_number s p 5 b))

  -- the tests as a glance makes them, one after the other
  pub timely : (day : ℕ) → day ≡ get_or s p 0 * 256 + get_or s (p + 1) 0
      → (leb 15079 day && leb (get_or s (p + 2) 0) 0x23 && leb (get_or s (p + 3) 0) 0x59 && leb (get_or s (p + 4) 0) 0x59 && leb (get_or s (p + 2) 0 % 16) 9
      && leb (get_or s (p + 3) 0 % 16) 9 && leb (get_or s (p + 4) 0 % 16) 9) ≡ true
      → Timely
  timely day e tests =
      let second_digit = both _ _ tests in
      let minute_digit = both _ _ second_digit.0 in
      let hour_digit = both _ _ minute_digit.0 in
      let second = both _ _ hour_digit.0 in
      let minute = both _ _ second.0 in
      let hour = both _ _ minute.0 in
      record {
        day = rw (← e) (leb-true _ _ hour.0);
        hour = leb-true _ _ hour.1;
        minute = leb-true _ _ minute.1;
        second = leb-true _ _ second.1;
        hour_digit = leb-true _ _ hour_digit.1;
        minute_digit = leb-true _ _ minute_digit.1;
        second_digit = leb-true _ _ second_digit.1;
      }

  -- what is a time is an end
  pub end_good : p + 5 ≤ length s → (x : ℕ) × Reads time s p x (p + 5) → (x : ℕ) × Reads end_time s p x (p + 5)
  unfolding time end_time only read_end
  end_good k g =
      let i = and_then_found ((number 5).parse s (p + 5) p) _ g.0 (p + 5) (g.1.here (p + 5) (le_refl (p + 5)) k) in
      let same = found_inj (sym ((reads_number s p 5 b).here (p + 5) (le_refl (p + 5)) k) ∙ i.2) in
      let e = (judged_found (time_fault (read_time i.0 p)) _ g.0 (p + 5) i.3).0 in
      (number_at s p 5, reads_only (λ f at. end_fault (read_end f at)) (as_end_lem (number_at s p 5) (rw same.0 e)) (reads_number s p 5 b))
    where
      by_time : (x : Result Moment Refusal) → time_fault x ≡ fine → end_fault (as_end x) ≡ fine
      by_time (Ok m) e = refl
      by_time (Err r) e = e

      by_mark : (f : ℕ) (live : Bool) → time_fault (read_time f p) ≡ fine → end_fault (cond live (Ok None) (as_end (read_time f p))) ≡ fine
      by_mark f true e = refl
      by_mark f false e = by_time (read_time f p) e

      as_end_lem : (f : ℕ) → time_fault (read_time f p) ≡ fine → end_fault (read_end f p) ≡ fine
      as_end_lem f e = by_mark f (eqb f live_mark) e

  pub live_good : get_or s p 0 ≡ 255 → get_or s (p + 1) 0 ≡ 255 → get_or s (p + 2) 0 ≡ 255 → get_or s (p + 3) 0 ≡ 255 → get_or s (p + 4) 0 ≡ 255
      → (x : ℕ) × Reads end_time s p x (p + 5)
  unfolding end_time
  live_good v w x y z = (number_at s p 5, reads_only _ (rw (end_live (number_at s p 5) p (rw (five, v, w, x, y, z)))) (reads_number s p 5 b))
