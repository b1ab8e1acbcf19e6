-- What C takes from an answer is what was put in: a number, a place, a value, and each of the fields that share one.
use Prim.Native.Nat.{ℕ, suc, ◌+◌, ◌/◌, ◌%◌, ◌^◌, ◌≤◌, ◌<◌}
use mathlib.Core.Path.{◌≡◌, ap, ◌∙◌}
use mathlib.Core.Bool.{Bool, true, false}
use mathlib.Core.List.{List, [], ◌∷◌}
use native.Mathlib.Omega.{arith}
use native.Mathlib.Nat.{mod-eq_of_lt, pow-le-pow_right, lt_of_lt_of_le}
use lib.ListN.{length, get_or, drop}
use Rattle.ground_refusal.specs.declared.Refusal.{Refusal}
use Rattle.ground_refusal.proofs.Numbers.{number_most}
use Rattle.crc.specs.Crc.{digit}
use Rattle.time_days.specs.declared.Date.{Date}
use Rattle.time_days.proofs.Theorems.{DateWithin}
use Rattle.time_local.specs.declared.LocalTime.{LocalTime}
use Rattle.time_local.proofs.Clocks.{ClockWithin}
use Rattle.section_reader.specs.Section.{WellFormed}
use Rattle.section_reader.specs.declared.Heading.{Heading}
use Rattle.ground_numbers.specs.Sizes.{body_most}
use Rattle.salvage.specs.Salvage.{capture_most}
use Rattle.c_answers.specs.Packing.{widths, packed}
use Rattle.c_answers.specs.Answers.{answer_of, refused_of, date_fields, time_fields, heading_fields}
use Rattle.c_answers.specs.Taking.{above_told, field_told, TellsRefusal, TellsValue, TellsDate, TellsTime, TellsHeading, TellsPart, TellsContent, TellsSalvaged}
use Rattle.c_answers.proofs.Packing.{packed_below, first_back, field_back}

-- ---- numbers, places and values

pub refusal_told_lem : (r : Refusal) → TellsRefusal (refused_of r) r
refusal_told_lem r =
    let n = number_most r in
    record { number = omega arith; place = λ p. omega arith }

pub value_told : (value : ℕ) → value < 2 ^ 56 → TellsValue (answer_of 0 value) value
value_told value p = record { no_refusal = omega arith; is = omega arith }

-- ---- fields that share a value

-- fields of 56 bits together are told whole
all_told : (fs : List (ℕ × ℕ)) → widths fs ≤ 56 → above_told (answer_of 0 (packed fs)) ≡ packed fs
all_told fs few =
    let b = lt_of_lt_of_le (packed_below fs) (pow-le-pow_right {n = 2} (omega arith) few) in
    (value_told (packed fs) b).is

-- the k-th field, counted from 0, of a list of them
pub field_told_lem : (fs : List (ℕ × ℕ)) → widths fs ≤ 56 → (k : ℕ) → k < length fs → (get_or fs k (0, 0)).1 < 2 ^ (get_or fs k (0, 0)).0
    → field_told (widths (drop (suc k) fs)) (get_or fs k (0, 0)).0 (answer_of 0 (packed fs)) ≡ (get_or fs k (0, 0)).1
field_told_lem fs few k there small =
    ap (λ (n : ℕ). n / 2 ^ widths (drop (suc k) fs) % 2 ^ (get_or fs k (0, 0)).0) (all_told fs few) ∙ field_back fs k there ∙ mod-eq_of_lt small

-- the first one, which has nothing above it, by any type that is wide enough
pub first_told : (width : ℕ) (f : ℕ × ℕ) (fs : List (ℕ × ℕ)) → widths (f ∷ fs) ≤ 56 → f.1 < 2 ^ f.0 → f.0 ≤ width
    → field_told (widths fs) width (answer_of 0 (packed (f ∷ fs))) ≡ f.1
first_told width f fs few small wide =
    ap (λ (n : ℕ). n / 2 ^ widths fs % 2 ^ width) (all_told (f ∷ fs) few)
    ∙ ap (λ (n : ℕ). n % 2 ^ width) (first_back f fs ∙ mod-eq_of_lt small)
    ∙ mod-eq_of_lt (lt_of_lt_of_le small (pow-le-pow_right {n = 2} (omega arith) wide))

-- ---- each answer that has several

pub date_told : (d : Date) → DateWithin d → TellsDate (answer_of 0 (packed (date_fields d))) d
unfolding widths date_fields
date_told d w =
    let back = field_told_lem (date_fields d) (omega arith) in
    record {
      no_refusal = omega arith;
      year = first_told 32 _ _ (omega arith) (omega arith) (omega arith);
      month = back 1 (omega arith) (omega arith);
      day = back 2 (omega arith) (omega arith);
    }

pub time_told : (t : LocalTime) → DateWithin (record { year = t.year; month = t.month; day = t.day }) → ClockWithin t
    → TellsTime (answer_of 0 (packed (time_fields t))) t
unfolding widths time_fields
time_told t d c =
    let back = field_told_lem (time_fields t) (omega arith) in
    record {
      no_refusal = omega arith;
      year = first_told 32 _ _ (omega arith) (omega arith) (omega arith);
      month = back 1 (omega arith) (omega arith);
      day = back 2 (omega arith) (omega arith);
      hour = back 3 (omega arith) (omega arith);
      minute = back 4 (omega arith) (omega arith);
      second = back 5 (omega arith) (omega arith);
    }

digit_small : (b : Bool) → digit b < 2 ^ 8
unfolding digit
digit_small true = omega arith
digit_small false = omega arith

pub heading_told : (h : Heading) → WellFormed h → TellsHeading (answer_of 0 (packed (heading_fields h))) h
unfolding widths heading_fields
heading_told h w =
    let back = field_told_lem (heading_fields h) (omega arith) in
    record {
      no_refusal = omega arith;
      kind = first_told 32 _ _ (omega arith) (omega arith) (omega arith);
      extension = back 1 (omega arith) (omega arith);
      version = back 2 (omega arith) (omega arith);
      current = back 3 (omega arith) (digit_small h.current);
      number = back 4 (omega arith) (omega arith);
      last = back 5 (omega arith) (omega arith);
    }

-- in a body of the greatest length both fields have room
pub part_told : (start length : ℕ) → start + length ≤ body_most → TellsPart (answer_of 0 (packed ((32, start) ∷ (24, length) ∷ []))) start length
unfolding widths
part_told start length l =
    record {
      no_refusal = omega arith;
      start_is = first_told 64 _ _ (omega arith) (omega arith) (omega arith);
      length_is = field_told_lem ((32, start) ∷ (24, length) ∷ []) (omega arith) 1 (omega arith) (omega arith);
    }

pub content_told : (extension length : ℕ) → extension < 2 ^ 16 → length ≤ body_most
    → TellsContent (answer_of 0 (packed ((16, extension) ∷ (24, length) ∷ []))) extension length
unfolding widths
content_told extension length e l =
    record {
      no_refusal = omega arith;
      extension_is = first_told 32 _ _ (omega arith) e (omega arith);
      length_is = field_told_lem ((16, extension) ∷ (24, length) ∷ []) (omega arith) 1 (omega arith) (omega arith);
    }

-- a capture has at most 65,536 bytes, and no more runs
pub salvaged_told : (runs bytes : ℕ) → runs ≤ capture_most → bytes ≤ capture_most
    → TellsSalvaged (answer_of 0 (packed ((24, runs) ∷ (24, bytes) ∷ []))) runs bytes
unfolding widths
salvaged_told runs bytes n b =
    record {
      no_refusal = omega arith;
      runs_are = first_told 64 _ _ (omega arith) (omega arith) (omega arith);
      bytes_are = field_told_lem ((24, runs) ∷ (24, bytes) ∷ []) (omega arith) 1 (omega arith) (omega arith);
    }
