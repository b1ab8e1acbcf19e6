-- What a reader has to believe of date text: `dd/mm/yyyy hh:mm:ss`, day first, character by character.
use Rattle.std.specs.Prelude.{◌≡◌, Bool, true, false, ◌&&◌, cond, List, [], ◌∷◌, ℕ, ◌+◌, ◌-◌, ◌*◌, ◌/◌, ◌%◌, ◌≤◌, ◌<◌, eqb, ℤ, length, get_or, Result, Ok, Err}
use Rattle.ground_refusal.specs.declared.Refusal.{Refusal}
use Rattle.ground_numbers.specs.Characters.{is_digit, colon}
use Rattle.ground_refusal.specs.declared.Refusal.TheVariants.{OutsideSet, ImpossibleDay, NotOfTheForm}
use Rattle.time_offset.specs.Offset.{is_offset}
use Rattle.time_local.specs.declared.LocalTime.{LocalTime}
use Rattle.time_local.specs.declared.TextFault.{TextFault}
use Rattle.time_local.specs.declared.TextFault.TheVariants.{OtherOffset, OtherForm, Impossible}
use Rattle.time_local.specs.Clock.{pack_of, unpack_of}

-- the characters that are no digits, beside the colon
abbrev pub slash : ℕ
slash = 47

abbrev pub space : ℕ
space = 32

-- ---- the form

-- "exactly `dd/mm/yyyy hh:mm:ss`, 19 bytes": a 0 stands where any digit may
unfoldable pub form : List ℕ
form =
    48 ∷ 48 ∷ slash ∷ 48 ∷ 48 ∷ slash ∷ 48 ∷ 48 ∷ 48 ∷ 48 ∷ space ∷ 48 ∷ 48 ∷ colon ∷ 48 ∷ 48 ∷ colon ∷ 48 ∷ 48 ∷ []

-- one character by the form's: a digit where it has a 0, else the form's own
unfoldable pub fits : ℕ → ℕ → Bool
fits f c = cond (eqb f 48) (is_digit c) (eqb c f)

-- all characters, as many as the form has
unfoldable pub formed : List ℕ → List ℕ → Bool
formed [] [] = true
formed [] (c ∷ s) = false
formed (f ∷ fs) [] = false
formed (f ∷ fs) (c ∷ s) = fits f c && formed fs s

-- ---- the meaning

-- two digits, '0' to '9', stand at i
pub record TwoDigits (s : List ℕ) (i : ℕ) : Type 0 where
  pub inside : i + 1 < length s
  pub first : (48 ≤ get_or s i 0) × (get_or s i 0 ≤ 57)
  pub second : (48 ≤ get_or s (i + 1) 0) × (get_or s (i + 1) 0 ≤ 57)

-- the number of the two digits at i
unfoldable pub two : List ℕ → ℕ → ℕ
two s i = (get_or s i 0 - 48) * 10 + (get_or s (i + 1) 0 - 48)

-- day first: the day from the first two digits, the month from the next two, the year from four
unfoldable pub typed : List ℕ → LocalTime
typed s =
    record {
      day = two s 0;
      month = two s 3;
      year = two s 6 * 100 + two s 8;
      hour = two s 11;
      minute = two s 14;
      second = two s 17;
    }

-- "Order: 19 (offset), 24, 20"
unfoldable pub read_text : List ℕ → ℤ → Result ℕ Refusal
read_text s offset =
    cond (is_offset offset) (cond (formed form s) (pack_of (typed s) offset) (Err NotOfTheForm)) (Err (OutsideSet 0))

-- the answer of reading a text: a field, or one of these three
unfoldable pub read_as : Result ℕ TextFault → Result ℕ Refusal
read_as (Ok field) = Ok field
read_as (Err OtherOffset) = Err (OutsideSet 0)
read_as (Err OtherForm) = Err NotOfTheForm
read_as (Err Impossible) = Err (ImpossibleDay 0)

-- ---- the characters of a local time

-- what two digits, or four for the year, have room for
pub record Typable (t : LocalTime) : Type 0 where
  pub day : t.day ≤ 99
  pub month : t.month ≤ 99
  pub year : t.year ≤ 9999
  pub hour : t.hour ≤ 99
  pub minute : t.minute ≤ 99
  pub second : t.second ≤ 99

-- the two characters of a number below 100
unfoldable pub tens : ℕ → ℕ
tens n = 48 + n / 10

unfoldable pub units : ℕ → ℕ
units n = 48 + n % 10

-- `dd/mm/yyyy hh:mm:ss`
unfoldable pub text_of : LocalTime → List ℕ
text_of t =
    tens t.day ∷ units t.day ∷ slash
    ∷ tens t.month ∷ units t.month ∷ slash
    ∷ tens (t.year / 100) ∷ units (t.year / 100) ∷ tens (t.year % 100) ∷ units (t.year % 100) ∷ space
    ∷ tens t.hour ∷ units t.hour ∷ colon
    ∷ tens t.minute ∷ units t.minute ∷ colon
    ∷ tens t.second ∷ units t.second ∷ []

-- the text is the characters of a local time, whose field at the offset gives that local time back
pub record IsText (s : List ℕ) (offset : ℤ) (field : ℕ) : Type 0 where
  pub time : LocalTime
  pub typable : Typable time
  pub characters : s ≡ text_of time
  pub packs : pack_of time offset ≡ Ok field
  pub unpacks : unpack_of field offset ≡ Ok time
