-- What a reader has to believe of an answer that C takes apart: what include/neapwillow.h takes from it, and what that is to be.
use Rattle.std.specs.Prelude.{ℕ, ◌/◌, ◌%◌, ◌^◌, ◌<◌, ◌≡◌}
use Rattle.ground_refusal.specs.Numbers.{refusal_number, refusal_place}
use Rattle.ground_refusal.specs.declared.Refusal.{Refusal}
use Rattle.crc.specs.Crc.{digit}
use Rattle.time_days.specs.declared.Date.{Date}
use Rattle.time_local.specs.declared.LocalTime.{LocalTime}
use Rattle.section_reader.specs.declared.Heading.{Heading}

-- NW_REFUSAL: `packed & 0xFF`
abbrev pub refusal_told : ℕ → ℕ
refusal_told a = a % 256

-- NW_PLACE and nw_value: `packed >> 8`
abbrev pub above_told : ℕ → ℕ
above_told a = a / 256

-- `packed >> (8 + below) & mask`, a mask of so many bits; without one, it is cast to a type of so many: 32 for unsigned, 64 for size_t
abbrev pub field_told : ℕ → ℕ → ℕ → ℕ
field_told below width a = above_told a / 2 ^ below % 2 ^ width

-- "A refusal returns its number and a place": 56 bits have room for a place
pub record TellsRefusal (a : ℕ) (r : Refusal) : Type 0 where
  pub number : refusal_told a ≡ refusal_number r
  pub place : refusal_place r < 2 ^ 56 → above_told a ≡ refusal_place r

pub record TellsValue (a value : ℕ) : Type 0 where
  pub no_refusal : refusal_told a ≡ 0
  pub is : above_told a ≡ value

-- nw_date_year, nw_date_month, nw_date_day
pub record TellsDate (a : ℕ) (d : Date) : Type 0 where
  pub no_refusal : refusal_told a ≡ 0
  pub year : field_told 16 32 a ≡ d.year
  pub month : field_told 8 8 a ≡ d.month
  pub day : field_told 0 8 a ≡ d.day

-- nw_time_year to nw_time_second
pub record TellsTime (a : ℕ) (t : LocalTime) : Type 0 where
  pub no_refusal : refusal_told a ≡ 0
  pub year : field_told 40 32 a ≡ t.year
  pub month : field_told 32 8 a ≡ t.month
  pub day : field_told 24 8 a ≡ t.day
  pub hour : field_told 16 8 a ≡ t.hour
  pub minute : field_told 8 8 a ≡ t.minute
  pub second : field_told 0 8 a ≡ t.second

-- nw_heading_kind to nw_heading_last
pub record TellsHeading (a : ℕ) (h : Heading) : Type 0 where
  pub no_refusal : refusal_told a ≡ 0
  pub kind : field_told 48 32 a ≡ h.kind
  pub extension : field_told 32 16 a ≡ h.extension
  pub version : field_told 24 8 a ≡ h.version
  pub current : field_told 16 8 a ≡ digit h.current
  pub number : field_told 8 8 a ≡ h.number
  pub last : field_told 0 8 a ≡ h.last

-- nw_part_start, nw_part_length
pub record TellsPart (a start length : ℕ) : Type 0 where
  pub no_refusal : refusal_told a ≡ 0
  pub start_is : field_told 24 64 a ≡ start
  pub length_is : field_told 0 24 a ≡ length

-- nw_written_extension, nw_written_length
pub record TellsContent (a extension length : ℕ) : Type 0 where
  pub no_refusal : refusal_told a ≡ 0
  pub extension_is : field_told 24 32 a ≡ extension
  pub length_is : field_told 0 24 a ≡ length

-- nw_salvaged_runs, nw_salvaged_bytes
pub record TellsSalvaged (a runs bytes : ℕ) : Type 0 where
  pub no_refusal : refusal_told a ≡ 0
  pub runs_are : field_told 24 64 a ≡ runs
  pub bytes_are : field_told 0 24 a ≡ bytes
