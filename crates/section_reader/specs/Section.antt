-- What a reader has to believe of a section: document 01's table 'A section on the wire', refusals 1 to 7 in their order, and the good section printed.
use Rattle.std.specs.Prelude.{ℕ, ◌+◌, ◌-◌, ◌*◌, ◌/◌, ◌%◌, ◌≤◌, ◌<◌, Bool, not, ◌&&◌, List, [], ◌∷◌, ◌++◌, ◌≡◌, eqb, leb, ltb, length, get_or, take, drop, if◌then◌else◌, Result, Ok, Err}
use Rattle.ground_refusal.specs.declared.Refusal.{Refusal}
use Rattle.crc.specs.Crc.{big_endian, crc32_of, digit}
use Rattle.ground_numbers.specs.Sizes.{configuration_kind, content_kind, section_length_most, payload_most, version_most}
use Rattle.ground_refusal.specs.declared.Refusal.TheVariants.{SectionTooShort, OtherKind, FixedBitZero, SectionLengthOutside, OtherLength, NumberAboveLast, CheckNotZero}
use Rattle.section_reader.specs.declared.Heading.{Heading}

-- ---- the fields of a byte string

-- "table_id: 8 bits: FB configuration, FC certificate, FD index, FE content"
unfoldable pub is_kind : ℕ → Bool
is_kind kind = leb configuration_kind kind && leb kind content_kind

-- the 16 bits from byte i on
unfoldable pub word : List ℕ → ℕ → ℕ
word s i = get_or s i 0 * 256 + get_or s (i + 1) 0

-- "four one bits, section_length: 4 + 12 bits"
unfoldable pub section_length : List ℕ → ℕ
section_length s = word s 1 % 4096

-- "counts all bytes after itself, 9 to 4,093"
abbrev pub length_in_range : ℕ → Bool
length_in_range n = leb 9 n && leb n section_length_most

-- the six fixed bits: four before section_length, two before the version
unfoldable pub fixed_bits : List ℕ → Bool
fixed_bits s = eqb (get_or s 1 0 / 16) 15 && eqb (get_or s 5 0 / 64) 3

-- table_id; "extension: 16 bits"; "two one bits, version, current: 2 + 5 + 1 bits"; "section_number, last_section_number: 8 + 8 bits"
unfoldable pub heading_of : List ℕ → Heading
heading_of s =
    record {
      kind = get_or s 0 0;
      extension = word s 3;
      version = get_or s 5 0 / 2 % 32;
      current = eqb (get_or s 5 0 % 2) 1;
      number = get_or s 6 0;
      last = get_or s 7 0;
    }

-- the bytes between the eight of the heading and the four of the check
unfoldable pub payload_of : List ℕ → List ℕ
payload_of s = take (length s - 12) (drop 8 s)

-- ---- reading

-- "Order. Section: 1 to 7 as numbered": a good section is told by its heading and the length of its payload
unfoldable pub read_section : List ℕ → Result (Heading × ℕ) Refusal
read_section s =
    if ltb (length s) 12 then Err SectionTooShort else
    if not (is_kind (get_or s 0 0)) then Err OtherKind else
    if not (fixed_bits s) then Err FixedBitZero else
    if not (length_in_range (section_length s)) then Err SectionLengthOutside else
    if not (eqb (length s) (section_length s + 3)) then Err OtherLength else
    if ltb (get_or s 7 0) (get_or s 6 0) then Err NumberAboveLast else
    if not (eqb (crc32_of s) 0) then Err CheckNotZero else
    Ok (heading_of s, length s - 12)

-- how many bytes a section that begins the byte string has, by its first three: 1 where section_length is cut off, 4 where it is outside its range
unfoldable pub stated_length : List ℕ → Result ℕ Refusal
stated_length s =
    if ltb (length s) 3 then Err SectionTooShort else
    if not (length_in_range (section_length s)) then Err SectionLengthOutside else
    Ok (section_length s + 3)

-- ---- the good section printed

-- the heading before n bytes of payload, field by field; section_length "counts all bytes after itself": five of the heading, the payload, four of the check
unfoldable pub heading_bytes : Heading → ℕ → List ℕ
heading_bytes h n =
    (h.kind ∷ [])
    ++ big_endian 2 (0xF000 + (n + 9))
    ++ big_endian 2 h.extension
    ++ ((0xC0 + (h.version * 2 + digit h.current)) ∷ h.number ∷ h.last ∷ [])

-- the bytes with their CRC_32 after them: "the register over the whole section is zero"
unfoldable pub checked : List ℕ → List ℕ
checked s = s ++ big_endian 4 (crc32_of s)

unfoldable pub printed : Heading → List ℕ → List ℕ
printed h payload = checked (heading_bytes h (length payload) ++ payload)

-- a heading that a section can have
pub record WellFormed (h : Heading) : Type 0 where
  pub kind_low : configuration_kind ≤ h.kind
  pub kind_high : h.kind ≤ content_kind
  pub extension_high : h.extension ≤ 0xFFFF
  pub version_high : h.version ≤ version_most
  pub number_high : h.number ≤ h.last
  pub last_high : h.last ≤ 255

-- ---- what is said of a section

-- s is a good section with this heading and this payload
pub record IsGood (s : List ℕ) (h : Heading) (payload : List ℕ) : Type 0 where
  pub reads : read_section s ≡ Ok (h, length payload)
  pub carries : payload_of s ≡ payload

-- s is the section printed of a heading that a section can have and of a payload of at most 4,084 bytes
pub record IsPrinted (s : List ℕ) (h : Heading) (payload : List ℕ) : Type 0 where
  pub formed : WellFormed h
  pub short : length payload ≤ payload_most
  pub is : s ≡ printed h payload

-- the bit of value 2 ^ k in byte i is one of the six fixed ones
pub data FixedBit : ℕ → ℕ → Type 0 where
  before_length : (j : ℕ) → j < 4 → FixedBit 1 (4 + j)
  before_version : (j : ℕ) → j < 2 → FixedBit 5 (6 + j)
