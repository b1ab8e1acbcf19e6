-- What a reader has to believe of the cutter: how many sections a body makes, what each carries, and the cutter's refusals in their order.
use Rattle.std.specs.Prelude.{ℕ, zero, suc, ◌+◌, ◌-◌, ◌*◌, ◌/◌, ◌≤◌, ◌<◌, true, not, ◌&&◌, List, [], ◌++◌, ◌≡◌, eqb, leb, ltb, length, take, drop, if◌then◌else◌, Result, Ok, Err}
use Rattle.ground_numbers.specs.Sizes.{payload_most, body_most, version_most}
use Rattle.ground_placing.specs.Placed.{placed}
use Rattle.ground_refusal.specs.declared.Refusal.{Refusal}
use Rattle.ground_refusal.specs.declared.Refusal.TheVariants.{OtherKind, NumberAboveLast, PastBody, OutsideSet, OutputTooSmall, TooLarge}
use Rattle.section_reader.specs.Section.{is_kind, payload_of, printed}
use Rattle.section_reader.specs.declared.Heading.{Heading}

-- ---- sections of a body

-- where the part that section k carries begins
unfoldable pub part_start : ℕ → ℕ
part_start k = k * payload_most

-- "A body of L bytes makes the ceiling of L ÷ 4,084 sections"
unfoldable pub section_count : ℕ → ℕ
section_count length = (length + (payload_most - 1)) / payload_most

-- "each section carries a consecutive part": "every section but the last" 4,084 bytes
unfoldable pub part_carried : List ℕ → ℕ → List ℕ
part_carried body k = take payload_most (drop (part_start k) body)

-- the payloads of the first n of some sections, joined
unfoldable pub parts_joined : (ℕ → List ℕ) → ℕ → List ℕ
parts_joined sections zero = []
parts_joined sections (suc n) = parts_joined sections n ++ payload_of (sections n)

-- a body has 1 to 1,045,504 bytes: else 14, 22
unfoldable pub counted_of : ℕ → Result ℕ Refusal
counted_of length =
    if eqb length 0 then Err (PastBody 0) else
    if ltb body_most length then Err TooLarge else
    Ok (section_count length)

-- ---- cutting

-- "Our cutter sets current to 1"
unfoldable pub cut_heading : ℕ → ℕ → ℕ → ℕ → ℕ → Heading
cut_heading length kind extension version number =
    record {
      kind = kind;
      extension = extension;
      version = version;
      current = true;
      number = number;
      last = section_count length - 1;
    }

-- section `number` of a body
unfoldable pub section_of : List ℕ → ℕ → ℕ → ℕ → ℕ → List ℕ
section_of body kind extension version number = printed (cut_heading (length body) kind extension version number) (part_carried body number)

-- what the cutter decides; its answer and its output follow from it
pub data Verdict : Type 0 where
  refuses : Refusal → Verdict
  writes : List ℕ → Verdict

-- 21: an output of `room` bytes is too small for the bytes
unfoldable pub cut_if_room : ℕ → List ℕ → Verdict
cut_if_room room bytes = if ltb room (length bytes) then refuses OutputTooSmall else writes bytes

-- "Cutter: 2, 19 (version above 31), 14 (L = 0), 22, 6, 21"; an extension of more than 16 bits is 19 with the version
unfoldable pub cutting : List ℕ → ℕ → ℕ → ℕ → ℕ → ℕ → Verdict
cutting body kind extension version number room =
    if not (is_kind kind) then refuses OtherKind else
    if not (leb version version_most && leb extension 0xFFFF) then refuses (OutsideSet 0) else
    if eqb (length body) 0 then refuses (PastBody 0) else
    if ltb body_most (length body) then refuses TooLarge else
    if leb (section_count (length body)) number then refuses NumberAboveLast else
    cut_if_room room (section_of body kind extension version number)

-- the answer: the length written, or the refusal
unfoldable pub cut_by : Verdict → Result ℕ Refusal
cut_by (refuses r) = Err r
cut_by (writes bytes) = Ok (length bytes)

-- "Cutter and writers leave the output's bytes after theirs"; a refusal "writes no byte"
unfoldable pub output_by : Verdict → List ℕ → List ℕ
output_by (refuses r) out = out
output_by (writes bytes) out = placed out 0 bytes

-- the cutter's answer, and the output as it leaves it, for section `number` of a body
abbrev pub cut_answer : List ℕ → ℕ → ℕ → ℕ → ℕ → List ℕ → Result ℕ Refusal
cut_answer body kind extension version number out = cut_by (cutting body kind extension version number (length out))

abbrev pub cut_output : List ℕ → ℕ → ℕ → ℕ → ℕ → List ℕ → List ℕ
cut_output body kind extension version number out = output_by (cutting body kind extension version number (length out)) out

-- ---- what is said of the cutter

-- refusals 2 and 19 do not apply
pub record Allowed (kind extension version : ℕ) : Type 0 where
  pub kind_of : is_kind kind ≡ true
  pub version_high : version ≤ version_most
  pub extension_high : extension ≤ 0xFFFF

-- nor 14, 22 and 6, for a body of so many bytes: 21 alone is left
pub record Askable (length kind extension version number : ℕ) : Type 0 where
  pub allowed : Allowed kind extension version
  pub some : 0 < length
  pub most : length ≤ body_most
  pub within : number < section_count length
