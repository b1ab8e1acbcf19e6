-- What a reader has to believe of a section's refusals: 01's list, 1 to 7, each with its condition.
use Rattle.std.specs.Prelude.{ℕ, ◌+◌, not, ◌&&◌, List, [], ◌∷◌, eqb, leb, ltb, length}
use Rattle.ground_numbers.specs.Sizes.{section_length_most}
use Rattle.ground_refusal.specs.declared.Refusal.TheVariants.{SectionTooShort, OtherKind, FixedBitZero, SectionLengthOutside, OtherLength, NumberAboveLast, CheckNotZero}
use Rattle.crc.specs.Crc.{crc32_of}
use Rattle.section_reader.specs.Section.{is_kind, fixed_bits, section_length, heading_of}
use Rattle.promises_orders.specs.Order.{Line, ◌when◌}

-- "Section: 1 to 7 as numbered"
unfoldable pub section_lines : List ℕ → List Line
section_lines s =
    -- 1: "section shorter than 12 bytes"
    SectionTooShort when ltb (length s) 12
    -- 2: "table_id not FB to FE, or not the kind this reader takes"
    ∷ OtherKind when not (is_kind (heading_of s).kind)
    -- 3: "one of the six fixed bits of the heading is 0"
    ∷ FixedBitZero when not (fixed_bits s)
    -- 4: "section_length below 9 or above 4,093"
    ∷ SectionLengthOutside when not (leb 9 (section_length s) && leb (section_length s) section_length_most)
    -- 5: "byte string not section_length + 3 long"
    ∷ OtherLength when not (eqb (length s) (section_length s + 3))
    -- 6: "section_number above last"
    ∷ NumberAboveLast when ltb (heading_of s).last (heading_of s).number
    -- 7: "CRC_32 register not zero"
    ∷ CheckNotZero when not (eqb (crc32_of s) 0)
    ∷ []
