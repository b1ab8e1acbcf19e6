-- What a reader has to believe of the theorems' premises: which sections are packed, and which packet comes first.
use Rattle.std.specs.Prelude.{ℕ, true, List, [], ◌∷◌, ◌≡◌, take, Ok}
use Rattle.section_reader.specs.Section.{read_section}
use Rattle.section_reader.specs.declared.Heading.{Heading}
use Rattle.packet_writer.specs.Packing.{first_room, packet_of}

-- "good sections": refusals 1 to 7 do not apply
abbrev pub GoodSection : List ℕ → Type 0
GoodSection s = (h : Heading) × (n : ℕ) × (read_section s ≡ Ok (h, n))

abbrev pub AllGood : List (List ℕ) → Type 0
AllGood [] = Unit {0}
AllGood (s ∷ ss) = GoodSection s × AllGood ss

-- the packet that a section begins in
unfoldable pub first_packet : ℕ → List ℕ → List ℕ
first_packet counter s = packet_of true counter (0 ∷ take first_room s)
