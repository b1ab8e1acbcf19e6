-- What a reader has to believe of sections in payload bytes: where one begins, how long it is, and what is whole or unfinished of it.
use Rattle.std.specs.Prelude.{ℕ, zero, suc, ◌+◌, Bool, true, not, ◌&&◌, List, [], ◌∷◌, ◌++◌, eqb, leb, ltb, length, take, drop, if◌then◌else◌}
use Rattle.ground_numbers.specs.Sizes.{section_length_most}
use Rattle.section_reader.specs.Section.{section_length}
use Rattle.packet.specs.Sizes.{stuffing}

-- ---- a section's frame

-- "stuffing 0xFF after a section": where a section would begin it goes on to the packet's end, and so does the end itself
unfoldable pub at_stuffing : List ℕ → Bool
at_stuffing [] = true
at_stuffing (b ∷ bs) = eqb b stuffing

-- the bytes of the section that begins here: section_length "counts all bytes after itself"
unfoldable pub framed : List ℕ → ℕ
framed d = section_length d + 3

-- its section_length is there, and "above 4,093"
unfoldable pub too_long : List ℕ → Bool
too_long d = leb 3 (length d) && ltb section_length_most (section_length d)

-- its section_length is there, and all its bytes
unfoldable pub is_whole : List ℕ → Bool
is_whole d = leb 3 (length d) && leb (framed d) (length d)

-- is it nothing, or bytes that a section not yet whole may begin with?
unfoldable pub is_begun : List ℕ → Bool
is_begun [] = true
is_begun (b ∷ bs) = not (at_stuffing (b ∷ bs)) && not (too_long (b ∷ bs)) && not (is_whole (b ∷ bs))

-- no section is longer than 4,096 bytes
abbrev pub unfinished_most : ℕ
unfinished_most = 4095

-- ---- sections out of bytes

-- the sections completed, and the unfinished one after them; none: []
pub record Read : Type 0 where
  pub sections : List (List ℕ)
  pub unfinished : List ℕ

unfoldable pub nothing : Read
nothing = record { sections = []; unfinished = [] }

-- an unfinished section with more bytes: "a section_length above 4,093 [..] drops" it; or it is whole, and "bytes after a section's end are skipped"
unfoldable pub longer : List ℕ → Read
longer d =
    if too_long d then nothing else
    if is_whole d then record { sections = take (framed d) d ∷ []; unfinished = [] } else
    record { sections = []; unfinished = d }

-- where nothing is unfinished, bytes before the next pointer are skipped
unfoldable pub gone_on : List ℕ → List ℕ → Read
gone_on [] more = nothing
gone_on (b ∷ bs) more = longer ((b ∷ bs) ++ more)

-- one section before others
unfoldable pub before : List ℕ → Read → Read
before s r = record { sections = s ∷ r.sections; unfinished = r.unfinished }

-- the sections that begin at a pointer, one after the other: "several sections in one packet"; after a section_length above 4,093 "reading goes on
-- at the next pointer". Each has 3 bytes or more: the first argument, the length, is turns enough.
unfoldable pub begun_in : ℕ → List ℕ → Read
begun_in zero d = nothing
begun_in (suc n) d =
    if at_stuffing d then nothing else
    if too_long d then nothing else
    if is_whole d then before (take (framed d) d) (begun_in n (drop (framed d) d)) else
    record { sections = []; unfinished = d }

unfoldable pub begun : List ℕ → Read
begun d = begun_in (length d) d

-- the bytes of some sections, one after the other
unfoldable pub joined : List (List ℕ) → List ℕ
joined [] = []
joined (s ∷ ss) = s ++ joined ss
