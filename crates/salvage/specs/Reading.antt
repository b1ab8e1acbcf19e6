-- What a reader has to believe of a capture read for its good sections: where one begins, and the pieces that the capture falls into.
use Rattle.std.specs.Prelude.{ℕ, zero, suc, ◌+◌, ◌-◌, ◌≤◌, Bool, true, false, List, [], ◌∷◌, ◌++◌, ◌≡◌, length, take, drop, if◌then◌else◌, Result, Ok, Err}
use Rattle.ground_refusal.specs.declared.Refusal.{Refusal}
use Rattle.section_reader.specs.declared.Heading.{Heading}
use Rattle.section_reader.specs.Section.{section_length, read_section}

-- ---- where a good section begins

-- refusals 1 to 7 do not apply: a section that is not current is good
abbrev pub is_good : Result (Heading × ℕ) Refusal → Bool
is_good (Ok (heading, length)) = true
is_good (Err r) = false

-- of the bytes from a place on, as many as a section that begins there states: section_length, and the three bytes up to its end
unfoldable pub stated : List ℕ → List ℕ
stated s = take (section_length s + 3) s

-- a good section begins the bytes
unfoldable pub begins : List ℕ → Bool
begins s = is_good (read_section (stated s))

-- how many bytes the good section has that begins them, and 0 where none does
unfoldable pub good_length : List ℕ → ℕ
good_length s = if begins s then length (stated s) else 0

-- how many bytes stand before the first good section, or before the end
unfoldable pub gap : List ℕ → ℕ
gap [] = 0
gap (b ∷ s) = if begins (b ∷ s) then 0 else suc (gap s)

-- the first good section from a place on begins at `at` and has so many bytes: none, at the capture's end, where none begins any more
pub record Next (capture : List ℕ) (from at size : ℕ) : Type 0 where
  pub after : at ≡ from + gap (drop from capture)
  pub long : size ≡ good_length (drop at capture)
  pub within : at + size ≤ length capture

-- ---- the pieces of a capture

-- one good section, or bytes none of which begins one
pub data Piece : Type 0 where
  kept : List ℕ → Piece
  skipped : List ℕ → Piece

-- a byte that is skipped stands in one piece with those that are skipped after it
abbrev pub skip : ℕ → List Piece → List Piece
skip b [] = skipped (b ∷ []) ∷ []
skip b (kept s ∷ ps) = skipped (b ∷ []) ∷ kept s ∷ ps
skip b (skipped s ∷ ps) = skipped (b ∷ s) ∷ ps

-- "takes a good section wherever one begins, going on after its end, and otherwise moves one byte on"; the first n bytes are passed by, as the
-- rest of a section that is kept
unfoldable pub pieces_after : ℕ → List ℕ → List Piece
pieces_after n [] = []
pieces_after (suc n) (b ∷ s) = pieces_after n s
pieces_after zero (b ∷ s) =
    if begins (b ∷ s)
    then kept (stated (b ∷ s)) ∷ pieces_after (length (stated (b ∷ s)) - 1) s
    else skip b (pieces_after zero s)

abbrev pub pieces : List ℕ → List Piece
pieces capture = pieces_after 0 capture

-- "It writes the good sections back to back": "What was kept is unchanged"
unfoldable pub sections_of : List Piece → List ℕ
sections_of [] = []
sections_of (kept s ∷ ps) = s ++ sections_of ps
sections_of (skipped s ∷ ps) = sections_of ps
