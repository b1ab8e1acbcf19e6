-- What a reader has to believe of a content table's fields asked for: each is found by what stands before it in its part, whether or not the whole body is good.
use Rattle.std.specs.Prelude.{ℕ, ◌+◌, List, length, Result, Err}
use Rattle.ground_refusal.specs.declared.Refusal.{Refusal}
use Rattle.body_formats.specs.Reading.{Reading, and_then}
use Rattle.body_formats.specs.Format.{Format, number, among, bytes_among, reserved, list_of, opaque}
use Rattle.body_formats.specs.Identifier.{identifier}
use Rattle.body_formats.specs.Answers.{number_of, part_of, field_part, digit_read}
use Rattle.body_asking.specs.Asking.{in_body, field_in, headed_part, nth_of}
use Rattle.body_extension.specs.Extension.{extension_at}
use Rattle.content_variant.specs.Variant.{width_of, by_width}

-- ---- the table

unfoldable pub identifier_part : List ℕ → Result (ℕ × ℕ) Refusal
identifier_part s = field_part 0 (identifier.parse s (length s) 0)

unfoldable pub identifier_digit : List ℕ → ℕ → Result (ℕ × ℕ) Refusal
identifier_digit s i = digit_read identifier i s (length s) 0

-- the extension that goes with the identifier
unfoldable pub extension : List ℕ → Result (ℕ × ℕ) Refusal
extension s = extension_at s (length s) 0

-- "4 reserved, language count 4 bits (1 to 5)", after the 18 bytes of the identifier
abbrev pub languages_counted : Format ℕ
languages_counted = among 1 5 (reserved 4 0)

unfoldable pub language_count : List ℕ → Result (ℕ × ℕ) Refusal
language_count s = number_of (languages_counted.parse s (length s) 18)

-- "each language: 32-bit length": the part that the i-th one's length counts
unfoldable pub language_part : List ℕ → ℕ → Result (ℕ × ℕ) Refusal
language_part s i =
    part_of
    (and_then (languages_counted.parse s (length s) 18) (λ n q.
    and_then (nth_of (opaque 4) n i s (length s) q) (λ xs r. (opaque 4).parse s (length s) r)))

unfoldable pub signature_part : List ℕ → Result (ℕ × ℕ) Refusal
signature_part s =
    part_of (and_then ((list_of languages_counted (opaque 4)).parse s (length s) 18) (λ xs q. (opaque 2).parse s (length s) q))

-- ---- a language, told by where it begins and its length, as they are answered above

unfoldable pub letters_part : List ℕ → ℕ → ℕ → Result (ℕ × ℕ) Refusal
letters_part s at n = field_part at (in_body s at n (λ l. (bytes_among 0x61 0x7A 3).parse s l at))

unfoldable pub character_set : List ℕ → ℕ → ℕ → Result (ℕ × ℕ) Refusal
character_set s at n = number_of (field_in (among 0 4 (reserved 5 0)) 3 s at n)

-- the text, after the letters and the character set; the agency; the auxiliary count
unfoldable pub text_in : List ℕ → ℕ → ℕ → Reading (List ℕ)
text_in s at n = field_in (opaque 2) 4 s at n

unfoldable pub agency_in : List ℕ → ℕ → ℕ → Reading (List ℕ)
agency_in s at n = and_then (text_in s at n) (λ xs q. (opaque 1).parse s (at + n) q)

unfoldable pub auxiliaries_in : List ℕ → ℕ → ℕ → Reading ℕ
auxiliaries_in s at n = and_then (agency_in s at n) (λ xs q. (among 0 2 (reserved 4 0)).parse s (at + n) q)

unfoldable pub text_part : List ℕ → ℕ → ℕ → Result (ℕ × ℕ) Refusal
text_part s at n = part_of (text_in s at n)

unfoldable pub agency_part : List ℕ → ℕ → ℕ → Result (ℕ × ℕ) Refusal
agency_part s at n = part_of (agency_in s at n)

unfoldable pub auxiliary_count : List ℕ → ℕ → ℕ → Result (ℕ × ℕ) Refusal
auxiliary_count s at n = number_of (auxiliaries_in s at n)

-- ---- the i-th auxiliary file of a language, w the width of its length: "each with type 8 (free), length 24, data"

unfoldable pub type_in : ℕ → List ℕ → ℕ → ℕ → ℕ → Reading ℕ
type_in w s at n i =
    and_then (auxiliaries_in s at n) (λ m q.
    and_then (nth_of (headed_part 1 w) m i s (at + n) q) (λ xs r. (number 1).parse s (at + n) r))

unfoldable pub auxiliary_type : ℕ → List ℕ → ℕ → ℕ → ℕ → Result (ℕ × ℕ) Refusal
auxiliary_type w s at n i = number_of (type_in w s at n i)

unfoldable pub auxiliary_part : ℕ → List ℕ → ℕ → ℕ → ℕ → Result (ℕ × ℕ) Refusal
auxiliary_part w s at n i = part_of (and_then (type_in w s at n i) (λ t q. (opaque w).parse s (at + n) q))

-- in a table of the variant v, 24 or 32: another is 19, place 0, before all that is asked of the body

unfoldable pub variant_type : ℕ → List ℕ → ℕ → ℕ → ℕ → Result (ℕ × ℕ) Refusal
variant_type v s at n i = by_width (width_of v) (λ w. auxiliary_type w s at n i) Err

unfoldable pub variant_part : ℕ → List ℕ → ℕ → ℕ → ℕ → Result (ℕ × ℕ) Refusal
variant_part v s at n i = by_width (width_of v) (λ w. auxiliary_part w s at n i) Err
