-- What a reader has to believe of the content table: its fields in wire order, its extension, and its two variants.
use Rattle.std.specs.Prelude.{ℕ, List, length, eqb, Result, Err}
use Rattle.ground_refusal.specs.declared.Refusal.{Refusal}
use Rattle.ground_refusal.specs.declared.Refusal.TheVariants.{LeftOver, PastPart, OtherChecksum}
use Rattle.body_formats.specs.Reading.{Reading, found, and_then, need}
use Rattle.body_formats.specs.Format.{Format, ◌▷◌, number, among, bytes_among, reserved, list_of, opaque, exact, view, length_of, counted}
use Rattle.body_formats.specs.Identifier.{identifier}
use Rattle.body_formats.specs.Answers.{step_of}
use Rattle.body_formats.specs.Body.{reading, body_laid, laid_tape}
use Rattle.body_extension.specs.Extension.{extension_of}
use Rattle.content_variant.specs.Variant.{by_width, opened}
-- "FE content"
pub use Rattle.ground_numbers.specs.Sizes.{content_kind}

-- ---- auxiliary files

-- "each with type 8 (free), length 24, data", the length of 32 bits in the other variant
pub record Auxiliary : Type 0 where
  pub type : ℕ
  pub bytes : List ℕ

-- w is the length's width in bytes: "Its Table 4 says 24 bits, its text 32. The table decides: 24"; 3 or 4 bytes, by the variant
unfoldable pub auxiliary : ℕ → Format Auxiliary
auxiliary w = view (λ x. record { type = x.0; bytes = x.1 }) (λ a. (a.type, a.bytes)) (number 1 ▷ opaque w)

-- "4 reserved, auxiliary count 4 bits (0 to 2)"
unfoldable pub auxiliaries : ℕ → Format (List Auxiliary)
auxiliaries w = list_of (among 0 2 (reserved 4 0)) (auxiliary w)

-- ---- languages

-- "three letters a to z, 5 reserved, character set 3 bits (0 to 4), 16-bit text length, text, 8-bit agency length, agency"
pub record Language : Type 0 where
  pub letters : List ℕ
  pub character_set : ℕ
  pub text : List ℕ
  pub agency : List ℕ
  pub auxiliaries : List Auxiliary

abbrev pub LanguageFields : Type 0
LanguageFields = List ℕ × (ℕ × (List ℕ × (List ℕ × List Auxiliary)))

unfoldable pub language_fields : ℕ → Format LanguageFields
language_fields w = bytes_among 0x61 0x7A 3 ▷ (among 0 4 (reserved 5 0) ▷ (opaque 2 ▷ (opaque 1 ▷ auxiliaries w)))

-- "each language: 32-bit length", which its fields fill
unfoldable pub language : ℕ → Format Language
language w =
    counted (length_of 4)
    (exact PastPart
    (view
    (λ x. record { letters = x.0; character_set = x.1.0; text = x.1.1.0; agency = x.1.1.1.0; auxiliaries = x.1.1.1.1 })
    (λ v. (v.letters, (v.character_set, (v.text, (v.agency, v.auxiliaries)))))
    (language_fields w)))

-- ---- the table

pub record Content : Type 0 where
  pub identifier : List ℕ
  pub languages : List Language
  pub signature : List ℕ

abbrev pub Fields : Type 0
Fields = List ℕ × (List Language × List ℕ)

-- "4 reserved, 35 digits, 4 reserved, language count 4 bits (1 to 5); each language", "Then signature"
unfoldable pub fields : ℕ → Format Fields
fields w = identifier ▷ (list_of (among 1 5 (reserved 4 0)) (language w) ▷ opaque 2)

unfoldable pub content : ℕ → Format Content
content w = exact LeftOver (view (λ x. record { identifier = x.0; languages = x.1.0; signature = x.1.1 }) (λ c. (c.identifier, (c.languages, c.signature))) (fields w))

-- ---- the extension

-- "23 last": "content extension is not the CRC-16 of the identifier"
unfoldable pub reading_of : ℕ → ℕ → ℕ → List ℕ → Reading Content
reading_of w kind extension s =
    and_then (reading (content w) content_kind kind s) (λ c q.
    need (eqb extension (extension_of c.identifier)) OtherChecksum (found c q))

-- where the table ends, or why it is refused
unfoldable pub content_read : ℕ → ℕ → ℕ → List ℕ → Result ℕ Refusal
content_read w kind extension s = step_of (reading_of w kind extension s)

-- ---- the variant, 24 or 32: "The reader and writer take a named variant"

-- what is said above, with the width of the variant v
unfoldable pub variant_read : ℕ → ℕ → ℕ → List ℕ → Result ℕ Refusal
variant_read kind v extension s = by_width (opened kind v (length s)) (λ w. content_read w kind extension s) Err

-- a body laid out for a writer, in a lent tape: its extension, which is no part of it, is not looked at
unfoldable pub variant_laid : ℕ → ℕ → List ℕ → ℕ → Result ℕ Refusal
variant_laid kind v s room = by_width (opened kind v (length s)) (λ w. body_laid (content w) content_kind kind s room) Err

unfoldable pub variant_tape : ℕ → ℕ → List ℕ → List ℕ → List ℕ
variant_tape kind v s tape = by_width (opened kind v (length s)) (λ w. laid_tape (content w) content_kind kind s tape) (λ r. tape)
