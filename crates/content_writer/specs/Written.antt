-- What a reader has to believe of the content writer's answer: the length of the body, and its extension.
use Rattle.std.specs.Prelude.{ℕ, List, Result, Ok, Err}
use Rattle.ground_refusal.specs.declared.Refusal.{Refusal}
use Rattle.body_formats.specs.Reading.{Reading, found, refused}
use Rattle.body_formats.specs.Body.{measured, writing, output_written}
use Rattle.body_extension.specs.Extension.{extension_of}
use Rattle.content.specs.Content.{Content, content}
use Rattle.content_variant.specs.Variant.{width_of, by_width}

-- "the content writer also gives the extension"
abbrev pub written_of : Reading Content → Result (ℕ × ℕ) Refusal
written_of (found c n) = Ok (n, extension_of c.identifier)
written_of (refused r) = Err r

-- how long the written body is and the extension that belongs to it, or why it is refused, w the width of an auxiliary file's length
unfoldable pub content_written : ℕ → List ℕ → List ℕ → ℕ → Result (ℕ × ℕ) Refusal
content_written w pool tape room = written_of (writing (content w) pool tape room)

-- ---- the variant, 24 or 32: "The reader and writer take a named variant"; its 19 comes before all fields, and writes no byte

unfoldable pub variant_measured : ℕ → List ℕ → List ℕ → Result ℕ Refusal
variant_measured v pool tape = by_width (width_of v) (λ w. measured (content w) pool tape) Err

unfoldable pub variant_written : ℕ → List ℕ → List ℕ → ℕ → Result (ℕ × ℕ) Refusal
variant_written v pool tape room = by_width (width_of v) (λ w. content_written w pool tape room) Err

unfoldable pub variant_output : ℕ → List ℕ → List ℕ → List ℕ → List ℕ
variant_output v pool tape out = by_width (width_of v) (λ w. output_written (content w) pool tape out) (λ r. out)
