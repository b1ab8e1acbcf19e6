-- What a reader has to believe of the certificate table: its fields in wire order.
use Rattle.std.specs.Prelude.{ℕ, List}
use Rattle.ground_refusal.specs.declared.Refusal.TheVariants.{LeftOver}
use Rattle.body_formats.specs.Format.{Format, ◌▷◌, count, list_of, opaque, exact, view}
-- "FC certificate"
pub use Rattle.ground_numbers.specs.Sizes.{certificate_kind}

pub record Certificates : Type 0 where
  pub authorizations : List (List ℕ)
  pub certificates : List (List ℕ)
  pub signature : List ℕ

-- a list of parts: its 8-bit count, and each with a length of w bytes
abbrev pub parts : ℕ → Format (List (List ℕ))
parts w = list_of (count 1) (opaque w)

abbrev pub Fields : Type 0
Fields = List (List ℕ) × (List (List ℕ) × List ℕ)

abbrev pub named : Fields → Certificates
named x = record { authorizations = x.0; certificates = x.1.0; signature = x.1.1 }

abbrev pub unnamed : Certificates → Fields
unnamed c = (c.authorizations, (c.certificates, c.signature))

-- "8-bit count, each with 16-bit length and data; 8-bit count, each with 8-bit length and data; signature"
unfoldable pub fields : Format Fields
fields = parts 2 ▷ (parts 1 ▷ opaque 2)

unfoldable pub certificate : Format Certificates
certificate = exact LeftOver (view named unnamed fields)
