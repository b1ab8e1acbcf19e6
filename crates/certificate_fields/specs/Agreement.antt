-- What a reader has to believe of the fields asked for of an accepted certificate table: each is the table's own, and what isn't there is refused.
use Rattle.std.specs.Prelude.{ℕ, ◌+◌, ◌≤◌, ◌<◌, ◌≡◌, List, [], length, get_or, take, Ok, Err}
use Rattle.ground_refusal.specs.declared.Refusal.TheVariants.{OutsideSet}
use Rattle.body_formats.specs.Held.{Fills}
use Rattle.certificate.specs.Certificate.{parts, Certificates}
use Rattle.certificate_fields.specs.Asked.{authorization_count, authorization_part, certificate_count, certificate_part, signature_part}

-- how many bytes a list of parts takes: "8-bit count, each with" a length of w bytes "and data"
abbrev pub taking : ℕ → List (List ℕ) → ℕ
taking w xss = length ((parts w).print xss)

-- "Every field of an accepted table can be asked for, opaque bytes as the part of the body they fill; one that isn't there is 19, place 0":
-- a count is answered with the position after it; part number i begins after the count, the i parts before it, and its own length
pub record CertificateAsked (s : List ℕ) (t : Certificates) : Type 0 where
  pub authorizations_counted : authorization_count s ≡ Ok (length t.authorizations, 1)
  pub authorization_is : (i : ℕ) → i < length t.authorizations
      → authorization_part s i ≡ Ok (taking 2 (take i t.authorizations) + 2, length (get_or t.authorizations i []))
  pub authorization_fills : (i : ℕ) → i < length t.authorizations → Fills s (authorization_part s i) (get_or t.authorizations i [])
  pub authorization_past : (i : ℕ) → length t.authorizations ≤ i → authorization_part s i ≡ Err (OutsideSet 0)
  pub certificates_counted : certificate_count s ≡ Ok (length t.certificates, taking 2 t.authorizations + 1)
  pub certificate_is : (i : ℕ) → i < length t.certificates
      → certificate_part s i ≡ Ok (taking 2 t.authorizations + taking 1 (take i t.certificates) + 1, length (get_or t.certificates i []))
  pub certificate_fills : (i : ℕ) → i < length t.certificates → Fills s (certificate_part s i) (get_or t.certificates i [])
  pub certificate_past : (i : ℕ) → length t.certificates ≤ i → certificate_part s i ≡ Err (OutsideSet 0)
  pub signature_is : signature_part s ≡ Ok (taking 2 t.authorizations + taking 1 t.certificates + 2, length t.signature)
  pub signature_fills : Fills s (signature_part s) t.signature
