-- What a reader has to believe of the fields asked for: each is found by what stands before it, whether or not the whole body is good.
use Rattle.std.specs.Prelude.{ℕ, List, length, Result}
use Rattle.ground_refusal.specs.declared.Refusal.{Refusal}
use Rattle.body_formats.specs.Reading.{Reading, and_then}
use Rattle.body_formats.specs.Format.{count, opaque}
use Rattle.body_formats.specs.Answers.{number_of, part_of, number_read, part_listed, thing_listed}
use Rattle.certificate.specs.Certificate.{parts}

-- what is read after the certificate authorization lists, and after the certificates
abbrev pub after_authorizations : {A : Type 0} → List ℕ → (ℕ → Reading A) → Reading A
after_authorizations s k = and_then ((parts 2).parse s (length s) 0) (λ xs q. k q)

abbrev pub after_certificates : {A : Type 0} → List ℕ → (ℕ → Reading A) → Reading A
after_certificates s k = after_authorizations s (λ q. and_then ((parts 1).parse s (length s) q) (λ ys r. k r))

unfoldable pub authorization_count : List ℕ → Result (ℕ × ℕ) Refusal
authorization_count s = number_read 1 s (length s) 0

unfoldable pub authorization_part : List ℕ → ℕ → Result (ℕ × ℕ) Refusal
authorization_part s i = part_listed 1 2 i s (length s) 0

unfoldable pub certificate_count : List ℕ → Result (ℕ × ℕ) Refusal
certificate_count s = number_of (after_authorizations s (λ q. (count 1).parse s (length s) q))

unfoldable pub certificate_part : List ℕ → ℕ → Result (ℕ × ℕ) Refusal
certificate_part s i = part_of (after_authorizations s (λ q. thing_listed (count 1) (opaque 1) i s (length s) q))

unfoldable pub signature_part : List ℕ → Result (ℕ × ℕ) Refusal
signature_part s = part_of (after_certificates s (λ q. (opaque 2).parse s (length s) q))
