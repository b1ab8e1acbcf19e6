-- The extension: the first 18 bytes of an accepted or a written body are its identifier, whose 140 bits' CRC-16 the extension has to be.
use Prim.Native.Nat.{ℕ, ◌≤◌, zero-le}
use Rattle.std.specs.Prelude.{Ok, Err}
use mathlib.Core.Path.{◌≡◌, sym, ap, ◌∙◌}
use mathlib.Core.Bool.{true}
use mathlib.Core.List.{List}
use native.Mathlib.Nat.{le_refl}
use native.Mathlib.Omega.{arith}
use lib.ListN.{length, take, length-append}
use lib.Seq.{length-take-le, take_at}
use lib.Dec.{leb, eqb}
use borrow.Author.Tests.{eq-eqb, ne_eqb}
use Rattle.ground_choices.proofs.Tests.{both}
use Rattle.ground_refusal.specs.declared.Refusal.{Refusal}
use Rattle.ground_refusal.specs.declared.Refusal.TheVariants.{OtherKind, LeftOver, OtherChecksum, TooLarge}
use Rattle.crc.specs.Crc.{crc16_of, crc16_after_four}
use Rattle.body_formats.specs.Reading.{Reading, found, refused, and_then, need}
use Rattle.body_formats.specs.Format.{followed, exact, view}
use Rattle.body_formats.specs.Identifier.{identifier}
use Rattle.body_formats.specs.Answers.{step_of}
use Rattle.ground_numbers.specs.Sizes.{body_most}
use Rattle.body_formats.specs.Body.{reading, body_read}
use Rattle.body_formats.proofs.Outcomes.{need_found}
use Rattle.body_formats.proofs.Classes.{Bytes, Proper}
use Rattle.body_formats.proofs.Elements.{exact_found, view_found, followed_found}
use Rattle.body_formats.proofs.Laying.{table}
use Rattle.body_formats.proofs.Identifiers.{identifier_lawful, identifier_takes, identifier_fits, identifier_bytes_lem}
use Rattle.body_extension.specs.Extension.{extension_of}
use Rattle.body_extension.proofs.Bits.{checked, other_of_bytes}
use Rattle.content.specs.Content.{content_kind, Content, fields, content, reading_of, content_read}

-- an accepted body begins with its identifier, which is checked
module _ (w : ℕ) (s : List ℕ) (b : Bytes s) where
  begins : (c : Content) (q : ℕ) → (content w).parse s (length s) 0 ≡ found c q
      → (18 ≤ length s) × (crc16_after_four (take 18 s) ≡ extension_of c.identifier)
  unfolding content fields
  begins c q e =
      let x = exact_found LeftOver _ s (length s) 0 c q e in
      let v = view_found _ _ _ s (length s) 0 c q x.0 in
      let d = followed_found identifier _ s (length s) 0 v.0 q v.1 in
      let f = identifier_fits s (length s) 0 v.0.0 d.0 d.1 in
      let writable = (identifier_lawful.forth s (length s) 0 v.0.0 d.0 b (le_refl (length s)) zero-le d.1).ok.writable in (
        omega (arith, f.0, f.1),
        ap crc16_after_four (identifier_bytes_lem s (length s) 0 v.0.0 d.0 d.1 b) ∙ checked v.0.0 writable
            ∙ ap (λ (y : Content). extension_of y.identifier) v.2,
      )

-- and so does a printed one
module _ (w : ℕ) (c : Content) (o : Proper (content w) c) where
  writable : identifier.writable c.identifier ≡ true
  unfolding content fields exact view followed
  writable = (both (identifier.writable c.identifier) _ o.writable).0

  first_bytes : take 18 ((content w).print c) ≡ identifier.print c.identifier
  unfolding content fields exact view followed
  first_bytes = take_at (identifier.print c.identifier) _ 18 (sym (identifier_takes c.identifier writable))

  pub printed_identifier : (18 ≤ length ((content w).print c)) × (crc16_after_four (take 18 ((content w).print c)) ≡ extension_of c.identifier)
  unfolding content fields exact view followed
  printed_identifier = (
    simp length-append (omega (arith, identifier_takes c.identifier writable)),
    ap crc16_after_four first_bytes ∙ checked c.identifier writable,
  )

  -- the CRC-16 of the 18 bytes, as it was before M-103, is never its extension
  pub other_before : crc16_of (take 18 ((content w).print c)) ≡ extension_of c.identifier → ⊥
  other_before e = other_of_bytes c.identifier writable (ap crc16_of (sym first_bytes) ∙ e)

module _ (w kind : ℕ) (s : List ℕ) where
  -- what else is wrong with a body comes before its extension
  pub refused_before : (extension : ℕ) (r : Refusal) → Err r ≡ body_read (content w) content_kind kind s → Err r ≡ content_read w kind extension s
  unfolding body_read content_read reading_of
  refused_before extension r e = go (reading (content w) content_kind kind s) e
    where
      go : (x : Reading Content) → Err r ≡ step_of x
          → Err r ≡ step_of (and_then x (λ c q. need (eqb extension (extension_of c.identifier)) OtherChecksum (found c q)))
      go (refused t) f = f
      go (found c q) f = absurd (let z : ◌≡◌ {A = ℕ} 0 1 = cc in omega arith)

  module _ (b : Bytes s) (q : ℕ) (e : Ok q ≡ body_read (content w) content_kind kind s) where
    accepted : (c : Content) × (reading (content w) content_kind kind s ≡ found c q)
    accepted = table (content w) content_kind kind s q e

    identified : (18 ≤ length s) × (crc16_after_four (take 18 s) ≡ extension_of accepted.0.identifier)
    unfolding reading
    identified =
        let c = accepted.0 in
        let k = need_found (eqb kind content_kind) OtherKind _ c q accepted.1 in
        begins w s b c q (need_found (leb (length s) body_most) TooLarge _ c q k.1).1

    pub identifier_there : 18 ≡ length (take 18 s)
    identifier_there = sym (length-take-le 18 s identified.0)

    -- n is what the code works out of the first 18 bytes
    module _ (extension n : ℕ) (h : n ≡ crc16_after_four (take 18 s)) where
      worked_out : n ≡ extension_of accepted.0.identifier
      worked_out = h ∙ identified.1

      pub other_extension : (n ≡ extension → ⊥) → Err OtherChecksum ≡ content_read w kind extension s
      unfolding content_read reading_of
      other_extension k = rw (accepted.1, ne_eqb extension (extension_of accepted.0.identifier) (λ z. k (worked_out ∙ sym z)))

      pub same_extension : n ≡ extension → Ok q ≡ content_read w kind extension s
      unfolding content_read reading_of
      same_extension k = rw (accepted.1, eq-eqb extension (extension_of accepted.0.identifier) (sym k ∙ worked_out))
