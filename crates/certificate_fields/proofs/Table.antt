-- The fields asked for of an accepted body are its table's: what the definitions read one by one, the table's reader read in the same places.
use Prim.Native.Nat.{ℕ, zero, suc, ◌+◌, ◌-◌, ◌≤◌, ◌<◌}
use Rattle.std.specs.Prelude.{Result, Ok, Err}
use Rattle.ground_refusal.specs.declared.Refusal.{Refusal}
use mathlib.Core.Path.{◌≡◌, sym, ap, ap₂, ◌∙◌}
use mathlib.Core.List.{List, [], ◌∷◌, ◌++◌}
use native.Mathlib.Omega.{arith}
use native.Mathlib.Nat.{le_refl}
use lib.ListN.{length, get_or, take, drop, length-append}
use borrow.Author.Tests.{lt-ltb}
use Rattle.ground_refusal.specs.declared.Refusal.TheVariants.{LeftOver, OutsideSet}
use Rattle.body_formats.specs.Reading.{found, and_then}
use Rattle.body_formats.specs.Format.{count, print_all, repeat, list_of, rest, length_of, counted, opaque}
use Rattle.body_formats.specs.Body.{reading}
use Rattle.body_formats.specs.Answers.{part_of, number_read, after, thing_listed, part_listed}
use Rattle.body_formats.proofs.Classes.{Bytes}
use Rattle.body_formats.specs.Held.{Fills}
use Rattle.body_formats.proofs.Outcomes.{found_inj, and_then_found, within_found}
use Rattle.body_formats.proofs.Leaves.{length_bytes_lem}
use Rattle.body_formats.proofs.Parts.{opaque_next}
use Rattle.body_formats.proofs.Elements.{exact_found, view_found, followed_found, list_found, listed_is, listed_past, opaque_fills}
use Rattle.body_formats.proofs.RoundTrips as trips
use Rattle.certificate.specs.Certificate.{parts, Certificates, certificate_kind, named, unnamed, fields, certificate}
use Rattle.certificate_fields.specs.Asked.{authorization_count, authorization_part, certificate_count, certificate_part, signature_part}
use Rattle.certificate_fields.specs.Agreement.{taking, CertificateAsked}
use Rattle.certificate.proofs.Lawful.{parts_lawful, certificate_filling}

-- ---- where a list of parts has each of them

taking_is : (w : ℕ) (xss : List (List ℕ)) → taking w xss ≡ 1 + length (print_all (opaque w).print xss)
unfolding list_of count
taking_is w xss = simp (length-append, length_bytes_lem)

opaque_takes : (w : ℕ) (xs : List ℕ) → length ((opaque w).print xs) ≡ w + length xs
unfolding counted rest length_of count
opaque_takes w xs = simp (length-append, length_bytes_lem)

module _ (s : List ℕ) (b : Bytes s) (w : ℕ) where
  abbrev l : ℕ
  l = length s

  abbrev printed : List (List ℕ) → ℕ
  printed xss = length (print_all (opaque w).print xss)

  -- the part after i others ends after their bytes and its own
  after_ends : (i p : ℕ) (xss : List (List ℕ)) (q : ℕ) → repeat ((opaque w).parse s l) (length xss) p ≡ found xss q → i < length xss
      → after (opaque w) i s l p ≡ found (get_or xss i []) (p + printed (take i xss) + w + length (get_or xss i []))
  unfolding repeat after print_all
  after_ends i p [] q e h = absurd (omega arith)
  after_ends zero p (xs ∷ xss) q e h =
      let f = and_then_found ((opaque w).parse s l p) _ (xs ∷ xss) q e in
      let g = and_then_found (repeat ((opaque w).parse s l) (length xss) f.1) _ (xs ∷ xss) q f.3 in
      let this : f.0 ≡ xs = ap (λ yss. get_or yss 0 xs) (found_inj g.3).0 in
      let ends : f.1 ≡ p + 0 + w + length xs = omega (arith, opaque_next s l b (le_refl l) w p f.0 f.1 f.2, ap length this) in
      f.2 ∙ ap₂ found this ends
  after_ends (suc i) p (xs ∷ xss) q e h =
      let f = and_then_found ((opaque w).parse s l p) _ (xs ∷ xss) q e in
      let g = and_then_found (repeat ((opaque w).parse s l) (length xss) f.1) _ (xs ∷ xss) q f.3 in
      let k = found_inj g.3 in
      let this : f.0 ≡ xs = ap (λ yss. get_or yss 0 xs) k.0 in
      let others : g.0 ≡ xss = ap (drop 1) k.0 in
      let more = after_ends i f.1 xss q (g.2 ∙ ap₂ found others k.1) (omega arith) in
      let takes = length-append ((opaque w).print xs) (print_all (opaque w).print (take i xss)) in
      let n = length (get_or xss i []) in
      let ends : f.1 + printed (take i xss) + w + n ≡ p + length ((opaque w).print xs ++ print_all (opaque w).print (take i xss)) + w + n =
      omega (arith, opaque_next s l b (le_refl l) w p f.0 f.1 f.2, ap length this, takes, opaque_takes w xs) in
      ap (λ y. and_then y (λ ys r. after (opaque w) i s l r)) f.2 ∙ more ∙ ap (found (get_or xss i [])) ends

  module _ (p : ℕ) (xss : List (List ℕ)) (q : ℕ) (e : (parts w).parse s l p ≡ found xss q) where
    counted_at : (count 1).parse s l p ≡ found (length xss) (p + 1)
    unfolding count
    counted_at =
        let f = list_found (count 1) (opaque w) s l p xss q e in
        let z = (found_inj (within_found s l p (p + 1) _ (length xss) f.0 f.1).2).1 in
        f.1 ∙ ap (found (length xss)) (sym z)

    parts_end : (p + taking w xss ≡ q) × (q ≤ l)
    unfolding count
    parts_end =
        let inside = (within_found s l p (p + 1) _ (length xss) (p + 1) counted_at).0 in
        let f = (parts_lawful w).forth s l p xss q b (le_refl l) (omega arith) e in
        (sym f.next, f.inside)

    part_is : (i : ℕ) → i < length xss → part_of (thing_listed (count 1) (opaque w) i s l p) ≡ Ok (p + taking w (take i xss) + w, length (get_or xss i []))
    unfolding thing_listed
    part_is i h =
        let f = list_found (count 1) (opaque w) s l p xss q e in
        let z = (found_inj (sym f.1 ∙ counted_at)).1 in
        let each = ap (repeat ((opaque w).parse s l) (length xss)) (sym z) ∙ f.2 in
        let n = length (get_or xss i []) in
        let begins : p + 1 + printed (take i xss) + w + n - n ≡ p + taking w (take i xss) + w = omega (arith, taking_is w (take i xss)) in
        rw (counted_at, lt-ltb i (length xss) h, after_ends i (p + 1) xss q each h) (ap (λ (at : ℕ). Ok (at, n)) begins)

-- ---- the table

module _ (kind : ℕ) (s : List ℕ) (b : Bytes s) (c : Certificates) (q : ℕ) (e : reading certificate certificate_kind kind s ≡ found c q) where
  -- where the three fields end
  three : (i j : ℕ) × ((parts 2).parse s (length s) 0 ≡ found c.authorizations i) × ((parts 1).parse s (length s) i ≡ found c.certificates j)
      × ((opaque 2).parse s (length s) j ≡ found c.signature q)
  unfolding certificate fields
  three =
      let a = trips.accepted certificate certificate_filling certificate_kind kind s b c q e in
      let x = exact_found LeftOver _ s (length s) 0 c q a.2 in
      let v = view_found named unnamed fields s (length s) 0 c q x.0 in
      let f = followed_found (parts 2) _ s (length s) 0 v.0 q v.1 in
      let g = followed_found (parts 1) (opaque 2) s (length s) f.0 v.0.1 q f.2 in (
        f.0,
        g.0,
        f.1 ∙ ap (λ (y : Certificates). found y.authorizations f.0) v.2,
        g.1 ∙ ap (λ (y : Certificates). found y.certificates g.0) v.2,
        g.2 ∙ ap (λ (y : Certificates). found y.signature q) v.2,
      )

  -- each where the fields before it end
  ends : (three.0 ≡ taking 2 c.authorizations) × (three.1 ≡ taking 2 c.authorizations + taking 1 c.certificates)
  ends =
      let f = (parts_end s b 2 0 c.authorizations three.0 three.2).0 in
      let g = (parts_end s b 1 three.0 c.certificates three.1 three.3).0 in
      (omega arith, omega arith)

  -- a part found as bytes of the body fills them
  fills : (w t r : ℕ) (xs : List ℕ) (part : Result (ℕ × ℕ) Refusal) → (opaque w).parse s (length s) t ≡ found xs r → part ≡ part_of (found xs r) → Fills s part xs
  fills w t r xs part f z =
      let g = opaque_fills s (length s) t w xs r f in
      (g.0, g.1, z ∙ g.2, g.3, g.4)

  authorizations_counted : authorization_count s ≡ Ok (length c.authorizations, 1)
  unfolding authorization_count number_read
  authorizations_counted = rw (counted_at s b 2 0 c.authorizations three.0 three.2)

  authorization_is : (i : ℕ) → i < length c.authorizations
      → authorization_part s i ≡ Ok (taking 2 (take i c.authorizations) + 2, length (get_or c.authorizations i []))
  unfolding authorization_part part_listed
  authorization_is i h =
      let z : 0 + taking 2 (take i c.authorizations) + 2 ≡ taking 2 (take i c.authorizations) + 2 = omega arith in
      part_is s b 2 0 c.authorizations three.0 three.2 i h ∙ ap (λ (at : ℕ). Ok (at, length (get_or c.authorizations i []))) z

  authorization_fills : (i : ℕ) → i < length c.authorizations → Fills s (authorization_part s i) (get_or c.authorizations i [])
  unfolding authorization_part part_listed
  authorization_fills i h =
      let f = listed_is (count 1) (opaque 2) s (length s) 0 c.authorizations three.0 three.2 [] i h in
      fills 2 f.0 f.1 _ _ f.3 (ap part_of f.2)

  authorization_past : (i : ℕ) → length c.authorizations ≤ i → authorization_part s i ≡ Err (OutsideSet 0)
  unfolding authorization_part part_listed
  authorization_past i h = rw (listed_past (count 1) (opaque 2) s (length s) 0 c.authorizations three.0 three.2 i h)

  certificates_counted : certificate_count s ≡ Ok (length c.certificates, taking 2 c.authorizations + 1)
  unfolding certificate_count
  certificates_counted =
      let z : three.0 + 1 ≡ taking 2 c.authorizations + 1 = omega (arith, ends.0) in
      rw (three.2, counted_at s b 1 three.0 c.certificates three.1 three.3) (ap (λ b. Ok (length c.certificates, b)) z)

  certificate_is : (i : ℕ) → i < length c.certificates
      → certificate_part s i ≡ Ok (taking 2 c.authorizations + taking 1 (take i c.certificates) + 1, length (get_or c.certificates i []))
  unfolding certificate_part
  certificate_is i h =
      rw three.2
      (part_is s b 1 three.0 c.certificates three.1 three.3 i h
      ∙ ap (λ (at : ℕ). Ok (at + taking 1 (take i c.certificates) + 1, length (get_or c.certificates i []))) ends.0)

  certificate_fills : (i : ℕ) → i < length c.certificates → Fills s (certificate_part s i) (get_or c.certificates i [])
  unfolding certificate_part
  certificate_fills i h =
      let f = listed_is (count 1) (opaque 1) s (length s) three.0 c.certificates three.1 three.3 [] i h in
      fills 1 f.0 f.1 _ _ f.3 (rw (three.2, f.2))

  certificate_past : (i : ℕ) → length c.certificates ≤ i → certificate_part s i ≡ Err (OutsideSet 0)
  unfolding certificate_part
  certificate_past i h = rw (three.2, listed_past (count 1) (opaque 1) s (length s) three.0 c.certificates three.1 three.3 i h)

  signature_is : signature_part s ≡ Ok (taking 2 c.authorizations + taking 1 c.certificates + 2, length c.signature)
  unfolding signature_part
  signature_is =
      let n = opaque_next s (length s) b (le_refl (length s)) 2 three.1 c.signature q three.4 in
      let z : q - length c.signature ≡ taking 2 c.authorizations + taking 1 c.certificates + 2 = omega (arith, n, ends.1) in
      rw (three.2, three.3, three.4) (ap (λ (at : ℕ). Ok (at, length c.signature)) z)

  signature_fills : Fills s (signature_part s) c.signature
  unfolding signature_part
  signature_fills = fills 2 three.1 q _ _ three.4 (rw (three.2, three.3, three.4))

  pub certificate_asked : CertificateAsked s c
  certificate_asked =
      record {
        authorizations_counted = authorizations_counted;
        authorization_is = authorization_is;
        authorization_fills = authorization_fills;
        authorization_past = authorization_past;
        certificates_counted = certificates_counted;
        certificate_is = certificate_is;
        certificate_fills = certificate_fills;
        certificate_past = certificate_past;
        signature_is = signature_is;
        signature_fills = signature_fills;
      }
