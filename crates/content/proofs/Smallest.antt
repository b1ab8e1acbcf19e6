-- "The smallest body is 33 bytes": each field that is there takes its bytes, a language is there, and a body of 33 bytes is accepted.
use Prim.Native.Nat.{ℕ, ◌≤◌}
use Rattle.std.specs.Prelude.{Ok}
use mathlib.Core.Path.{◌≡◌, refl}
use mathlib.Core.List.{List, [], ◌∷◌}
use mathlib.Core.Bool.{Bool, true, false, ◌&&◌}
use native.Mathlib.Omega.{arith}
use lib.ListN.{length, length-append}
use lib.Dec.{leb}
use borrow.Author.Tests.{leb-true, eqb-true}
use Rattle.ground_choices.proofs.Tests.{both}
use Rattle.ground_refusal.specs.declared.Refusal.{Refusal}
use Rattle.ground_refusal.specs.declared.Refusal.TheVariants.{OutsideSet}
use Rattle.time_days.specs.Calendar.{leap, month_length, is_date, months_from, year_of, month_of, days_of, month_start, day_number, in_range, has_day}
use Rattle.body_formats.specs.Reading.{is_fine, unless}
use Rattle.body_formats.specs.Format.{number_at, count, only, among, reserved, bytes, halves, decimal, digits, followed, view, repeat, print_all, every, list_of, rest, exact, length_of, counted}
use Rattle.body_formats.specs.Identifier.{identifier_year, identifier_month, identifier_day, has_real_day, identifier}
use Rattle.body_formats.specs.Body.{reading, body_read}
use Rattle.body_formats.proofs.Leaves.{length_bytes_lem}
use Rattle.body_formats.proofs.Identifiers.{identifier_takes}
use Rattle.content.specs.Content.{content_kind, Language, language_fields, language, auxiliaries, Content, fields, content}

tested : (t : Bool) (r : Refusal) → is_fine (unless t r) ≡ true → t ≡ true
tested true r h = refl
tested false r h = h

module _ (w : ℕ) where
  -- its length, letters, character set, two more lengths and the auxiliary count
  language_takes : (v : Language) → (language w).writable v ≡ true → 12 ≤ length ((language w).print v)
  unfolding language language_fields auxiliaries counted length_of exact view followed list_of only bytes reserved count rest
  language_takes v r =
      let three = eqb-true (length v.letters) 3 (both _ _ (both _ _ r).0).0 in
      simp (length-append, length_bytes_lem) (omega (arith, three))

  languages_take : (vs : List Language) → 1 ≤ length vs → every (language w).writable vs ≡ true → 12 ≤ length (print_all (language w).print vs)
  unfolding print_all every
  languages_take [] h r = absurd (omega arith)
  languages_take (v ∷ vs) h r = simp length-append (omega (arith, language_takes v (both _ _ r).0))

  pub content_takes : (c : Content) → (content w).writable c ≡ true → 33 ≤ length ((content w).print c)
  unfolding content fields counted length_of exact view followed list_of only reserved count rest
  content_takes c r =
      let n = length c.languages in
      let C = among 1 5 (reserved 4 0) in
      let parts = both (identifier.writable c.identifier) _ r in
      let languages = both (C.writable n) _ (both ((list_of C (language w)).writable c.languages) _ parts.1).0 in
      let some = (both (leb 1 n) _ (tested (leb 1 n && leb n 5) (OutsideSet 0) (both ((reserved 4 0).writable n) _ languages.0).1)).0 in
      let eighteen = identifier_takes c.identifier parts.0 in
      let twelve = languages_take c.languages (leb-true 1 n some) languages.1 in
      simp (length-append, length_bytes_lem) (omega (arith, eighteen, twelve))

-- zeros but for the day 1 March 1900, one language `aaa` with nothing in it, an empty signature: no auxiliary file, so that the width of its
-- length plays no part
unfoldable pub smallest_body : List ℕ
smallest_body =
    0xF0 ∷ 0 ∷ 0 ∷ 0 ∷ 0 ∷ 0 ∷ 0 ∷ 0 ∷ 0 ∷ 0 ∷ 0 ∷ 0 ∷ 0x19 ∷ 0x00 ∷ 0x03 ∷ 0x01 ∷ 0 ∷ 0 ∷ 0xF1
    ∷ 0 ∷ 0 ∷ 0 ∷ 8 ∷ 0x61 ∷ 0x61 ∷ 0x61 ∷ 0xF8 ∷ 0 ∷ 0 ∷ 0 ∷ 0xF0 ∷ 0 ∷ 0 ∷ []

pub smallest_accepted : (w : ℕ) → body_read (content w) content_kind content_kind smallest_body ≡ Ok 33
unfolding smallest_body body_read reading content fields language language_fields auxiliaries counted length_of exact view followed list_of repeat only every bytes reserved count number_at rest identifier digits halves decimal has_real_day identifier_year identifier_month identifier_day has_day is_date month_length leap day_number months_from year_of month_of days_of month_start in_range
smallest_accepted w = refl
