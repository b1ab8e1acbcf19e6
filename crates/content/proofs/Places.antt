-- Where the content table's refusals stand: the laws of formats, whatever the width of an auxiliary file's length, and 23's place is 0.
use Prim.Native.Nat.{ℕ, ◌≤◌, zero-le}
use Rattle.std.specs.Prelude.{Err}
use mathlib.Core.Path.{◌≡◌}
use mathlib.Core.List.{List}
use native.Mathlib.Nat.{le_refl}
use lib.ListN.{length}
use lib.Dec.{eqb}
use Rattle.ground_refusal.specs.Numbers.{refusal_place}
use Rattle.ground_refusal.specs.declared.Refusal.{Refusal}
use Rattle.ground_refusal.specs.declared.Refusal.TheVariants.{LeftOver, PastPart}
use Rattle.body_formats.specs.Format.{reserved}
use Rattle.body_formats.specs.Body.{reading}
use Rattle.body_formats.proofs.Places.{ends, then_until, need_until, Placed, number_placed, reserved_placed, among_placed, bytes_among_placed, followed_placed, view_placed, list_placed, exact_placed, length_placed, opaque_placed, step_place, reading_until}
use Rattle.body_formats.proofs.Identifiers.{identifier_placed}
use Rattle.body_extension.specs.Extension.{extension_of}
use Rattle.content.specs.Content.{content_kind, auxiliary, auxiliaries, language_fields, language, fields, content, reading_of, content_read}

module _ (w : ℕ) where
  auxiliaries_placed : Placed (auxiliaries w)
  unfolding auxiliaries auxiliary
  auxiliaries_placed =
      list_placed (auxiliary w) (view_placed _ _ _ (followed_placed _ _ (number_placed 1) (λ a. opaque_placed w)))
      _ (among_placed 0 2 (reserved 4 0) (reserved_placed 4 0))

  language_placed : Placed (language w)
  unfolding language language_fields
  language_placed =
      length_placed 4 _ (exact_placed PastPart _ le_refl (view_placed _ _ (language_fields w)
      (followed_placed _ _ (bytes_among_placed 0x61 0x7A 3) (λ a. followed_placed _ _ (among_placed 0 4 (reserved 5 0) (reserved_placed 5 0)) (λ b.
      followed_placed _ _ (opaque_placed 2) (λ c. followed_placed _ _ (opaque_placed 1) (λ d. auxiliaries_placed)))))))

  pub content_placed : Placed (content w)
  unfolding content fields
  content_placed =
      exact_placed LeftOver _ le_refl (view_placed _ _ (fields w)
      (followed_placed _ _ identifier_placed (λ a.
      followed_placed _ _ (list_placed (language w) language_placed _ (among_placed 1 5 (reserved 4 0) (reserved_placed 4 0))) (λ b. opaque_placed 2))))

  pub extended_place : (kind extension : ℕ) (s : List ℕ) (r : Refusal) → content_read w kind extension s ≡ Err r → refusal_place r ≤ length s
  unfolding content_read reading_of
  extended_place kind extension s =
      step_place (reading_of w kind extension s)
      (then_until (reading (content w) content_kind kind s) _ (reading_until (content w) content_placed content_kind kind s) (λ c q m.
      need_until (eqb extension (extension_of c.identifier)) _ zero-le (λ t. ends m)))
