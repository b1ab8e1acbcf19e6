-- The content table's formats keep the laws of formats, from the auxiliary file up to the table.
use Prim.Native.Nat.{ℕ}
use mathlib.Core.Path.{refl}
use native.Mathlib.Omega.{arith}
use Rattle.ground_refusal.specs.declared.Refusal.TheVariants.{LeftOver, PastPart}
use Rattle.body_formats.specs.Format.{reserved, length_of}
use Rattle.body_formats.proofs.Classes.{Lawful, Filling}
use Rattle.body_formats.proofs.Leaves.{reserved_lawful}
use Rattle.body_formats.proofs.Bits.{among_lawful, bytes_among_lawful}
use Rattle.body_formats.proofs.Parts.{number_lawful, followed_lawful, view_lawful, exact_filling, counted_lawful, length_counts, opaque_lawful}
use Rattle.body_formats.proofs.Lists.{list_lawful}
use Rattle.body_formats.proofs.Identifiers.{identifier_lawful}
use Rattle.content.specs.Content.{auxiliary, auxiliaries, language_fields, language, fields, content}

-- one law over the width of an auxiliary file's length
module _ (w : ℕ) where
  pub auxiliary_lawful : Lawful (auxiliary w)
  unfolding auxiliary
  auxiliary_lawful = view_lawful _ _ _ (λ a. refl) (λ b. refl) (followed_lawful _ _ (number_lawful 1) (λ a. opaque_lawful w))

  pub auxiliaries_lawful : Lawful (auxiliaries w)
  unfolding auxiliaries
  auxiliaries_lawful = list_lawful (auxiliary w) auxiliary_lawful _ (among_lawful 0 2 (reserved 4 0) (reserved_lawful 4 0 (omega arith)))

  pub language_fields_lawful : Lawful (language_fields w)
  unfolding language_fields
  language_fields_lawful =
      followed_lawful _ _ (bytes_among_lawful 0x61 0x7A 3) (λ a. followed_lawful _ _ (among_lawful 0 4 (reserved 5 0) (reserved_lawful 5 0 (omega arith))) (λ b.
      followed_lawful _ _ (opaque_lawful 2) (λ c. followed_lawful _ _ (opaque_lawful 1) (λ d. auxiliaries_lawful))))

  pub language_lawful : Lawful (language w)
  unfolding language
  language_lawful =
      counted_lawful (length_of 4) _ (length_counts 4 _) (exact_filling PastPart _ (view_lawful _ _ _ (λ a. refl) (λ b. refl) language_fields_lawful))

  pub fields_lawful : Lawful (fields w)
  unfolding fields
  fields_lawful =
      followed_lawful _ _ identifier_lawful (λ a.
      followed_lawful _ _ (list_lawful (language w) language_lawful _ (among_lawful 1 5 (reserved 4 0) (reserved_lawful 4 0 (omega arith)))) (λ b.
      opaque_lawful 2))

  pub content_filling : Filling (content w)
  unfolding content
  content_filling = exact_filling LeftOver _ (view_lawful _ _ _ (λ a. refl) (λ b. refl) fields_lawful)
