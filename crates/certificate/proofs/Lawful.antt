-- The certificate table's formats keep the laws of formats, from a list of parts up to the table.
use Prim.Native.Nat.{ℕ}
use mathlib.Core.Path.{refl}
use Rattle.ground_refusal.specs.declared.Refusal.TheVariants.{LeftOver}
use Rattle.body_formats.proofs.Classes.{Lawful, Filling}
use Rattle.body_formats.proofs.Leaves.{count_lawful}
use Rattle.body_formats.proofs.Parts.{followed_lawful, view_lawful, exact_filling, opaque_lawful}
use Rattle.body_formats.proofs.Lists.{list_lawful}
use Rattle.body_formats.specs.Format.{count, opaque}
use Rattle.certificate.specs.Certificate.{parts, named, unnamed, fields, certificate}

pub parts_lawful : (w : ℕ) → Lawful (parts w)
parts_lawful w = list_lawful (opaque w) (opaque_lawful w) (count 1) (count_lawful 1)

pub fields_lawful : Lawful fields
unfolding fields
fields_lawful = followed_lawful _ _ (parts_lawful 2) (λ a. followed_lawful _ _ (parts_lawful 1) (λ b. opaque_lawful 2))

pub certificate_filling : Filling certificate
unfolding certificate
certificate_filling = exact_filling LeftOver _ (view_lawful named unnamed fields (λ a. refl) (λ b. refl) fields_lawful)
