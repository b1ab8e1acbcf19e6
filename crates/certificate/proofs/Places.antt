-- Where the certificate table's refusals stand: the laws of formats at this format.
use Prim.Native.Nat.{ℕ}
use native.Mathlib.Nat.{le_refl}
use Rattle.ground_refusal.specs.declared.Refusal.TheVariants.{LeftOver}
use Rattle.body_formats.specs.Format.{count, opaque}
use Rattle.body_formats.proofs.Places.{Placed, count_placed, followed_placed, view_placed, list_placed, exact_placed, opaque_placed}
use Rattle.certificate.specs.Certificate.{parts, named, unnamed, fields, certificate}

parts_placed : (w : ℕ) → Placed (parts w)
parts_placed w = list_placed (opaque w) (opaque_placed w) (count 1) (count_placed 1)

pub certificate_placed : Placed certificate
unfolding certificate fields
certificate_placed =
    exact_placed LeftOver _ le_refl
    (view_placed named unnamed fields (followed_placed _ _ (parts_placed 2) (λ a. followed_placed _ _ (parts_placed 1) (λ b. opaque_placed 2))))
