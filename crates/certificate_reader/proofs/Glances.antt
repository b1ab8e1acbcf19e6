-- What a glance's tests say of each part of a certificate table: its format finds it.
use Prim.Native.Nat.{ℕ, ◌+◌, ◌<◌}
use mathlib.Core.Path.{◌≡◌, refl, sym, ap, ◌∙◌}
use mathlib.Core.List.{List}
use native.Mathlib.Omega.{arith}
use native.Mathlib.Nat.{le_refl, mod-eq_of_lt}
use lib.ListN.{length, get_or}
use Rattle.ground_refusal.specs.declared.Refusal.TheVariants.{LeftOver}
use Rattle.body_formats.specs.Format.{Format, number_at, length_of, rest, opaque, times}
use Rattle.body_formats.proofs.Classes.{Bytes}
use Rattle.body_glance.specs.Glance.{Reads, Fills}
use Rattle.body_glance.proofs.Finds.{one_byte, reads_to, reads_count, reads_counted, reads_opaque, reads_pair, reads_view, fills_exact}
use Rattle.body_glance.proofs.Runs.{reads_list}
use Rattle.certificate.specs.Certificate.{Certificates, parts, fields, certificate}

-- F finds something from p to q
abbrev There : {A : Type 0} → Format A → List ℕ → ℕ → ℕ → Type 0
There {A} F s p q = (a : A) × Reads F s p a q

module _ (s : List ℕ) (p : ℕ) where
  -- a length of one byte is the byte
  pub length_one : {n w : ℕ} → n ≡ get_or s p 0 → w ≡ 1 → n ≡ number_at s p w
  length_one e o = e ∙ sym (one_byte s p) ∙ ap (number_at s p) (sym o)

  pub part_good : {n : ℕ} (w : ℕ) → Bytes s → n ≡ number_at s p w → There (opaque w) s p (p + w + n)
  part_good w b e = (_, reads_to (omega arith) (reads_opaque s p w b).1)

  pub list_good : {at : ℕ} (w : ℕ) → There (times (get_or s p 0) (opaque w)) s (p + 1) at → There (parts w) s p at
  list_good w g = (_, reads_list (opaque w) (rw (← one_byte s p) (reads_count s p 1)) g.1)

  -- the signature, which ends the body
  pub last_good : {n : ℕ} → n ≡ number_at s p 2 → n < 65536 → p + 2 + n ≡ length s → There (opaque 2) s p (length s)
  unfolding length_of rest
  last_good e h k =
      let small : number_at s p 2 < 65536 = omega arith in
      (_, reads_to (omega arith) (reads_counted (length_of 2) {F = rest} (mod-eq_of_lt small) refl (reads_count s p 2) (record { whole = refl })))

pub certificate_good : {s : List ℕ} {a b : ℕ} → There (parts 2) s 0 a → There (parts 1) s a b → There (opaque 2) s b (length s)
    → (x : Certificates) × Fills certificate s (length s) 0 x
unfolding certificate fields
certificate_good f g h = (_, fills_exact LeftOver (le_refl _) (reads_view _ _ (reads_pair f.1 (reads_pair g.1 h.1))))
