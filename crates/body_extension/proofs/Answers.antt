-- What is answered for the extension of an identifier, a law for each way through.
use Prim.Native.Nat.{ℕ, ◌+◌, ◌-◌, ◌≤◌}
use Rattle.std.specs.Prelude.{Ok, Err}
use mathlib.Core.Path.{◌≡◌, ap, ◌∙◌}
use mathlib.Core.List.{List}
use native.Mathlib.Nat.{add-sub_cancel_left}
use native.Mathlib.Omega.{arith}
use lib.ListN.{length, take, drop}
use Rattle.ground_refusal.specs.declared.Refusal.{Refusal}
use Rattle.crc.specs.Crc.{crc16_after_four}
use Rattle.body_formats.specs.Identifier.{identifier}
use Rattle.body_formats.specs.Answers.{field_part}
use Rattle.body_formats.proofs.Classes.{Bytes}
use Rattle.body_formats.proofs.Strings.{Fills}
use Rattle.body_formats.proofs.Readers.{field_refused}
use Rattle.body_formats.proofs.Identifiers.{identifier_lawful, identifier_fills}
use Rattle.body_extension.specs.Extension.{extension_of, extension_at}
use Rattle.body_extension.proofs.Bits.{checked}

module _ (s : List ℕ) (l p : ℕ) where
  pub extension_no : (r : Refusal) → Err r ≡ field_part p (identifier.parse s l p) → Err r ≡ extension_at s l p
  unfolding extension_at
  extension_no r e = rw (field_refused p (identifier.parse s l p) r e)

  module _ (b : Bytes s) (a n : ℕ) (e : Ok (a, n) ≡ field_part p (identifier.parse s l p)) where
    filled : Fills identifier s l p 18
    filled = (identifier_fills s l p a n b e).2

    pub identifier_there : p + 18 ≤ length s
    identifier_there = filled.in_body_lem

    -- x is what the code works out of the 18 bytes
    pub extension_is : (x : ℕ) → l ≤ length s → x ≡ crc16_after_four (take (p + 18 - p) (drop p s)) → Ok (x, p + 18) ≡ extension_at s l p
    unfolding extension_at
    extension_is x inside h =
        let f = filled in
        let right = (identifier_lawful.forth s l p f.value (p + 18) b inside (omega (arith, f.in_part_lem)) f.parsed).ok.writable in
        let z : x ≡ extension_of f.value =
        h ∙ ap (λ (k : ℕ). crc16_after_four (take k (drop p s))) (add-sub_cancel_left p 18) ∙ ap crc16_after_four f.printed ∙ checked f.value right in
        rw (f.parsed, z)
