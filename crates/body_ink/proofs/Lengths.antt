-- Laws of a counted part inked: the part after room for its length, and then its length.
use Prim.Native.Nat.{ℕ, ◌+◌, ◌-◌}
use mathlib.Core.Path.{◌≡◌, refl, sym, ap, ap₂, ◌∙◌}
use mathlib.Core.List.{List}
use native.Mathlib.Omega.{arith}
use lib.ListN.{length, length-append}
use Rattle.ground_placing.specs.Placed.{placed}
use Rattle.ground_placing.proofs.Placing.{placed_before}
use Rattle.body_formats.specs.Format.{Format, bytes_of, count, reserved, Length, length_of, length12, counted}
use Rattle.body_formats.proofs.Leaves.{length_bytes_lem}
use Rattle.body_ink.specs.Inked.{Ready, Inked}

-- a length whose field has w bytes and prints n as the number `face n`
module _ (L : Length) (w : ℕ) (face : ℕ → ℕ) (prints : (n : ℕ) → L.field.print n ≡ bytes_of w (face n)) where
  field_length : (n : ℕ) → length (L.field.print n) ≡ w
  field_length n = ap length (prints n) ∙ length_bytes_lem w (face n)

  part_length : {A : Type 0} (F : Format A) (a : A) → length ((counted L F).print a) ≡ w + length (F.print a)
  unfolding counted
  part_length F a = length-append (L.field.print (length (F.print a))) (F.print a) ∙ ap (λ n. n + length (F.print a)) (field_length (length (F.print a)))

  pub counted_ready : {A : Type 0} {F : Format A} {pool tape : List ℕ} {at k room : ℕ} → Ready (counted L F) pool tape at k room
      → Ready F pool tape (at + w) k room
  unfolding counted
  counted_ready {A} {F} g =
      let n = part_length F g.value in
      record { value = g.value; next = g.next; laid = g.laid; fits = omega (arith, n, g.fits); short = omega (arith, n, g.short) }

  pub counted_inked : {A : Type 0} {F : Format A} {pool tape : List ℕ} {at k : ℕ} {out : List ℕ} {at' k' : ℕ} {mid out' : List ℕ}
      → Inked F pool tape (at + w) k out at' k' mid
      → out' ≡ placed mid at (bytes_of w (face (at' - at - w))) → Inked (counted L F) pool tape at k out at' k' out'
  unfolding counted
  counted_inked {A} {F} {pool} {tape} {at} {k} {out} {at'} {k'} {mid} i e =
      record {
        written = λ a j h room.
            let n = length (F.print a) in
            let l = part_length F a in
            let one = i.written a j h (omega (arith, l)) in
            let mine : at' - at - w ≡ n = omega (arith, one.0) in (
              omega (arith, l, one.0),
              one.1,
              e ∙ ap₂ (λ d m. placed d at m) one.2 (ap (λ m. bytes_of w (face m)) mine ∙ sym (prints n))
                  ∙ placed_before out at (L.field.print n) (F.print a) (at + w) (ap (λ m. at + m) (sym (field_length n))) (omega (arith, l)),
            );
      }

-- ---- the lengths of the tables: w bytes, and "4 reserved, length 12"

pub length12_prints : (n : ℕ) → length12.field.print n ≡ bytes_of 2 (0xF000 + n)
unfolding length12 reserved
length12_prints n = refl

pub length_of_prints : (w n : ℕ) → (length_of w).field.print n ≡ bytes_of w n
unfolding length_of count
length_of_prints w n = refl
