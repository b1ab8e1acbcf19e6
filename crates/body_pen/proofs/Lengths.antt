-- Laws of a pen through a counted part: the bytes of its length, the part, and then the length judged.
use Prim.Native.Nat.{ℕ, ◌+◌, ◌-◌, ◌^◌, ◌≤◌, ◌<◌, min}
use mathlib.Core.Path.{◌≡◌, refl, sym, ap, ◌∙◌}
use mathlib.Core.List.{List}
use mathlib.Core.Bool.{Bool, true, false, not, ◌||◌}
use native.Mathlib.Omega.{arith}
use lib.ListN.{length, length-append}
use lib.Dec.{ltb}
use borrow.Author.Tests.{ltb-true, ltb-false, lt-ltb, le-ltb}
use Rattle.std.specs.Prelude.{if◌then◌else◌, Result, Ok, Err}
use Rattle.ground_refusal.specs.declared.Refusal.{Refusal}
use Rattle.body_formats.specs.Reading.{Reading, found, refused}
use Rattle.body_formats.specs.Format.{Format, count, reserved, Length, length_of, least_of, length12, counted}
use Rattle.body_formats.proofs.Leaves.{length_bytes_lem}
use Rattle.body_pen.specs.Penned.{above_body, more, pen_onward, penned, gapped, closed}

-- ---- the length of a part that has come to its end

-- a part of m bytes, whose length's field prints n
closed_more : (w limit size m n : ℕ) (over : Bool) → (m < limit → n ≡ w) → (end : ℕ) → end ≡ more (more size w false) m over
    → more end 0 (not (ltb (end - size - w) limit)) ≡ more size (n + m) (not (ltb m limit) || over)
unfolding more
closed_more w limit size m n over h end e = go (ltb (end - size - w) limit) refl (ltb m limit) refl over e
  where
    go : (s : Bool) → ltb (end - size - w) limit ≡ s → (t : Bool) → ltb m limit ≡ t → (o : Bool)
        → end ≡ (if o then above_body else min (min (size + w) above_body + m) above_body)
        → (if not s then above_body else min (end + 0) above_body) ≡ (if not t || o then above_body else min (size + (n + m)) above_body)
    go true p true q true z = omega arith
    go true p true q false z = omega (arith, h (ltb-true m limit q))
    go true p false q true z = omega arith
    go true p false q false z = omega (arith, ltb-true (end - size - w) limit p, ltb-false m limit q)
    go false p true q true z = refl
    go false p true q false z = omega (arith, h (ltb-true m limit q), ltb-false (end - size - w) limit p, ltb-true m limit q)
    go false p false q true z = refl
    go false p false q false z = refl

-- what closing answers, by where the two pens stand
module _ (w limit : ℕ) (x b : Result (ℕ × ℕ) Refusal) where
  pub close_none : (e : Refusal) → x ≡ Err e → Err e ≡ closed w limit x b
  unfolding closed
  close_none e q = rw q

  module _ (size k : ℕ) (q : x ≡ Ok (size, k)) where
    pub close_refused : (e : Refusal) → b ≡ Err e → Err e ≡ closed w limit x b
    unfolding closed
    close_refused e f = rw (q, f)

    module _ (end j : ℕ) (f : b ≡ Ok (end, j)) (n : ℕ) (part : n ≡ end - size - w) where
      pub close_over : limit ≤ n → Ok (above_body, j) ≡ closed w limit x b
      unfolding closed more
      close_over h = rw (q, f, ← part, le-ltb n limit h)

      pub close_within : n < limit → (z : ℕ) → z ≡ more end 0 false → Ok (z, j) ≡ closed w limit x b
      unfolding closed
      close_within h z e = rw (q, f, ← part, lt-ltb n limit h, e)

-- ---- past a length, the part, and then its length, are the counted part

module _ {A : Type 0} (L : Length) (w : ℕ) (prints : (n : ℕ) → n < L.limit → length (L.field.print n) ≡ w) (F : Format A) (pool tape : List ℕ) where
  counted_pen : (x : Result (ℕ × ℕ) Refusal) → penned (counted L F) pool tape x ≡ closed w L.limit x (penned F pool tape (gapped w x))
  unfolding penned counted gapped closed
  counted_pen (Err r) = refl
  counted_pen (Ok (size, k)) = go (F.form pool tape k)
    where
      go : (y : Reading A) → pen_onward (counted L F) size y ≡ closed w L.limit (Ok (size, k)) (pen_onward F (more size w false) y)
      go (found a j) =
          let m = length (F.print a) in
          ap (λ n. Ok (n, j))
          (ap (λ n. more size n (not (ltb m L.limit) || F.too_large a)) (length-append (L.field.print m) (F.print a))
          ∙ sym (closed_more w L.limit size m (length (L.field.print m)) (F.too_large a) (prints m) _ refl))
      go (refused r) = refl

-- ---- the lengths of the tables: w bytes, and "4 reserved, length 12"

-- any length that is a number of w bytes, whatever a reader says of it
pub number_pen : {A : Type 0} (L : Length) (w : ℕ) → L.field ≡ count w → (F : Format A) (pool tape : List ℕ) (x : Result (ℕ × ℕ) Refusal)
    → penned (counted L F) pool tape x ≡ closed w L.limit x (penned F pool tape (gapped w x))
unfolding count
number_pen L w e = counted_pen L w (λ n h. ap (λ (C : Format ℕ). length (C.print n)) e ∙ length_bytes_lem w n)

pub length_pen : {A : Type 0} (w : ℕ) (F : Format A) (pool tape : List ℕ) (x : Result (ℕ × ℕ) Refusal)
    → penned (counted (length_of w) F) pool tape x ≡ closed w (256 ^ w) x (penned F pool tape (gapped w x))
unfolding length_of
length_pen w = number_pen (length_of w) w refl

pub least_pen : {A : Type 0} (w least : ℕ) (F : Format A) (pool tape : List ℕ) (x : Result (ℕ × ℕ) Refusal)
    → penned (counted (least_of w least) F) pool tape x ≡ closed w (256 ^ w) x (penned F pool tape (gapped w x))
unfolding least_of
least_pen w least = number_pen (least_of w least) w refl

pub length12_pen : {A : Type 0} (F : Format A) (pool tape : List ℕ) (x : Result (ℕ × ℕ) Refusal)
    → penned (counted length12 F) pool tape x ≡ closed 2 1024 x (penned F pool tape (gapped 2 x))
unfolding length12 reserved
length12_pen = counted_pen length12 2 (λ n h. length_bytes_lem 2 _)

-- a refusal inside a part stands
pub closed_stopped : {A : Type 0} (w limit : ℕ) (F : Format A) (pool tape : List ℕ) (x : Result (ℕ × ℕ) Refusal) (e : Refusal)
    → Err e ≡ penned F pool tape (gapped w x) → Err e ≡ closed w limit x (penned F pool tape (gapped w x))
unfolding penned gapped closed
closed_stopped w limit F pool tape (Err r) e f = f
closed_stopped w limit F pool tape (Ok (size, k)) e f = go (pen_onward F (more size w false) (F.form pool tape k)) f
  where
    go : (y : Result (ℕ × ℕ) Refusal) → Err e ≡ y → Err e ≡ closed w limit (Ok (size, k)) y
    go (Ok (end, j)) g = absurd (let z : ◌≡◌ {A = ℕ} 0 1 = cc in omega arith)
    go (Err r) g = g
