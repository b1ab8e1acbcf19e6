-- Laws of a glance at a language: what its tests find is where an auxiliary file begins.
use Prim.Native.Nat.{ℕ, ◌+◌, ◌-◌, ◌/◌, ◌%◌, ◌≤◌, ◌<◌}
use mathlib.Core.Path.{◌≡◌, refl, sym, ap, subst, ◌∙◌}
use mathlib.Core.List.{List}
use mathlib.Core.Bool.{Bool, true, false}
use native.Mathlib.Omega.{arith}
use lib.ListN.{length, get_or}
use lib.Dec.{eqb}
use borrow.Author.Tests.{le-leb}
use Rattle.std.specs.Prelude.{if◌then◌else◌, Option, Some, None, IfSome, Ok, Err}
use Rattle.ground_refusal.specs.declared.Refusal.TheVariants.{OutsideSet}
use Rattle.body_formats.specs.Format.{Format, number_at, among, reserved}
use Rattle.body_formats.specs.Answers.{step_of, number_of, part_of, number_among, ended, part_read}
use Rattle.body_formats.proofs.Classes as classes
use Rattle.body_formats.proofs.Bits.{reserved_is, number_among_lem}
use Rattle.body_formats.proofs.Readers.{number_is, all_done, all_go}
use Rattle.body_numbers.proofs.Numbers.{number_one}
use Rattle.body_asking.specs.Asking.{headed_part, nth_of}
use Rattle.body_asking.proofs.Answers.{needed, part_there}
use Rattle.body_asking.proofs.Entries.{nth_there, entry_at}
use Rattle.content_variant.specs.Variant.{width_of}
use Rattle.content_fields.specs.Asked.{text_in, text_part, auxiliary_type, auxiliary_part}
use Rattle.content_fields.specs.Glance.{CountAt, FileAt}
use Rattle.content_fields.proofs.Answers.{agency_is, count_is, type_is, file_is}

-- ---- widths

pub width_least : (v w : ℕ) → Ok w ≡ width_of v → 3 ≤ w
unfolding width_of
width_least v w e = go (eqb v 24) (eqb v 32) e
  where
    go : (a b : Bool) → Ok w ≡ (if a then Ok 3 else if b then Ok 4 else Err (OutsideSet 0)) → 3 ≤ w
    go true b f = let z : w ≡ 3 = cc in omega arith
    go false true f = let z : w ≡ 4 = cc in omega arith
    go false false f = absurd (let z : ◌≡◌ {A = ℕ} 0 1 = cc in omega arith)

-- ---- a file: its type, and a part after its length of w bytes

module _ (s : List ℕ) (b : classes.Bytes s) (l : ℕ) (inside : l ≤ length s) where
  pub file_ends : (p w m q : ℕ) → m ≡ number_at s (p + 1) w → q ≡ p + 1 + w → q + m ≤ l → Ok (q + m) ≡ ended (headed_part 1 w) s l p
  file_ends p w m q e f h =
      let type = number_is s l p 1 (omega arith) (omega arith) (number_at s p 1) (p + 1) refl refl in
      entry_at s l p 1 w (number_at s p 1) (p + 1) type q m (part_there s b l inside (p + 1) w m q e f h)

-- ---- the auxiliary count, after the text and the agency

module _ (s : List ℕ) (b : classes.Bytes s) (at n : ℕ) (inside : at + n ≤ length s) (m k : ℕ) where
  pub count_at : m ≡ number_at s (at + 4) 2 → at + 6 + m < at + n → k ≡ get_or s (at + 6 + m) 0 → at + 6 + m + 1 + k < at + n
      → CountAt s at n (at + 6 + m + 1 + k)
  unfolding text_part text_in part_read
  count_at e g h i =
      let t = at + 6 + m in
      let text = part_there s b (at + n) inside (at + 4) 2 m (at + 6) e (omega arith) (omega arith)
      ∙ ap part_of (needed _ _ _ (le-leb (at + n) (length s) inside)) in
      let agency = part_there s b (at + n) inside t 1 k (t + 1) (number_one s t 1 k refl h) refl (omega arith) ∙ agency_is s at n (at + 6) m text in
      record { inside = inside; lies = i; is = count_is s at n (t + 1) k agency }

-- the count stands in the low bits of the byte v
module _ (s : List ℕ) (l p v : ℕ) (inside : l ≤ length s) (lies : p < l) (e : v ≡ get_or s p 0) (low : 240 ≤ v) (high : v ≤ 242) where
  counted : Ok (v - 240, p + 1) ≡ number_of ((among 0 2 (reserved 4 0)).parse s l p)
  counted =
      let told = number_is s l p 1 (omega arith) (omega arith) v (p + 1) (number_one s p 1 v refl e) refl in
      let bits = reserved_is s l p 4 0 v (p + 1) told (let z : v / 16 ≡ 15 = omega arith in z) v (p + 1) told in
      let same : v - 240 ≡ v % 16 = omega arith in
      rw same (rw (le-leb 0 (v % 16) (omega arith), le-leb (v % 16) 2 (omega arith)) at (ap (number_among 0 2 p) bits) ∙ number_among_lem 0 2 (reserved 4 0) s l p)

-- ---- the i-th file of m, of which the first begins at p

module _ {A : Type 0} (F : Format A) (m i : ℕ) (s : List ℕ) (l p : ℕ) (there : i < m) where
  pub first_file : i ≡ 0 → Ok p ≡ step_of (nth_of F m i s l p)
  first_file z = all_done F s l p i z ∙ nth_there F m i s l p there

  second_file : (q : ℕ) → i ≡ 1 → Ok q ≡ ended F s l p → Ok q ≡ step_of (nth_of F m i s l p)
  second_file q z e = all_done F s l q (i - 1) (omega arith) ∙ sym (all_go F s l p i q (omega arith) e) ∙ nth_there F m i s l p there

  -- where one is passed
  pub second_told : (o : Option ℕ) → i ≡ 1 → IfSome o (λ r. (r < l) × (Ok r ≡ ended F s l p)) → IfSome o (λ r. (r < l) × (Ok r ≡ step_of (nth_of F m i s l p)))
  second_told None z h = tt
  second_told (Some r) z h = (h.0, second_file r z h.1)

-- what is found is as it is told to be
pub count_seen : (s : List ℕ) (at n q : ℕ) {o : Option ℕ} → IfSome o (CountAt s at n) → o ≡ Some q → CountAt s at n q
count_seen s at n q h e = subst (λ x. IfSome x (CountAt s at n)) e h

pub file_seen : (w : ℕ) (s : List ℕ) (at n i r : ℕ) {o : Option ℕ} → IfSome o (FileAt w s at n i) → o ≡ Some r → FileAt w s at n i r
file_seen w s at n i r h e = subst (λ x. IfSome x (FileAt w s at n i)) e h

module _ (w : ℕ) (s : List ℕ) (b : classes.Bytes s) (at n i : ℕ) where
  file_there : (q v r : ℕ) → CountAt s at n q → v ≡ get_or s q 0 → 240 ≤ v → v ≤ 242
      → (r < at + n) × (Ok r ≡ step_of (nth_of (headed_part 1 w) (v - 240) i s (at + n) (q + 1))) → FileAt w s at n i r
  file_there q v r c e low high f =
      record {
        inside = c.inside;
        lies = f.0;
        is = type_is s at n (v - 240) (q + 1) (counted s (at + n) q v c.inside c.lies e low high ∙ c.is) w i r b f.1;
      }

  pub file_told : (q v : ℕ) → CountAt s at n q → v ≡ get_or s q 0 → 240 ≤ v → v ≤ 242 → (o : Option ℕ)
      → IfSome o (λ r. (r < at + n) × (Ok r ≡ step_of (nth_of (headed_part 1 w) (v - 240) i s (at + n) (q + 1)))) → IfSome o (FileAt w s at n i)
  file_told q v c e low high None h = tt
  file_told q v c e low high (Some r) h = file_there q v r c e low high h

  -- ---- its type and its data

  pub type_at : (r v : ℕ) → FileAt w s at n i r → v ≡ get_or s r 0 → Ok (v, r + 1) ≡ auxiliary_type w s at n i
  type_at r v f e =
      let low : r + 1 ≤ length s = omega (arith, f.inside, f.lies) in
      number_is s (at + n) r 1 low (omega (arith, f.lies)) v (r + 1) (number_one s r 1 v refl e) refl ∙ f.is

  pub part_at : (r : ℕ) → FileAt w s at n i r → part_read w s (at + n) (r + 1) ≡ auxiliary_part w s at n i
  part_at r f = file_is s at n w i (get_or s r 0) (r + 1) (type_at r (get_or s r 0) f refl)
