-- Laws of a glance at a command: what its tests find is where the list of terminals begins.
use Prim.Native.Nat.{ℕ, ◌+◌, ◌-◌, ◌≤◌}
use Rattle.std.specs.Prelude.{Option, Some, None, IfSome, Ok}
use mathlib.Core.Path.{◌≡◌, refl, sym, ap, subst, ◌∙◌}
use mathlib.Core.List.{List}
use native.Mathlib.Omega.{arith}
use lib.ListN.{length, get_or}
use borrow.Author.Tests.{le-leb}
use Rattle.body_formats.specs.Format.{number_at}
use Rattle.body_formats.specs.Answers.{part_of}
use Rattle.body_formats.proofs.Classes.{Bytes}
use Rattle.body_formats.proofs.Readers.{number_is, part_of_lem, least_is}
use Rattle.body_numbers.proofs.Numbers.{number_one}
use Rattle.configuration.specs.Configuration.{least}
use Rattle.configuration_fields.specs.Asked.{address_in, command_tag, command_content}
use Rattle.configuration_fields.specs.Glance.{content_end, ListIn, ListAt}
use Rattle.configuration_fields.proofs.Answers.{tag_is, content_is, place_is, terminals_is, after_mapping, after_address, after_period, after_volume, after_parameters}

-- ---- in a content from q to l

module _ (s : List ℕ) (l q : ℕ) where
  pub list_3 : (tag r : ℕ) → tag ≡ 3 → r ≡ q + 9 → 10 ≤ l - q → ListIn tag s l q r
  unfolding least
  list_3 tag r e z h = record { lowest = omega arith; highest = omega arith; enough = rw e (omega arith); begins = rw z (after_mapping s l q tag e) }

  pub list_4 : (a n : ℕ) → Ok (a, n) ≡ part_of (address_in s l q) → 3 ≤ l - q → ListIn 4 s l q (a + n)
  unfolding least
  list_4 a n e h = record { lowest = omega arith; highest = omega arith; enough = omega arith; begins = after_address s l q a n e }

  pub list_5 : (tag r : ℕ) → tag ≡ 5 → r ≡ q + 4 → 5 ≤ l - q → ListIn tag s l q r
  unfolding least
  list_5 tag r e z h = record { lowest = omega arith; highest = omega arith; enough = rw e (omega arith); begins = rw z (after_period s l q tag e) }

  pub list_6 : (tag : ℕ) → tag ≡ 6 → 2 ≤ l - q → ListIn tag s l q (q + 1)
  unfolding least
  list_6 tag e h = record { lowest = omega arith; highest = omega arith; enough = rw e (omega arith); begins = after_volume s l q tag e }

  pub list_7 : (tag n : ℕ) → tag ≡ 7 → 2 ≤ l - q → l ≤ length s → n ≡ get_or s q 0 → ListIn tag s l q (q + 1 + n)
  unfolding least
  list_7 tag n e h k v =
      let count = number_is s l q 1 (omega arith) (omega arith) n (q + 1) (number_one s q 1 n refl v) refl in
      record { lowest = omega arith; highest = omega arith; enough = rw e (omega arith); begins = rw e (after_parameters s l q n (q + 1) count) }

module _ (s : List ℕ) (l q n : ℕ) (o : Option ℕ) where
  -- after fields of a stated length
  pub told_3 : (tag at : ℕ) → tag ≡ 3 → n ≡ l - q → at ≡ q + 9 → IfSome o (λ x. (x ≡ at) × (10 ≤ n)) → IfSome o (ListIn tag s l q)
  told_3 tag at e m z h = go o h
    where
      go : (o : Option ℕ) → IfSome o (λ x. (x ≡ at) × (10 ≤ n)) → IfSome o (ListIn tag s l q)
      go None h = tt
      go (Some r) h = list_3 s l q tag r e (h.0 ∙ z) (omega (arith, m, h.1))

  pub told_5 : (tag at : ℕ) → tag ≡ 5 → n ≡ l - q → at ≡ q + 4 → IfSome o (λ x. (x ≡ at) × (5 ≤ n)) → IfSome o (ListIn tag s l q)
  told_5 tag at e m z h = go o h
    where
      go : (o : Option ℕ) → IfSome o (λ x. (x ≡ at) × (5 ≤ n)) → IfSome o (ListIn tag s l q)
      go None h = tt
      go (Some r) h = list_5 s l q tag r e (h.0 ∙ z) (omega (arith, m, h.1))

  pub told_4 : (tag : ℕ) → 4 ≡ tag → IfSome o (ListIn 4 s l q) → IfSome o (ListIn tag s l q)
  told_4 tag e h = subst (λ (t : ℕ). IfSome o (ListIn t s l q)) e h

-- ---- in the command at p

module _ (s : List ℕ) (b : Bytes s) (p tag l : ℕ) (there : p + 3 ≤ length s) (same : l ≡ content_end s p) (inside : l ≤ length s) (e : tag ≡ get_or s p 0) where
  tagged : Ok (tag, p + 1) ≡ command_tag s p
  tagged = number_is s (length s) p 1 (omega arith) (omega arith) tag (p + 1) (number_one s p 1 tag refl e) refl ∙ tag_is s p b (omega arith)

  filled : p + 3 + least tag ≤ l → Ok (p + 3, number_at s (p + 1) 2) ≡ command_content s p
  filled enough =
      let n = number_at s (p + 1) 2 in
      let told = number_is s (length s) (p + 1) 2 (omega arith) (omega arith) n (p + 3) refl (omega arith) in
      part_of_lem s (length s) (p + 1) (p + 3) n (omega arith) _ _ (omega arith) (le-leb (least tag) n (omega arith))
      ∙ least_is s (length s) (p + 1) 2 (least tag) n (p + 3) b told
      ∙ content_is s p tag (p + 1) (least tag) tagged refl

  pub list_there : (r : ℕ) → ListIn tag s l (p + 3) r → ListAt s p r
  list_there r h =
      let content = place_is s p tag tag (p + 1) tagged refl (p + 3) (number_at s (p + 1) 2) (filled h.enough) in
      record {
        inside = there;
        begins = ap (λ b. Ok (r, b)) (sym same) ∙ h.begins ∙ terminals_is s p tag (p + 1) tagged h.lowest h.highest (p + 3) l (rw same content);
      }

  pub list_told : (o : Option ℕ) → IfSome o (ListIn tag s l (p + 3)) → IfSome o (ListAt s p)
  list_told None h = tt
  list_told (Some r) h = list_there r h

-- what is found is as it is told to be
pub list_seen : (s : List ℕ) (p r : ℕ) {o : Option ℕ} → IfSome o (ListAt s p) → o ≡ Some r → ListAt s p r
list_seen s p r h e = subst (λ x. IfSome x (ListAt s p)) e h
