-- Laws of the code's tests and answers: what a test makes of a reading, and what an answer says of the reading behind it.
use Prim.Native.Nat.{ℕ, ◌+◌, ◌-◌, ◌≤◌, ◌<◌}
use Rattle.std.specs.Prelude.{Ok, Err}
use mathlib.Core.Path.{◌≡◌, refl, sym, ap, ◌∙◌}
use mathlib.Core.List.{List}
use mathlib.Core.Bool.{Bool, true, false, ◌&&◌}
use native.Mathlib.Omega.{arith}
use lib.ListN.{length}
use lib.Dec.{ltb, leb}
use borrow.Author.Tests.{ltb-true, leb-true, leb-false, le-leb, lt-leb}
use Rattle.ground_choices.proofs.Tests.{both}
use Rattle.ground_refusal.specs.declared.Refusal.{Refusal}
use Rattle.ground_refusal.specs.declared.Refusal.TheVariants.{OutsideSet}
use Rattle.ground_refusal.proofs.Exits.{ok_pair_inj}
use Rattle.body_formats.specs.Reading.{Reading, found, refused, need}
use Rattle.body_formats.specs.Format.{Format, number_at, count, number}
use Rattle.body_formats.specs.Answers.{step_of, number_of, part_of, number_read, part_read}
use Rattle.body_formats.proofs.Outcomes.{need_found}
use Rattle.body_formats.proofs.Classes.{Bytes}
use Rattle.body_formats.proofs.Bits.{number_is_count}
use Rattle.body_formats.proofs.Readers.{number_is, part_of_lem, least_is, least_none}
use Rattle.body_asking.specs.Asking.{field_in}

-- ---- tests

pub room : (at n l : ℕ) → at ≤ l → leb n (l - at) ≡ leb (at + n) l
room at n l h = go (leb n (l - at)) refl
  where
    go : (t : Bool) → leb n (l - at) ≡ t → t ≡ leb (at + n) l
    go true e = sym (le-leb (at + n) l (omega (arith, leb-true n (l - at) e)))
    go false e = sym (lt-leb (at + n) l (omega (arith, leb-false n (l - at) e)))

pub no_room : (at n l : ℕ) → l < at → false ≡ leb (at + n) l
no_room at n l h = sym (lt-leb (at + n) l (omega arith))

pub needed : {A : Type 0} (t : Bool) (r : Refusal) (x : Reading A) → t ≡ true → x ≡ need t r x
needed t r x e = rw e

pub not_needed : {A : Type 0} (t : Bool) (r : Refusal) (x : Reading A) → t ≡ false → refused r ≡ need t r x
not_needed t r x e = rw e

pub in_part_lem : (s : List ℕ) (at n : ℕ) → (ltb 0 n && leb (at + n) (length s)) ≡ true → (0 < n) × (at + n ≤ length s)
in_part_lem s at n e =
    let t = both (ltb 0 n) (leb (at + n) (length s)) e in
    (ltb-true 0 n t.0, leb-true (at + n) (length s) t.1)

-- ---- numbers

pub count_number : (w : ℕ) (s : List ℕ) (l p : ℕ) → Bytes s → number_of ((count w).parse s l p) ≡ number_of ((number w).parse s l p)
unfolding number_read
count_number w s l p b = number_is_count w s l p b

module _ (s : List ℕ) (at n : ℕ) where
  pub number_in : (w k : ℕ) → Bytes s → number_of (field_in (count w) k s at n) ≡ number_of (field_in (number w) k s at n)
  number_in w k b = go (leb (at + n) (length s))
    where
      go : (t : Bool) → number_of (need t (OutsideSet 0) ((count w).parse s (at + n) (at + k))) ≡ number_of (need t (OutsideSet 0) ((number w).parse s (at + n) (at + k)))
      go true = count_number w s (at + n) (at + k) b
      go false = refl

  -- what was found in the part was asked for, and the other way round
  pub found_in : {A : Type 0} (F : Format A) (k : ℕ) (a : A) (q : ℕ) → field_in F k s at n ≡ found a q → (at + n ≤ length s) × (F.parse s (at + n) (at + k) ≡ found a q)
  found_in F k a q e =
      let f = need_found (leb (at + n) (length s)) (OutsideSet 0) _ a q e in
      (leb-true (at + n) (length s) f.0, f.1)

  pub asked : {A : Type 0} (F : Format A) (k : ℕ) (a : A) (r : ℕ) → at + n ≤ length s → F.parse s (at + n) (at + k) ≡ found a r → field_in F k s at n ≡ found a r
  asked F k a r h e = rw (le-leb (at + n) (length s) h, e)

-- ---- a part after its length of w bytes, which lies inside

pub part_there : (s : List ℕ) → Bytes s → (l : ℕ) → l ≤ length s → (p w m q : ℕ) → m ≡ number_at s p w → q ≡ p + w → q + m ≤ l → Ok (q, m) ≡ part_read w s l p
part_there s b l inside p w m q e f h =
    let told = number_is s l p w (omega arith) (omega arith) m q e f in
    part_of_lem s l p q m (omega arith) _ _ h (le-leb 0 m (omega arith)) ∙ least_is s l p w 0 m q b told ∙ least_none s l p w

-- ---- from an answer back to what was read

pub part_refused : (x : Reading (List ℕ)) (r : Refusal) → Err r ≡ part_of x → x ≡ refused r
part_refused (refused t) r e = let z : t ≡ r = cc in ap refused z
part_refused (found xs q) r e = absurd (let z : ◌≡◌ {A = ℕ} 0 1 = cc in omega arith)

pub part_found : (x : Reading (List ℕ)) (a m : ℕ) → Ok (a, m) ≡ part_of x → ((xs : List ℕ) (q : ℕ) → x ≡ found xs q → length xs ≤ q)
    → (xs : List ℕ) × (x ≡ found xs (a + m))
part_found (found xs q) a m e h =
    let i = ok_pair_inj e in
    (xs, ap (found xs) (let k = h xs q refl in omega (arith, i.0, i.1)))
part_found (refused r) a m e h = absurd (let z : ◌≡◌ {A = ℕ} 0 1 = cc in omega arith)

pub step_refused : {A : Type 0} (x : Reading A) (r : Refusal) → Err r ≡ step_of x → x ≡ refused r
step_refused (refused t) r e = let z : t ≡ r = cc in ap refused z
step_refused (found a q) r e = absurd (let z : ◌≡◌ {A = ℕ} 0 1 = cc in omega arith)

pub step_found : {A : Type 0} (x : Reading A) (q : ℕ) → Ok q ≡ step_of x → (a : A) × (x ≡ found a q)
step_found (found a r) q e = (a, ap (found a) (let z : r ≡ q = cc in z))
step_found (refused r) q e = absurd (let z : ◌≡◌ {A = ℕ} 0 1 = cc in omega arith)
