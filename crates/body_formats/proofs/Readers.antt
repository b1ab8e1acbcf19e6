-- What the reading functions answer, a law for each way through: the code's tests on the left, the answer on the right.
use Prim.Native.Nat.{ℕ, zero, suc, ◌+◌, ◌-◌, ◌*◌, ◌%◌, ◌^◌, ◌≤◌, ◌<◌}
use Rattle.std.specs.Prelude.{Ok, Err}
use mathlib.Core.Path.{◌≡◌, refl, sym, ap, ap₂, ◌∙◌}
use mathlib.Core.List.{List, ◌∷◌}
use mathlib.Core.Bool.{Bool, true, false}
use native.Mathlib.Omega.{arith}
use native.Mathlib.Numerals.{add-one}
use native.Mathlib.Nat.{add-sub_cancel, add-sub_cancel_left, mod-eq_of_lt, pow-suc, pow-le-pow_right, lt_of_lt_of_le}
use lib.Arith.{digits_lt}
use lib.ListN.{length, get_or, take, drop, length-drop}
use lib.Seq.{length-take-le}
use lib.Dec.{leb, eqb}
use borrow.Author.Tests.{le-leb, lt-leb, lt-ltb, le-ltb, eq-eqb, ne_eqb}
use Rattle.ground_refusal.specs.declared.Refusal.{Refusal}
use Rattle.ground_refusal.specs.declared.Refusal.TheVariants.{OtherKind, PastBody, PastPart, OutsideSet, TooLarge}
use Rattle.ground_refusal.proofs.Exits.{ok_inj, ok_pair_inj}
use Rattle.body_formats.specs.Reading.{Reading, found, refused, and_then, need, unless, judged, within}
use Rattle.body_formats.specs.Format.{Format, nothing, number_at, count, repeat, list_of, rest, Length, length_of, least_of, counted, opaque}
use Rattle.body_formats.specs.Answers.{step_of, number_of, part_of, field_part, ended, ended_all, number_read, part_read, after, part_after, thing_listed, part_listed}
use Rattle.ground_numbers.specs.Sizes.{body_most}
use Rattle.body_formats.specs.Body.{reading, body_read, opened}
use Rattle.body_formats.proofs.Outcomes.{found_inj, and_then_found, within_found}
use Rattle.body_formats.proofs.Classes.{Bytes}
use Rattle.body_formats.proofs.Leaves.{number_below}

-- ---- a number under way: its first k bytes

pub number_start : (s : List ℕ) (p : ℕ) → 0 ≡ number_at s p 0
unfolding number_at
number_start s p = refl

pub number_more : (s : List ℕ) (p k v x : ℕ) → v ≡ number_at s p k → x ≡ get_or s (p + k) 0 → v * 256 + x ≡ number_at s p (k + 1)
unfolding number_at
number_more s p k v x e f = rw (add-one, e, f)

pub more_fits : (k v x : ℕ) → v < 256 ^ k → x < 256 → v * 256 + x < 256 ^ (k + 1)
more_fits k v x h l = rw (add-one, pow-suc) (digits_lt h l)

pub six_bytes : (k v : ℕ) → k ≤ 6 → v < 256 ^ k → v < 256 ^ 6
six_bytes k v h l = lt_of_lt_of_le l (pow-le-pow_right (omega arith) h)

-- ---- a number

module _ (s : List ℕ) (l p w : ℕ) where
  pub number_14 : length s < p + w → Err (PastBody p) ≡ number_read w s l p
  unfolding number_read count
  number_14 h = rw (lt-leb (p + w) (length s) h)

  pub number_15 : p + w ≤ length s → l < p + w → Err (PastPart p) ≡ number_read w s l p
  unfolding number_read count
  number_15 h k = rw (le-leb (p + w) (length s) h, lt-leb (p + w) l k)

  pub number_is : p + w ≤ length s → p + w ≤ l → (v q : ℕ) → v ≡ number_at s p w → q ≡ p + w → Ok (v, q) ≡ number_read w s l p
  unfolding number_read count
  number_is h k v q e f = rw (le-leb (p + w) (length s) h, le-leb (p + w) l k, e, f)

-- from an answer back to what was read
pub number_found : (x : Reading ℕ) (v q : ℕ) → Ok (v, q) ≡ number_of x → x ≡ found v q
number_found (found y r) v q e = let i = ok_pair_inj e in ap₂ found (sym i.0) (sym i.1)
number_found (refused r) v q e = absurd (let z : ◌≡◌ {A = ℕ} 0 1 = cc in omega arith)

pub number_refused : (x : Reading ℕ) (r : Refusal) → Err r ≡ number_of x → x ≡ refused r
number_refused (refused t) r e = let a : t ≡ r = cc in ap refused a
number_refused (found y q) r e = absurd (let z : ◌≡◌ {A = ℕ} 0 1 = cc in omega arith)

pub field_found : {A : Type 0} (p : ℕ) (x : Reading A) (at n : ℕ) → Ok (at, n) ≡ field_part p x
    → (a : A) × (q : ℕ) × (x ≡ found a q) × (at ≡ p) × (n ≡ q - p)
field_found p (found a q) at n e = let i = ok_pair_inj e in (a, q, refl, i.0, i.1)
field_found p (refused r) at n e = absurd (let z : ◌≡◌ {A = ℕ} 0 1 = cc in omega arith)

pub field_refused : {A : Type 0} (p : ℕ) (x : Reading A) (r : Refusal) → Err r ≡ field_part p x → x ≡ refused r
field_refused p (refused t) r e = let a : t ≡ r = cc in ap refused a
field_refused p (found a q) r e = absurd (let z : ◌≡◌ {A = ℕ} 0 1 = cc in omega arith)

-- ---- a counted part: what its length's field answers, and then the bytes from q on

module _ (s : List ℕ) (l p q m : ℕ) where
  pub part_14 : (x : Reading (List ℕ)) → length s < q + m → Err (PastBody p) ≡ part_of (within s l p (q + m) x)
  part_14 x h = rw (lt-leb (q + m) (length s) h)

  module _ (inside : q + m ≤ length s) where
    pub part_15 : (x : Reading (List ℕ)) → l < q + m → Err (PastPart p) ≡ part_of (within s l p (q + m) x)
    part_15 x h = rw (le-leb (q + m) (length s) inside, lt-leb (q + m) l h)

    pub part_of_lem : (t : Bool) (r : Refusal) → q + m ≤ l → t ≡ true → Ok (q, m) ≡ part_of (within s l p (q + m) (judged (unless t r) (rest.parse s (q + m) q)))
    unfolding rest
    part_of_lem t r h e =
        let n : length (take m (drop q s)) ≡ m = length-take-le m (drop q s) (simp length-drop (omega arith)) in
        rw (le-leb (q + m) (length s) inside, le-leb (q + m) l h, e, add-sub_cancel_left q m, n, add-sub_cancel q m)

    pub part_faulty : (t : Bool) (r : Refusal) → q + m ≤ l → t ≡ false → Err r ≡ part_of (within s l p (q + m) (judged (unless t r) (rest.parse s (q + m) q)))
    part_faulty t r h e = rw (le-leb (q + m) (length s) inside, le-leb (q + m) l h, e)

module _ (L : Length) (s : List ℕ) (l p : ℕ) where
  pub length_no : (r : Refusal) → Err r ≡ number_of (L.field.parse s l p) → Err r ≡ part_of ((counted L rest).parse s l p)
  unfolding counted
  length_no r e = rw (number_refused (L.field.parse s l p) r e)

  pub length_is : (n m q : ℕ) → Ok (n, q) ≡ number_of (L.field.parse s l p) → n % L.limit ≡ m
      → part_of (within s l p (q + m) (judged (L.fault n p) (rest.parse s (q + m) q))) ≡ part_of ((counted L rest).parse s l p)
  unfolding counted
  length_is n m q e low = rw (number_found (L.field.parse s l p) n q e, low)

pub number_facts : (s : List ℕ) (l p w v q : ℕ) → Bytes s → Ok (v, q) ≡ number_read w s l p → (q ≤ length s) × (q ≤ l) × (v < 256 ^ w)
unfolding count number_read
number_facts s l p w v q b e =
    let f = within_found s l p (p + w) _ v q (number_found ((count w).parse s l p) v q e) in
    let i = found_inj f.2 in
    (rw (← i.1) f.0, rw (← i.1) f.1, rw (← i.0) (number_below s p w b))

-- by a length of w bytes that counts so many at least
module _ (s : List ℕ) (l p w least : ℕ) where
  pub least_no : (r : Refusal) → Err r ≡ number_read w s l p → Err r ≡ part_of ((counted (least_of w least) rest).parse s l p)
  unfolding least_of number_read
  least_no r e = length_no (least_of w least) s l p r e

  pub least_is : (n q : ℕ) → Bytes s → Ok (n, q) ≡ number_read w s l p
      → part_of (within s l p (q + n) (judged (unless (leb least n) (PastPart p)) (rest.parse s (q + n) q))) ≡ part_of ((counted (least_of w least) rest).parse s l p)
  unfolding least_of number_read
  least_is n q b e = length_is (least_of w least) s l p n n q e (mod-eq_of_lt (number_facts s l p w n q b e).2)

-- every length is at least 0
pub least_none : (s : List ℕ) (l p w : ℕ) → part_of ((counted (least_of w 0) rest).parse s l p) ≡ part_read w s l p
unfolding part_read counted least_of length_of
least_none s l p w = go ((count w).parse s l p)
  where
    go : (x : Reading ℕ)
        → part_of (and_then x (λ n q. within s l p (q + n % 256 ^ w) (judged (unless (leb 0 n) (PastPart p)) (rest.parse s (q + n % 256 ^ w) q))))
        ≡ part_of (and_then x (λ n q. within s l p (q + n % 256 ^ w) (rest.parse s (q + n % 256 ^ w) q)))
    go (found n q) = rw (le-leb 0 n (omega arith))
    go (refused r) = refl

-- ---- opaque bytes

-- from a part back to the bytes read
pub opaque_found : (s : List ℕ) (l p w : ℕ) (xs : List ℕ) (q : ℕ) → (opaque w).parse s l p ≡ found xs q
    → (length xs ≤ q) × (q ≤ length s) × (q ≤ l) × (take (length xs) (drop (q - length xs) s) ≡ xs)
unfolding counted length_of rest
opaque_found s l p w xs q e =
    let i = and_then_found ((count w).parse s l p) _ xs q e in
    let m = i.0 % 256 ^ w in
    let g = within_found s l p (i.1 + m) _ xs q i.3 in
    let h = found_inj g.2 in
    let n = length-take-le (i.1 + m - i.1) (drop i.1 s) (simp length-drop (omega (arith, g.0))) in
    let at : q - length xs ≡ i.1 = omega (arith, ap length h.0, h.1, n) in
    let long : length xs ≡ i.1 + m - i.1 = omega (arith, ap length h.0, n) in
    (omega (arith, ap length h.0, h.1, n), omega (arith, h.1, g.0), omega (arith, h.1, g.1), ap₂ (λ (x y : ℕ). take x (drop y s)) long at ∙ h.0)

part_inv : (x : Reading (List ℕ)) (a n : ℕ) → Ok (a, n) ≡ part_of x → ((xs : List ℕ) (q : ℕ) → x ≡ found xs q → length xs ≤ q)
    → (xs : List ℕ) × (x ≡ found xs (a + n)) × (length xs ≡ n)
part_inv (found xs q) a n e h =
    let i = ok_pair_inj e in
    (xs, ap (found xs) (let k = h xs q refl in omega (arith, i.0, i.1)), sym i.1)
part_inv (refused r) a n e h = absurd (let z : ◌≡◌ {A = ℕ} 0 1 = cc in omega arith)

module _ (s : List ℕ) (l p w : ℕ) where
  pub part_found : (a n : ℕ) → Ok (a, n) ≡ part_read w s l p → (xs : List ℕ) × ((opaque w).parse s l p ≡ found xs (a + n)) × (length xs ≡ n)
  unfolding part_read
  part_found a n e = part_inv ((opaque w).parse s l p) a n e (λ xs q f. (opaque_found s l p w xs q f).0)

  pub part_facts : (a n : ℕ) → Ok (a, n) ≡ part_read w s l p → (a + n ≤ length s) × (a + n ≤ l)
  part_facts a n e =
      let i = part_found a n e in
      let f = opaque_found s l p w i.0 (a + n) i.1 in
      (f.1, f.2)

  pub part_refused : (r : Refusal) → Err r ≡ part_read w s l p → (opaque w).parse s l p ≡ refused r
  unfolding part_read
  part_refused r e = go ((opaque w).parse s l p) e
    where
      go : (x : Reading (List ℕ)) → Err r ≡ part_of x → x ≡ refused r
      go (refused t) f = let a : t ≡ r = cc in ap refused a
      go (found y q) f = absurd (let z : ◌≡◌ {A = ℕ} 0 1 = cc in omega arith)

  -- where opaque bytes end
  pub opaque_at : (a n : ℕ) → Ok (a, n) ≡ part_read w s l p → Ok (a + n) ≡ ended (opaque w) s l p
  unfolding ended
  opaque_at a n e = rw (part_found a n e).1

  pub opaque_no : (r : Refusal) → Err r ≡ part_read w s l p → Err r ≡ ended (opaque w) s l p
  unfolding ended
  opaque_no r e = rw (part_refused r e)

-- ---- from where a part ends back to what was read

module _ {A : Type 0} (F : Format A) (s : List ℕ) (l p : ℕ) where
  pub step_found : (q : ℕ) → Ok q ≡ ended F s l p → (a : A) × (F.parse s l p ≡ found a q)
  unfolding ended
  step_found q e = go (F.parse s l p) e
    where
      go : (x : Reading A) → Ok q ≡ step_of x → (a : A) × (x ≡ found a q)
      go (found a r) f = (a, ap (found a) (let z : r ≡ q = cc in z))
      go (refused r) f = absurd (let z : ◌≡◌ {A = ℕ} 0 1 = cc in omega arith)

  pub step_refused : (r : Refusal) → Err r ≡ ended F s l p → F.parse s l p ≡ refused r
  unfolding ended
  step_refused r e = go (F.parse s l p) e
    where
      go : (x : Reading A) → Err r ≡ step_of x → x ≡ refused r
      go (refused t) f = let a : t ≡ r = cc in ap refused a
      go (found a q) f = absurd (let z : ◌≡◌ {A = ℕ} 0 1 = cc in omega arith)

-- ---- n things, and the thing after i others: a turn of the loop

step_last : {A : Type 0} (a : A) (x : Reading (List A)) → step_of (and_then x (λ xs r. found (a ∷ xs) r)) ≡ step_of x
step_last a (found b r) = refl
step_last a (refused r) = refl

module _ {A : Type 0} (F : Format A) (s : List ℕ) (l p : ℕ) where
  pub all_done : (n : ℕ) → n ≡ 0 → Ok p ≡ ended_all F n s l p
  unfolding ended_all repeat
  all_done n z = rw z

  pub all_stop : (n : ℕ) (r : Refusal) → 0 < n → Err r ≡ ended F s l p → Err r ≡ ended_all F n s l p
  unfolding ended ended_all repeat
  all_stop zero r h e = absurd (omega arith)
  all_stop (suc n) r h e = go (F.parse s l p) e
    where
      go : (x : Reading A) → Err r ≡ step_of x → Err r ≡ step_of (and_then x (λ a q. and_then (repeat (F.parse s l) n q) (λ xs t. found (a ∷ xs) t)))
      go (found a q) f = absurd (let z : ◌≡◌ {A = ℕ} 0 1 = cc in omega arith)
      go (refused t) f = f

  pub all_go : (n q : ℕ) → 0 < n → Ok q ≡ ended F s l p → ended_all F n s l p ≡ ended_all F (n - 1) s l q
  unfolding ended ended_all repeat
  all_go zero q h e = absurd (omega arith)
  all_go (suc n) q h e = go (F.parse s l p) e ∙ ap (λ m. step_of (repeat (F.parse s l) m q)) (let z : n ≡ suc n - 1 = omega arith in z)
    where
      go : (x : Reading A) → Ok q ≡ step_of x → step_of (and_then x (λ a t. and_then (repeat (F.parse s l) n t) (λ xs u. found (a ∷ xs) u))) ≡ step_of (repeat (F.parse s l) n q)
      go (found a t) f = let z : t ≡ q = cc in step_last a (repeat (F.parse s l) n t) ∙ ap (λ u. step_of (repeat (F.parse s l) n u)) z
      go (refused r) f = absurd (let z : ◌≡◌ {A = ℕ} 0 1 = cc in omega arith)

-- what is read after i others is read where these end
module _ {A : Type 0} (F : Format A) (s : List ℕ) (l : ℕ) where
  after_past : (i p q : ℕ) → Ok q ≡ ended_all F i s l p → F.parse s l q ≡ after F i s l p
  unfolding ended_all repeat after
  after_past zero p q e = let z : q ≡ p = ok_inj e in ap (F.parse s l) z
  after_past (suc i) p q e = go (λ t. after_past i t q) (F.parse s l p) e
    where
      go : ((t : ℕ) → Ok q ≡ step_of (repeat (F.parse s l) i t) → F.parse s l q ≡ after F i s l t)
          → (x : Reading A) → Ok q ≡ step_of (and_then x (λ a t. and_then (repeat (F.parse s l) i t) (λ xs u. found (a ∷ xs) u))) → F.parse s l q ≡ and_then x (λ a t. after F i s l t)
      go more (found a t) f = more t (f ∙ step_last a (repeat (F.parse s l) i t))
      go more (refused r) f = absurd (let z : ◌≡◌ {A = ℕ} 0 1 = cc in omega arith)

  after_none : (i p : ℕ) (r : Refusal) → Err r ≡ ended_all F i s l p → after F i s l p ≡ refused r
  unfolding ended_all repeat after
  after_none zero p r e = absurd (let z : ◌≡◌ {A = ℕ} 0 1 = cc in omega arith)
  after_none (suc i) p r e = go (λ t. after_none i t r) (F.parse s l p) e
    where
      go : ((t : ℕ) → Err r ≡ step_of (repeat (F.parse s l) i t) → after F i s l t ≡ refused r)
          → (x : Reading A) → Err r ≡ step_of (and_then x (λ a t. and_then (repeat (F.parse s l) i t) (λ xs u. found (a ∷ xs) u))) → and_then x (λ a t. after F i s l t) ≡ refused r
      go more (found a t) f = more t (f ∙ step_last a (repeat (F.parse s l) i t))
      go more (refused t) f = let z : t ≡ r = cc in ap refused z

module _ (s : List ℕ) (l p w i : ℕ) where
  pub part_past : (q : ℕ) → Ok q ≡ ended_all (opaque w) i s l p → part_read w s l q ≡ part_after w i s l p
  unfolding part_after part_read
  part_past q e = ap part_of (after_past (opaque w) s l i p q e)

  pub part_none : (r : Refusal) → Err r ≡ ended_all (opaque w) i s l p → Err r ≡ part_after w i s l p
  unfolding part_after
  part_none r e = rw (after_none (opaque w) s l i p r e)

-- ---- a list after its count

module _ (s : List ℕ) (l p c : ℕ) where
  pub list_no : {A : Type 0} (F : Format A) (r : Refusal) → Err r ≡ number_read c s l p → Err r ≡ ended (list_of (count c) F) s l p
  unfolding ended list_of number_read
  list_no F r e = rw (number_refused ((count c).parse s l p) r e)

  pub list_all : {A : Type 0} (F : Format A) (n q : ℕ) → Ok (n, q) ≡ number_read c s l p → ended_all F n s l q ≡ ended (list_of (count c) F) s l p
  unfolding ended ended_all list_of number_read
  list_all F n q e = rw (number_found ((count c).parse s l p) n q e)

  pub listed_no : (w i : ℕ) (r : Refusal) → Err r ≡ number_read c s l p → Err r ≡ part_listed c w i s l p
  unfolding part_listed thing_listed number_read
  listed_no w i r e = rw (number_refused ((count c).parse s l p) r e)

  pub listed_none : (w i n q : ℕ) → Ok (n, q) ≡ number_read c s l p → n ≤ i → Err (OutsideSet 0) ≡ part_listed c w i s l p
  unfolding part_listed thing_listed number_read
  listed_none w i n q e h = rw (number_found ((count c).parse s l p) n q e, le-ltb i n h)

  pub listed_part : (w i n q : ℕ) → Ok (n, q) ≡ number_read c s l p → i < n → part_after w i s l q ≡ part_listed c w i s l p
  unfolding part_listed thing_listed part_after number_read
  listed_part w i n q e h = rw (number_found ((count c).parse s l p) n q e, lt-ltb i n h)

-- ---- whole bodies

module _ (own kind : ℕ) (s : List ℕ) where
  pub other_kind : (kind ≡ own → ⊥) → Err OtherKind ≡ opened own kind s
  unfolding opened body_read reading
  other_kind h = rw (ne_eqb kind own h)

  module _ (e : kind ≡ own) where
    pub too_large : body_most < length s → Err TooLarge ≡ opened own kind s
    unfolding opened body_read reading
    too_large h = rw (eq-eqb kind own e, lt-leb (length s) body_most h)

    pub is_open : length s ≤ body_most → Ok 0 ≡ opened own kind s
    unfolding opened body_read reading nothing
    is_open h = rw (eq-eqb kind own e, le-leb (length s) body_most h)

  module _ {A : Type 0} (F : Format A) where
    pub body_no : (r : Refusal) → Err r ≡ opened own kind s → Err r ≡ body_read F own kind s
    unfolding opened body_read reading nothing
    body_no r e = go (eqb kind own) (leb (length s) body_most) e
      where
        go : (a b : Bool) → Err r ≡ step_of (need a OtherKind (need b TooLarge (nothing.parse s (length s) 0))) → Err r ≡ step_of (need a OtherKind (need b TooLarge (F.parse s (length s) 0)))
        go false b f = f
        go true false f = f
        go true true f = absurd (let z : ◌≡◌ {A = ℕ} 0 1 = cc in omega arith)
