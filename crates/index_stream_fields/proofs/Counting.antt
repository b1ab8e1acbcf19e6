-- Things that fill a part, counted as they are passed: the laws of the loop, of one descriptor and of one stream.
use Prim.Native.Nat.{ℕ, zero, suc, ◌+◌, ◌-◌, ◌%◌, ◌≤◌, ◌<◌}
use Rattle.std.specs.Prelude.{Result, Ok, Err}
use mathlib.Core.Path.{◌≡◌, refl, sym, ap, ap₂, ◌∙◌}
use mathlib.Core.List.{List, ◌∷◌}
use mathlib.Core.Bool.{Bool, true, false}
use native.Mathlib.Omega.{arith}
use native.Mathlib.Nat.{add-zero}
use lib.ListN.{length, take, drop, length-drop}
use lib.Seq.{length-take-le}
use lib.Dec.{leb}
use borrow.Author.Tests.{le-leb, lt-leb}
use Rattle.ground_refusal.specs.declared.Refusal.{Refusal}
use Rattle.ground_refusal.specs.declared.Refusal.TheVariants.{PastBody, PastPart}
use Rattle.ground_refusal.proofs.Exits.{ok_pair_inj}
use Rattle.body_formats.specs.Reading.{Reading, found, refused, and_then, need, Fault, fine, faulty, judged, within}
use Rattle.body_formats.specs.Format.{Format, number_at, number, reserved, followed, view, parse_many, many, rest, Length, length12, counted}
use Rattle.body_formats.specs.Answers.{step_of, number_of, part_of, ended, number_read, part_read}
use Rattle.body_formats.proofs.Outcomes.{found_inj, and_then_found, judged_found, within_found}
use Rattle.body_formats.proofs.Classes.{Bytes, Lawful}
use Rattle.body_formats.proofs.Inner.{forward}
use Rattle.body_formats.proofs.Readers.{number_found, number_refused, number_is, part_found, part_refused, step_found, step_refused}
use Rattle.body_asking.proofs.Answers.{count_number}
use Rattle.index.specs.Index.{Descriptor, descriptor, descriptors, Stream, stream_fields, stream}
use Rattle.index_stream_fields.specs.Asked.{count_of}

-- ---- the loop, for things of any format

-- what is answered where m things lie behind, and at most k are read from p on
abbrev counts : {A : Type 0} → Format A → List ℕ → ℕ → ℕ → ℕ → ℕ → Result (ℕ × ℕ) Refusal
counts F s l m k p = number_of (and_then (parse_many F k s l p) (λ xs q. found (m + length xs) q))

none_behind : {A : Type 0} (x : Reading (List A)) → number_of (count_of x) ≡ number_of (and_then x (λ xs q. found (0 + length xs) q))
none_behind (found xs q) = ap (λ (n : ℕ). Ok (n, q)) (let z : length xs ≡ 0 + length xs = omega arith in z)
none_behind (refused r) = refl

one_behind : {A : Type 0} (m : ℕ) (a : A) (x : Reading (List A))
    → number_of (and_then (and_then x (λ xs r. found (a ∷ xs) r)) (λ xs q. found (m + length xs) q)) ≡ number_of (and_then x (λ xs q. found (m + 1 + length xs) q))
one_behind m a (found xs q) = ap (λ (n : ℕ). Ok (n, q)) (let z : m + suc (length xs) ≡ m + 1 + length xs = omega arith in z)
one_behind m a (refused r) = refl

-- The loop stands at `at` with m things behind it: the answer is theirs and that of the rest, for which enough turns are left.
pub record Counted {A : Type 0} (F : Format A) (s : List ℕ) (l p m at : ℕ) : Type 0 where
  pub enough : l - at ≤ l - p - m
  pub answer : number_of (count_of ((many F).parse s l p)) ≡ counts F s l m (l - p - m) at

module _ {A : Type 0} (F : Format A) (s : List ℕ) (l : ℕ) where
  pub count_start : (p : ℕ) → Counted F s l p 0 p
  unfolding many
  count_start p =
      let all : l - p - 0 ≡ l - p = omega arith in
      record { enough = omega arith; answer = none_behind (parse_many F (l - p) s l p) ∙ ap (λ (k : ℕ). counts F s l 0 k p) (sym all) }

  count_end : (m k at : ℕ) → l ≤ at → counts F s l m k at ≡ Ok (m, at)
  unfolding parse_many
  count_end m zero at h = rw (le-leb l at h) (ap (λ (n : ℕ). Ok (n, at)) (add-zero m))
  count_end m (suc k) at h = rw (le-leb l at h) (ap (λ (n : ℕ). Ok (n, at)) (add-zero m))

  count_refused : (m k at : ℕ) (r : Refusal) → at < l → l - at ≤ k → Err r ≡ ended F s l at → counts F s l m k at ≡ Err r
  unfolding parse_many
  count_refused m zero at r h f e = absurd (omega arith)
  count_refused m (suc k) at r h f e = rw (lt-leb l at h, step_refused F s l at r e)

  count_turn : (m k at q : ℕ) → at < l → l - at ≤ k → Ok q ≡ ended F s l at → counts F s l m k at ≡ counts F s l (m + 1) (k - 1) q
  unfolding parse_many
  count_turn m zero at q h f e = absurd (omega arith)
  count_turn m (suc k) at q h f e =
      let g = step_found F s l at q e in
      let less : k ≡ suc k - 1 = omega arith in
      rw (lt-leb l at h, g.1) (one_behind m g.0 (parse_many F k s l q) ∙ ap (λ (j : ℕ). counts F s l (m + 1) j q) less)

  -- a turn goes on, in its part; as many things as bytes are counted at most
  pub record Turn (p m at q : ℕ) : Type 0 where
    pub nearer : at < q
    pub small : m < l
    pub again : Counted F s l p (m + 1) q

  module _ (p m at : ℕ) (c : Counted F s l p m at) where
    pub count_done : l ≤ at → Ok (m, at) ≡ number_of (count_of ((many F).parse s l p))
    count_done h = sym (c.answer ∙ count_end m (l - p - m) at h)

    pub count_stop : (r : Refusal) → at < l → Err r ≡ ended F s l at → Err r ≡ number_of (count_of ((many F).parse s l p))
    count_stop r h e = sym (c.answer ∙ count_refused m (l - p - m) at r h c.enough e)

    pub count_go : Lawful F → ((a : A) → 0 < length (F.print a)) → Bytes s → l ≤ length s → (q : ℕ) → at < l → Ok q ≡ ended F s l at → Turn p m at q
    count_go f takes b inb q h e =
        let g = step_found F s l at q e in
        let nearer = (forward F f takes s b l inb at g.0 q (omega arith) g.1).0 in
        let less : l - p - m - 1 ≡ l - p - (m + 1) = omega arith in
        record {
          nearer = nearer;
          small = omega (arith, c.enough);
          again = record {
            enough = omega (arith, c.enough, nearer);
            answer = c.answer ∙ count_turn m (l - p - m) at q h c.enough e ∙ ap (λ (k : ℕ). counts F s l (m + 1) k q) less;
          };
        }

-- ---- one descriptor, one stream: its first byte stands in the part

module _ (s : List ℕ) (b : Bytes s) (l p : ℕ) (here : p < l) (inside : l ≤ length s) where
  byte_found : (number 1).parse s l p ≡ found (number_at s p 1) (p + 1)
  unfolding number_read
  byte_found =
      number_found ((number 1).parse s l p) (number_at s p 1) (p + 1)
      (number_is s l p 1 (omega arith) (omega arith) (number_at s p 1) (p + 1) refl refl ∙ count_number 1 s l p b)

  pub descriptor_no : (r : Refusal) → Err r ≡ part_read 1 s l (p + 1) → Err r ≡ ended descriptor s l p
  unfolding ended descriptor view followed
  descriptor_no r e = rw (byte_found, part_refused s l (p + 1) 1 r e)

  pub descriptor_at : (a m : ℕ) → Ok (a, m) ≡ part_read 1 s l (p + 1) → Ok (a + m) ≡ ended descriptor s l p
  unfolding ended descriptor view followed
  descriptor_at a m e = rw (byte_found, (part_found s l (p + 1) 1 a m e).1)

  pub stream_no : (r : Refusal) → Err r ≡ number_of ((reserved 3 1).parse s l (p + 1)) → Err r ≡ ended stream s l p
  unfolding ended stream stream_fields view followed
  stream_no r e = rw (byte_found, number_refused ((reserved 3 1).parse s l (p + 1)) r e)

  pub stream_is : (v q : ℕ) → Ok (v, q) ≡ number_of ((reserved 3 1).parse s l (p + 1)) → ended descriptors s l q ≡ ended stream s l p
  unfolding ended stream stream_fields view followed
  stream_is v q e = rw (byte_found, number_found ((reserved 3 1).parse s l (p + 1)) v q e) (go (descriptors.parse s l q))
    where
      type : ℕ
      type = number_at s p 1

      go : (x : Reading (List Descriptor))
          → step_of x
          ≡ step_of {A = Stream} (and_then {A = ℕ × (ℕ × List Descriptor)}
          (and_then {A = ℕ × List Descriptor} (and_then x (λ ds r. found (v, ds) r)) (λ y r. found (type, y) r))
          (λ z r. found (record { type = z.0; pid = z.1.0; descriptors = z.1.1 }) r))
      go (found ds r) = refl
      go (refused r) = refl

-- ---- what fills a part after its length: it is read where opaque bytes would be

module _ (L : Length) {A : Type 0} (F : Format A) (s : List ℕ) (l p : ℕ) where
  still : (r : Refusal) (x : List ℕ) (q : ℕ) (y : Reading A) (t u : Bool) (a c : Refusal) (f : Fault)
      → Err r ≡ part_of (need t a (need u c (judged f (found x q))))
      → need t a (need u c (judged f y)) ≡ refused r
  still r x q y true true a c fine e = absurd (let z : ◌≡◌ {A = ℕ} 0 1 = cc in omega arith)
  still r x q y true true a c (faulty w) e = let z : w ≡ r = cc in ap refused z
  still r x q y true false a c f e = let z : c ≡ r = cc in ap refused z
  still r x q y false u a c f e = let z : a ≡ r = cc in ap refused z

  no_part : (r : Refusal) → Err r ≡ part_of ((counted L rest).parse s l p) → (counted L F).parse s l p ≡ refused r
  unfolding counted rest
  no_part r e = go (L.field.parse s l p) e
    where
      go : (x : Reading ℕ)
          → Err r
          ≡ part_of (and_then x (λ n q.
          within s l p (q + n % L.limit) (judged (L.fault n p) (found (take (q + n % L.limit - q) (drop q s)) (q + n % L.limit)))))
          → and_then x (λ n q. within s l p (q + n % L.limit) (judged (L.fault n p) (F.parse s (q + n % L.limit) q))) ≡ refused r
      go (refused t) f = let z : t ≡ r = cc in ap refused z
      go (found n q) f =
          let end = q + n % L.limit in
          still r (take (end - q) (drop q s)) end (F.parse s end q) (leb end (length s)) (leb end l) (PastBody p) (PastPart p) (L.fault n p) f

  part_there : (x : List ℕ) (q : ℕ) → (counted L rest).parse s l p ≡ found x q
      → (length x ≤ q) × (q ≤ length s) × ((counted L F).parse s l p ≡ F.parse s q (q - length x))
  unfolding counted rest
  part_there x q e =
      let i = and_then_found (L.field.parse s l p) _ x q e in
      let m = i.0 % L.limit in
      let g = within_found s l p (i.1 + m) _ x q i.3 in
      let j = judged_found (L.fault i.0 p) _ x q g.2 in
      let f = found_inj j.1 in
      let size = length-take-le (i.1 + m - i.1) (drop i.1 s) (simp length-drop (omega (arith, g.0))) in
      let ends : i.1 + m ≡ q = f.1 in
      let begins : i.1 ≡ q - length x = omega (arith, ends, size, ap length f.0) in (
        omega (arith, ends, size, ap length f.0),
        omega (arith, ends, g.0),
        rw (i.2, le-leb (i.1 + m) (length s) g.0, le-leb (i.1 + m) l g.1, j.0) (ap₂ (F.parse s) ends begins),
      )

  pub into_part : (a m : ℕ) → Ok (a, m) ≡ part_of ((counted L rest).parse s l p) → (a + m ≤ length s) × ((counted L F).parse s l p ≡ F.parse s (a + m) a)
  into_part a m e = go ((counted L rest).parse s l p) refl e
    where
      go : (x : Reading (List ℕ)) → (counted L rest).parse s l p ≡ x → Ok (a, m) ≡ part_of x → (a + m ≤ length s) × ((counted L F).parse s l p ≡ F.parse s (a + m) a)
      go (refused r) f e = absurd (let z : ◌≡◌ {A = ℕ} 0 1 = cc in omega arith)
      go (found x q) f e =
          let h = part_there x q f in
          let i = ok_pair_inj e in
          let begins = i.0 in
          let size = i.1 in
          let ends : q ≡ a + m = omega (arith, h.0, begins, size) in
          (omega (arith, h.1, ends), h.2 ∙ ap₂ (F.parse s) ends (sym begins))

-- ---- the descriptors after their 12-bit length

module _ (s : List ℕ) (l p : ℕ) where
  pub descriptors_no : (r : Refusal) → Err r ≡ part_of ((counted length12 rest).parse s l p) → Err r ≡ ended descriptors s l p
  unfolding ended descriptors
  descriptors_no r e = rw (no_part length12 (many descriptor) s l p r e)

  module _ (a m : ℕ) (e : Ok (a, m) ≡ part_of ((counted length12 rest).parse s l p)) where
    pub descriptors_bad : (r : Refusal) → Err r ≡ number_of (count_of ((many descriptor).parse s (a + m) a)) → Err r ≡ ended descriptors s l p
    unfolding ended descriptors
    descriptors_bad r f = go ((many descriptor).parse s (a + m) a) f ∙ ap step_of (sym (into_part length12 (many descriptor) s l p a m e).1)
      where
        go : (x : Reading (List Descriptor)) → Err r ≡ number_of (count_of x) → Err r ≡ step_of x
        go (found ds q) f = absurd (let z : ◌≡◌ {A = ℕ} 0 1 = cc in omega arith)
        go (refused t) f = let z : r ≡ t = cc in ap Err z

    pub descriptors_at : (k q : ℕ) → Ok (k, q) ≡ number_of (count_of ((many descriptor).parse s (a + m) a)) → Ok q ≡ ended descriptors s l p
    unfolding ended descriptors
    descriptors_at k q f = go ((many descriptor).parse s (a + m) a) f ∙ ap step_of (sym (into_part length12 (many descriptor) s l p a m e).1)
      where
        go : (x : Reading (List Descriptor)) → Ok (k, q) ≡ number_of (count_of x) → Ok q ≡ step_of x
        go (found ds t) f = ap Ok (ok_pair_inj f).1
        go (refused t) f = absurd (let z : ◌≡◌ {A = ℕ} 0 1 = cc in omega arith)
