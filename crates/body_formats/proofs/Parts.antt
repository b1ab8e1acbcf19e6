-- The laws of fields put together: value sets, one after the other, a flag, other names, no byte left, opaque bytes and counted parts.
use Prim.Native.Nat.{ℕ, zero, suc, ◌+◌, ◌-◌, ◌%◌, ◌^◌, ◌≤◌, ◌<◌}
use mathlib.Core.Path.{◌≡◌, refl, sym, ap, ◌∙◌}
use mathlib.Core.List.{List, ◌++◌}
use mathlib.Core.Bool.{Bool, true, false, not}
use native.Mathlib.Omega.{arith}
use native.Mathlib.Nat.{add-zero, add_assoc, le_refl, le_of_eq, mod-eq_of_lt}
use lib.ListN.{length, drop, length-append, length-drop}
use lib.Seq.{length-take-le}
use lib.Dec.{ltb, leb}
use borrow.Author.Tests.{ltb-true, leb-true, le-leb, lt-ltb, not-false}
use Rattle.ground_choices.proofs.Tests.{both, and_of}
use Rattle.ground_refusal.specs.declared.Refusal.{Refusal}
use Rattle.ground_refusal.specs.declared.Refusal.TheVariants.{OutsideSet, ReservedBitZero}
use Rattle.body_formats.specs.Reading.{found, Fault, fine, unless, is_fine}
use Rattle.body_formats.specs.Format.{Format, bytes_of, count, only, outside, number, below, reserved, followed, nothing, under, view, rest, exact, Length, length_of, least_of, length12, counted, opaque}
use Rattle.body_formats.proofs.Stand.{Stands, stands_nil, stands_left, stands_right, stands_join, stands_take, taken}
use Rattle.body_formats.proofs.Outcomes.{found_inj, and_then_found, need_found, judged_found, within_found, within_there, fine_of, neither}
use Rattle.body_formats.proofs.Classes.{Bytes, Proper, Found, Forth, Formal, Lawful, Filling, moved}
use Rattle.body_formats.proofs.Leaves.{length_bytes_lem, span_laid, count_lawful, count_small, small_count, reserved_lawful}

-- ---- value sets: whether a value is in the set does not depend on its place

module _ {A : Type 0} (fault : A → ℕ → Fault) (F : Format A) (even : (a : A) (p : ℕ) → is_fine (fault a p) ≡ is_fine (fault a 0)) where
  at_any : (a : A) (p q : ℕ) → fault a p ≡ fine → fault a q ≡ fine
  at_any a p q h = fine_of (fault a q) (even a q ∙ sym (even a p) ∙ ap is_fine h)

  pub only_ok : (a : A) → Proper (only fault F) a → Proper F a × (fault a 0 ≡ fine)
  unfolding only
  only_ok a o =
      let t = both (F.writable a) (is_fine (fault a 0)) o.writable in
      (record { writable = t.0; small = o.small }, fine_of (fault a 0) t.1)

  only_formal : Formal F → Formal (only fault F)
  unfolding only
  only_formal u =
      record {
        sound = λ pool tape k a j e.
            let i = and_then_found (F.form pool tape k) _ a j e in
            let g = judged_found (fault i.0 k) _ a j i.3 in
            let z = found_inj g.1 in
            rw (← z.0) (and_of (u.sound pool tape k i.0 i.1 i.2) (ap is_fine (at_any i.0 k 0 g.0)));
        laid = λ pool p tape k a r t h v m.
            let c = both (F.writable a) (is_fine (fault a 0)) r in
            rw (u.laid pool p tape k a c.0 t h v m, at_any a 0 k (fine_of (fault a 0) c.1));
        steady = u.steady;
      }

  only_back : (s : List ℕ) (l p : ℕ) (a : A) (q : ℕ) → Proper (only fault F) a → (Proper F a → F.parse s l p ≡ found a q) → (only fault F).parse s l p ≡ found a q
  unfolding only
  only_back s l p a q o e =
      let c = only_ok a o in
      rw (e c.0, at_any a 0 p c.1)

  only_forth : Forth F → Forth (only fault F)
  unfolding only
  only_forth u s l p a q b k h e =
      let i = and_then_found (F.parse s l p) _ a q e in
      let g = judged_found (fault i.0 p) _ a q i.3 in
      let v = u s l p i.0 i.1 b k h i.2 in
      moved (only fault F) s l p (found_inj g.1)
      record {
        ok = record { writable = and_of v.ok.writable (ap is_fine (at_any i.0 p 0 g.0)); small = v.ok.small };
        stands = v.stands;
        next = v.next;
        inside = v.inside;
      }

  pub only_lawful : Lawful F → Lawful (only fault F)
  unfolding only
  only_lawful u =
      record {
        back = λ s l p a o t h k. only_back s l p a (p + length (F.print a)) (record { writable = o.writable; small = o.small })
            (λ c. u.back s l p a c t h k);
        forth = only_forth u.forth;
        formal = only_formal u.formal;
      }

  pub only_filling : Filling F → Filling (only fault F)
  unfolding only
  only_filling u =
      record {
        back = λ s l p a o t h k. only_back s l p a l (record { writable = o.writable; small = o.small }) (λ c. u.back s l p a c t h k);
        forth = only_forth u.forth;
        ends = λ s l p a q b k h e.
            let i = and_then_found (F.parse s l p) _ a q e in
            let g = judged_found (fault i.0 p) _ a q i.3 in
            sym (found_inj g.1).1 ∙ u.ends s l p i.0 i.1 b k h i.2;
        formal = only_formal u.formal;
      }

pub unless_even : (t : Bool) (refusal : ℕ → Refusal) (p : ℕ) → is_fine (unless t (refusal p)) ≡ is_fine (unless t (refusal 0))
unless_even true refusal p = refl
unless_even false refusal p = refl

pub outside_even : {A : Type 0} (test : A → Bool) (a : A) (p : ℕ) → is_fine (outside test a p) ≡ is_fine (outside test a 0)
outside_even test a p = unless_even (test a) OutsideSet p

pub outside_lawful : {A : Type 0} (test : A → Bool) (F : Format A) → Lawful F → Lawful (only (outside test) F)
outside_lawful test F u = only_lawful (outside test) F (outside_even test) u

pub number_lawful : (w : ℕ) → Lawful (number w)
unfolding number
number_lawful w = outside_lawful (λ x. ltb x (256 ^ w)) (count w) (count_lawful w)

-- ---- one after the other

module _ {A : Type 0} {B : A → Type 0} (F : Format A) (G : (a : A) → Format (B a)) (f : Lawful F) where
  followed_ok : (x : (a : A) × B a) → Proper (followed F G) x → Proper F x.0 × Proper (G x.0) x.1
  unfolding followed
  followed_ok x o =
      let r = both _ _ o.writable in
      let m = neither _ _ o.small in
      (record { writable = r.0; small = m.0 }, record { writable = r.1; small = m.1 })

  found_followed : (s : List ℕ) (l p : ℕ) (a : A) (q : ℕ) (b : B a) (r : ℕ) → Found F s l p a q → Found (G a) s l q b r → Found (followed F G) s l p (a, b) r
  unfolding followed
  found_followed s l p a q b r u v =
      record {
        ok = record { writable = and_of u.ok.writable v.ok.writable; small = rw (u.ok.small, v.ok.small) };
        stands = stands_join s p (F.print a) ((G a).print b) u.stands (rw u.next at v.stands);
        next = simp length-append (omega (arith, u.next, v.next));
        inside = v.inside;
      }

  followed_forth : ((a : A) → Forth (G a)) → Forth (followed F G)
  unfolding followed
  followed_forth g s l p x q b k h e =
      let i = and_then_found (F.parse s l p) _ x q e in
      let j = and_then_found ((G i.0).parse s l i.1) _ x q i.3 in
      let u = f.forth s l p i.0 i.1 b k h i.2 in
      let v = g i.0 s l i.1 j.0 j.1 b k u.inside j.2 in
      moved (followed F G) s l p (found_inj j.3) (found_followed s l p i.0 i.1 j.0 j.1 u v)

  followed_back : (s : List ℕ) (l p : ℕ) (a : A) (b : B a) (q : ℕ) → Proper F a → Stands s p (F.print a) → p + length (F.print a) ≤ l → l ≤ length s
      → (G a).parse s l (p + length (F.print a)) ≡ found b q → (followed F G).parse s l p ≡ found (a, b) q
  unfolding followed
  followed_back s l p a b q o t h k e = rw (f.back s l p a o t h k, e)

  followed_formal : ((a : A) → Formal (G a)) → Formal (followed F G)
  unfolding followed
  followed_formal g =
      record {
        sound = λ pool tape k x j e.
            let i = and_then_found (F.form pool tape k) _ x j e in
            let h = and_then_found ((G i.0).form pool tape i.1) _ x j i.3 in
            rw (← (found_inj h.3).0)
            (and_of (f.formal.sound pool tape k i.0 i.1 i.2) ((g i.0).sound pool tape i.1 h.0 h.1 h.2));
        laid = λ pool p tape k x r t h u m.
            let a = x.0 in
            let b = x.1 in
            let c = both (F.writable a) ((G a).writable b) r in
            let h2 = simp (length-append, ← add_assoc) at h in
            let m2 = simp (length-append, ← add_assoc) at m in
            let one = f.formal.laid pool p tape k a c.0 (stands_left pool p (F.print a) ((G a).print b) t) (omega (arith, h2))
            (stands_left tape k (F.tape a p) ((G a).tape b (p + length (F.print a))) u) (omega (arith, m2)) in
            let two = (g a).laid pool (p + length (F.print a)) tape (k + length (F.tape a p)) b c.1
            (stands_right pool p (F.print a) ((G a).print b) t) h2
            (stands_right tape k (F.tape a p) ((G a).tape b (p + length (F.print a))) u) m2 in
            simp length-append (rw (one, two) (simp add_assoc));
        steady = λ x p.
            let a = x.0 in
            let b = x.1 in
            length-append (F.tape a p) ((G a).tape b (p + length (F.print a)))
            ∙ omega (
              arith,
              f.formal.steady a p,
              (g a).steady b (p + length (F.print a)),
              (g a).steady b (0 + length (F.print a)),
              length-append
                  (F.tape a 0) ((G a).tape b (0 + length (F.print a))),
            );
      }

  pub followed_lawful : ((a : A) → Lawful (G a)) → Lawful (followed F G)
  unfolding followed
  followed_lawful g =
      record {
        back = λ s l p x o t h k.
            let c = followed_ok x o in
            let m = simp (length-append, ← add_assoc) at h in
            simp length-append
            (followed_back s l p x.0 x.1 _ c.0 (stands_left s p (F.print x.0) ((G x.0).print x.1) t) (omega (arith, m)) k
            ((g x.0).back s l _ x.1 c.1 (stands_right s p (F.print x.0) ((G x.0).print x.1) t) m k) ∙ simp add_assoc);
        forth = followed_forth (λ a. (g a).forth);
        formal = followed_formal (λ a. (g a).formal);
      }

-- ---- a flag, and what follows it

pub nothing_lawful : Lawful nothing
unfolding nothing
nothing_lawful =
    record {
      back = λ s l p x o t h k. rw add-zero;
      forth = λ s l p x q b k h e.
          let i = found_inj e in
          record { ok = record { writable = refl; small = refl }; stands = stands_nil s p; next = omega (arith, i.1); inside = omega (arith, i.1) };
      formal = record { sound = λ pool tape k a j e. refl; laid = λ pool p tape k a r t h u m. rw add-zero; steady = λ a p. refl };
    }

pub under_lawful : {A : Type 0} (F : Format A) → Lawful F → (flag : ℕ) → Lawful (under F flag)
unfolding under
under_lawful F u zero = nothing_lawful
under_lawful F u (suc n) = u

-- ---- other names

pub view_lawful : {A B : Type 0} (f : A → B) (g : B → A) (F : Format A) → ((a : A) → g (f a) ≡ a) → ((b : B) → f (g b) ≡ b) → Lawful F → Lawful (view f g F)
unfolding view
view_lawful {A} {B} f g F gf fg u =
    record {
      back = λ s l p b o t h k.
          let one = u.back s l p (g b) (record { writable = o.writable; small = o.small }) t h k in
          rw (one, fg b);
      forth = λ s l p b q y k h e.
          let i = and_then_found (F.parse s l p) _ b q e in
          let v = u.forth s l p i.0 i.1 y k h i.2 in
          moved (view f g F) s l p (found_inj i.3)
          (let w : Found F s l p (g (f i.0)) i.1 = rw gf v in
          record { ok = record { writable = w.ok.writable; small = w.ok.small }; stands = w.stands; next = w.next; inside = w.inside });
      formal = record {
        sound = λ pool tape k b j e.
            let i = and_then_found (F.form pool tape k) _ b j e in
            ap (λ x. F.writable (g x)) (sym (found_inj i.3).0) ∙ ap F.writable (gf i.0)
            ∙ u.formal.sound pool tape k i.0 i.1 i.2;
        laid = λ pool p tape k b r t h v m. rw (u.formal.laid pool p tape k (g b) r t h v m, fg b);
        steady = λ b. u.formal.steady (g b);
      };
    }

-- ---- what fills its part

pub rest_filling : Filling rest
unfolding rest
rest_filling =
    record {
      back = λ s l p xs o t h k.
          let n : l - p ≡ length xs = omega arith in
          rw (n, taken s p xs t);
      forth = λ s l p xs q b k h e.
          moved rest s l p (found_inj e)
          record {
            ok = record { writable = refl; small = refl };
            stands = stands_take s p (l - p);
            next = rw (length-take-le (l - p) (drop p s) (simp length-drop (omega arith))) (omega arith);
            inside = le_refl l;
          };
      ends = λ s l p xs q b k h e. sym (found_inj e).1;
      formal = record {
        sound = λ pool tape k xs j e. refl;
        laid = λ pool p tape k xs r t h u m. span_laid pool tape k p xs t h u m;
        steady = λ xs p. refl;
      };
    }

pub exact_filling : {A : Type 0} (left_over : ℕ → Refusal) (F : Format A) → Lawful F → Filling (exact left_over F)
unfolding exact
exact_filling left_over F f =
    record {
      back = λ s l p a o t h k.
          let one = f.back s l p a (record { writable = o.writable; small = o.small }) t (le_of_eq h) k in
          rw (one, h, le-leb l l (le_refl l));
      forth = λ s l p a q b k h e.
          let i = and_then_found (F.parse s l p) _ a q e in
          let j = need_found (leb l i.1) (left_over i.1) _ a q i.3 in
          let u = f.forth s l p i.0 i.1 b k h i.2 in
          moved (exact left_over F) s l p (found_inj j.1)
          record { ok = record { writable = u.ok.writable; small = u.ok.small }; stands = u.stands; next = u.next; inside = u.inside };
      ends = λ s l p a q b k h e.
          let i = and_then_found (F.parse s l p) _ a q e in
          let j = need_found (leb l i.1) (left_over i.1) _ a q i.3 in
          let u = f.forth s l p i.0 i.1 b k h i.2 in
          omega (arith, leb-true l i.1 j.0, u.inside, (found_inj j.1).1);
      formal = record { sound = f.formal.sound; laid = f.formal.laid; steady = f.formal.steady };
    }

-- ---- counted parts

-- a length that can count the parts of F: small ones fit its field, none of F's is refused, and those accepted are small
pub record Counts {A : Type 0} (L : Length) (F : Format A) : Type 0 where
  pub lawful : Lawful L.field
  pub holds : (n : ℕ) → n < L.limit → Proper L.field n
  pub accepts : (a : A) (p : ℕ) → Proper F a → length (F.print a) < L.limit → L.fault (length (F.print a)) p ≡ fine
  pub limits : (n p : ℕ) → Proper L.field n → L.fault n p ≡ fine → n < L.limit

module _ {A : Type 0} (L : Length) (F : Format A) (c : Counts L F) (f : Filling F) where
  counted_ok : (a : A) → Proper (counted L F) a → Proper F a × (length (F.print a) < L.limit)
  unfolding counted
  counted_ok a o =
      let m = neither (not (ltb (length (F.print a)) L.limit)) (F.too_large a) o.small in
      (record { writable = o.writable; small = m.1 }, ltb-true (length (F.print a)) L.limit (not-false (ltb (length (F.print a)) L.limit) m.0))

  counted_back : (s : List ℕ) (l p : ℕ) (a : A) → Proper F a → length (F.print a) < L.limit
      → Stands s p (L.field.print (length (F.print a)) ++ F.print a)
      → p + length (L.field.print (length (F.print a))) + length (F.print a) ≤ l → l ≤ length s
      → (counted L F).parse s l p ≡ found a (p + length (L.field.print (length (F.print a))) + length (F.print a))
  unfolding counted
  counted_back s l p a o m t h k =
      let n = length (F.print a) in
      let q = p + length (L.field.print n) in
      let one = c.lawful.back s l p n (c.holds n m) (stands_left s p (L.field.print n) (F.print a) t) (omega arith) k in
      let more = f.back s (q + n) q a o (stands_right s p (L.field.print n) (F.print a) t) refl (omega arith) in
      rw (one, mod-eq_of_lt m) (within_there s l p (q + n) _ h k ∙ rw (c.accepts a p o m, more))

  counted_forth : Forth (counted L F)
  unfolding counted
  counted_forth s l p a q b k h e =
      let i = and_then_found (L.field.parse s l p) _ a q e in
      let n = i.0 in
      let r = i.1 in
      let g = within_found s l p (r + n % L.limit) _ a q i.3 in
      let j = judged_found (L.fault n p) _ a q g.2 in
      let v = c.lawful.forth s l p n r b k h i.2 in
      let small = c.limits n p v.ok j.0 in
      let low : n % L.limit ≡ n = mod-eq_of_lt small in
      let w = f.forth s (r + n % L.limit) r a q b g.0 (omega arith) j.1 in
      let z = f.ends s (r + n % L.limit) r a q b g.0 (omega arith) j.1 in
      let same : length (F.print a) ≡ n = omega (arith, w.next, z, low) in
      record {
        ok = record { writable = w.ok.writable; small = rw (same, lt-ltb n L.limit small, w.ok.small) };
        stands = stands_join s p (L.field.print (length (F.print a))) (F.print a) (rw same v.stands) (rw (v.next, ← same) at w.stands);
        next = simp length-append (rw same (omega (arith, v.next, w.next, same)));
        inside = omega (arith, z, g.1);
      }

  pub counted_lawful : Lawful (counted L F)
  unfolding counted
  counted_lawful =
      record {
        back = λ s l p a o t h k.
            let d = counted_ok a o in
            simp length-append (counted_back s l p a d.0 d.1 t (simp (length-append, ← add_assoc) at h) k ∙ simp add_assoc);
        forth = counted_forth;
        formal = record {
          sound = f.formal.sound;
          laid = λ pool p tape k a r t h u m.
              f.formal.laid pool (p + length (L.field.print (length (F.print a)))) tape k a r
              (stands_right pool p (L.field.print (length (F.print a))) (F.print a) t) (simp (length-append, ← add_assoc) at h) u m;
          steady = λ a p. f.formal.steady a (p + length (L.field.print (length (F.print a))))
              ∙ sym (f.formal.steady a (0 + length (L.field.print (length (F.print a)))));
        };
      }

pub length_counts : {A : Type 0} (w : ℕ) (F : Format A) → Counts (length_of w) F
unfolding length_of
length_counts w F =
    record {
      lawful = count_lawful w;
      holds = count_small w;
      accepts = λ a p o h. refl;
      limits = λ n p o h. small_count w n o;
    }

-- where no part of F is shorter, its length is never refused
pub least_counts : {A : Type 0} (w least : ℕ) (F : Format A) → ((a : A) → Proper F a → least ≤ length (F.print a)) → Counts (least_of w least) F
unfolding least_of
least_counts w least F enough =
    record {
      lawful = count_lawful w;
      holds = count_small w;
      accepts = λ a p o h. rw (le-leb least (length (F.print a)) (enough a o));
      limits = λ n p o h. small_count w n o;
    }

pub opaque_lawful : (w : ℕ) → Lawful (opaque w)
opaque_lawful w = counted_lawful (length_of w) rest (length_counts w rest) rest_filling

part_starts : (s : List ℕ) (l w p : ℕ) (xs : List ℕ) (q : ℕ) → (opaque w).parse s l p ≡ found xs q → p ≤ l
unfolding counted length_of count
part_starts s l w p xs q e =
    let i = and_then_found ((count w).parse s l p) _ xs q e in
    let f = within_found s l p (p + w) _ i.0 i.1 i.2 in
    omega (arith, f.1)

-- opaque bytes that were read end after their length and themselves
pub opaque_next : (s : List ℕ) (l : ℕ) → Bytes s → l ≤ length s → (w p : ℕ) (xs : List ℕ) (q : ℕ) → (opaque w).parse s l p ≡ found xs q → q ≡ p + w + length xs
unfolding counted rest length_of count
opaque_next s l b h w p xs q e =
    let z = ((opaque_lawful w).forth s l p xs q b h (part_starts s l w p xs q e) e).next in
    let size : length ((opaque w).print xs) ≡ w + length xs = length-append (bytes_of w (length xs)) xs ∙ ap (λ n. n + length xs) (length_bytes_lem w (length xs)) in
    omega (arith, z, size)

-- 12-bit lengths: what fits ten bits fits the field, and the fault is that it doesn't
pub length12_counts : {A : Type 0} (F : Format A) → Counts length12 F
unfolding length12 reserved
length12_counts F =
    record {
      lawful = reserved_lawful 4 1 (omega arith);
      holds = λ n h. record { writable = lt-ltb n (below 4 1) (omega arith); small = refl };
      accepts = λ a p o h. rw (lt-ltb (length (F.print a)) 1024 h);
      limits = λ n p o h. ltb-true n 1024 (unless_fine (ltb n 1024) (ReservedBitZero p) h);
    }
  where
    unless_fine : (t : Bool) (r : Refusal) → unless t r ≡ fine → t ≡ true
    unless_fine true r h = refl
    unless_fine false r h = absurd (let z : ◌≡◌ {A = ℕ} 0 1 = cc in omega arith)
