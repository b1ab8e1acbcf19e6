-- The laws of lists: after a count, and to the end of a part.
use Prim.Native.Nat.{ℕ, zero, suc, ◌+◌, ◌-◌, ◌≤◌, ◌<◌}
use mathlib.Core.Path.{◌≡◌, refl, ap, ◌∙◌, subst₂}
use mathlib.Core.List.{List, [], ◌∷◌, ◌++◌}
use mathlib.Core.Bool.{true, false}
use native.Mathlib.Omega.{arith}
use native.Mathlib.Nat.{add-zero, add_assoc, le_refl}
use lib.ListN.{length, length-append}
use lib.Dec.{leb}
use borrow.Author.Tests.{leb-true, le-leb, lt-leb}
use Rattle.ground_choices.proofs.Tests.{both, and_of}
use Rattle.ground_refusal.specs.declared.Refusal.TheVariants.{PastPart}
use Rattle.body_formats.specs.Reading.{found}
use Rattle.body_formats.specs.Format.{Format, tape_entry, repeat, print_all, every, some, tape_all, list_of, parse_many, many}
use Rattle.body_formats.proofs.Stand.{Stands, stands_nil, stands_left, stands_right, stands_join, stands_next}
use Rattle.body_formats.proofs.Outcomes.{found_inj, and_then_found, need_found, neither, chosen}
use Rattle.body_formats.proofs.Classes.{Bytes, Proper, Found, Forth, Formal, Lawful, Filling}
use Rattle.body_formats.proofs.Leaves.{entry_laid}

-- n well-formed things stand one after the other at p, up to q, in the part that ends at l
pub record FoundAll {A : Type 0} (F : Format A) (s : List ℕ) (l p n : ℕ) (xs : List A) (q : ℕ) : Type 0 where
  pub many : length xs ≡ n
  pub writable : every F.writable xs ≡ true
  pub small : some F.too_large xs ≡ false
  pub stands : Stands s p (print_all F.print xs)
  pub next : q ≡ p + length (print_all F.print xs)
  pub inside : q ≤ l

moved_all : {A : Type 0} (F : Format A) (s : List ℕ) (l p n : ℕ) {a b : List A} {q r : ℕ} → (a ≡ b) × (q ≡ r) → FoundAll F s l p n a q → FoundAll F s l p n b r
moved_all {A} F s l p n e f = subst₂ (λ (x : List A) (k : ℕ). FoundAll F s l p n x k) e.0 e.1 f

module _ {A : Type 0} (F : Format A) (f : Lawful F) where
  -- ---- n things

  repeat_back : (s : List ℕ) (l p : ℕ) (xs : List A) → every F.writable xs ≡ true → some F.too_large xs ≡ false → Stands s p (print_all F.print xs)
      → p + length (print_all F.print xs) ≤ l → l ≤ length s → repeat (F.parse s l) (length xs) p ≡ found xs (p + length (print_all F.print xs))
  unfolding every some print_all repeat
  repeat_back s l p [] r m t h k = rw add-zero
  repeat_back s l p (x ∷ xs) r m t h k =
      let r2 = both (F.writable x) (every F.writable xs) r in
      let m2 = neither (F.too_large x) (some F.too_large xs) m in
      let h2 = simp (length-append, ← add_assoc) at h in
      let one = f.back s l p x (record { writable = r2.0; small = m2.0 }) (stands_left s p (F.print x) (print_all F.print xs) t) (omega (arith, h2)) k in
      let more = repeat_back s l (p + length (F.print x)) xs r2.1 m2.1 (stands_right s p (F.print x) (print_all F.print xs) t) h2 k in
      simp length-append (rw (one, more) (simp add_assoc))

  found_cons : (s : List ℕ) (l p n : ℕ) (x : A) (q : ℕ) (xs : List A) (r : ℕ) → Found F s l p x q → FoundAll F s l q n xs r → FoundAll F s l p (suc n) (x ∷ xs) r
  unfolding every some print_all
  found_cons s l p n x q xs r u v =
      record {
        many = ap suc v.many;
        writable = and_of u.ok.writable v.writable;
        small = rw (u.ok.small, v.small);
        stands = stands_join s p (F.print x) (print_all F.print xs) u.stands (rw u.next at v.stands);
        next = simp length-append (omega (arith, u.next, v.next));
        inside = v.inside;
      }

  found_nil : (s : List ℕ) (l p : ℕ) → p ≤ l → FoundAll F s l p 0 [] p
  unfolding every some print_all
  found_nil s l p h = record { many = refl; writable = refl; small = refl; stands = stands_nil s p; next = omega arith; inside = h }

  repeat_forth : (n : ℕ) (s : List ℕ) (l p : ℕ) (xs : List A) (q : ℕ) → Bytes s → l ≤ length s → p ≤ l
      → repeat (F.parse s l) n p ≡ found xs q → FoundAll F s l p n xs q
  unfolding repeat
  repeat_forth zero s l p xs q b k h e = moved_all F s l p 0 (found_inj e) (found_nil s l p h)
  repeat_forth (suc n) s l p xs q b k h e =
      let i = and_then_found (F.parse s l p) _ xs q e in
      let j = and_then_found (repeat (F.parse s l) n i.1) _ xs q i.3 in
      let u = f.forth s l p i.0 i.1 b k h i.2 in
      let v = repeat_forth n s l i.1 j.0 j.1 b k u.inside j.2 in
      moved_all F s l p (suc n) (found_inj j.3) (found_cons s l p n i.0 i.1 j.0 j.1 u v)

  repeat_sound : (pool tape : List ℕ) (n k : ℕ) (xs : List A) (j : ℕ) → repeat (F.form pool tape) n k ≡ found xs j
      → (every F.writable xs ≡ true) × (length xs ≡ n)
  unfolding repeat every
  repeat_sound pool tape zero k xs j e = rw (← (found_inj e).0) (refl, refl)
  repeat_sound pool tape (suc n) k xs j e =
      let i = and_then_found (F.form pool tape k) _ xs j e in
      let h = and_then_found (repeat (F.form pool tape) n i.1) _ xs j i.3 in
      let v = repeat_sound pool tape n i.1 h.0 h.1 h.2 in
      rw (← (found_inj h.3).0) (and_of (f.formal.sound pool tape k i.0 i.1 i.2) v.0, ap suc v.1)

  repeat_laid : (pool : List ℕ) (p : ℕ) (tape : List ℕ) (k : ℕ) (xs : List A) → every F.writable xs ≡ true
      → Stands pool p (print_all F.print xs) → p + length (print_all F.print xs) ≤ length pool
      → Stands tape k (tape_all F xs p) → k + length (tape_all F xs p) ≤ length tape
      → repeat (F.form pool tape) (length xs) k ≡ found xs (k + length (tape_all F xs p))
  unfolding every print_all tape_all repeat
  repeat_laid pool p tape k [] r t h u m = rw add-zero
  repeat_laid pool p tape k (x ∷ xs) r t h u m =
      let c = both (F.writable x) (every F.writable xs) r in
      let h2 = simp (length-append, ← add_assoc) at h in
      let m2 = simp (length-append, ← add_assoc) at m in
      let q = p + length (F.print x) in
      let one = f.formal.laid pool p tape k x c.0 (stands_left pool p (F.print x) (print_all F.print xs) t) (omega (arith, h2))
      (stands_left tape k (F.tape x p) (tape_all F xs q) u) (omega (arith, m2)) in
      let more = repeat_laid pool q tape (k + length (F.tape x p)) xs c.1 (stands_right pool p (F.print x) (print_all F.print xs) t) h2
      (stands_right tape k (F.tape x p) (tape_all F xs q) u) m2 in
      simp length-append (rw (one, more) (simp add_assoc))

  pub all_steady : (xs : List A) (p q : ℕ) → length (tape_all F xs p) ≡ length (tape_all F xs q)
  unfolding tape_all
  all_steady [] p q = refl
  all_steady (x ∷ xs) p q =
      let n = length (F.print x) in
      length-append (F.tape x p) (tape_all F xs (p + n))
      ∙ omega (arith, f.formal.steady x p, f.formal.steady x q, all_steady xs (p + n) (q + n), length-append (F.tape x q) (tape_all F xs (q + n)))

  -- ---- after a count

  module _ (C : Format ℕ) (c : Lawful C) where
    list_back : (s : List ℕ) (l p : ℕ) (xs : List A) → Proper (list_of C F) xs → Stands s p (C.print (length xs) ++ print_all F.print xs)
        → p + length (C.print (length xs)) + length (print_all F.print xs) ≤ l → l ≤ length s
        → (list_of C F).parse s l p ≡ found xs (p + length (C.print (length xs)) + length (print_all F.print xs))
    unfolding list_of
    list_back s l p xs o t h k =
        let r = both (C.writable (length xs)) (every F.writable xs) o.writable in
        let m = neither (C.too_large (length xs)) (some F.too_large xs) o.small in
        let ps = print_all F.print xs in
        let one = c.back s l p (length xs) (record { writable = r.0; small = m.0 }) (stands_left s p (C.print (length xs)) ps t) (omega arith) k in
        rw one (repeat_back s l (p + length (C.print (length xs))) xs r.1 m.1 (stands_right s p (C.print (length xs)) ps t) h k)

    list_forth : Forth (list_of C F)
    unfolding list_of
    list_forth s l p xs q b k h e =
        let i = and_then_found (C.parse s l p) _ xs q e in
        let u = c.forth s l p i.0 i.1 b k h i.2 in
        let v = repeat_forth i.0 s l i.1 xs q b k u.inside i.3 in
        record {
          ok = record { writable = rw v.many (and_of u.ok.writable v.writable); small = rw (v.many, u.ok.small, v.small) };
          stands = stands_join s p (C.print (length xs)) (print_all F.print xs) (rw v.many u.stands) (rw (u.next, ← v.many) at v.stands);
          next = simp length-append (rw v.many (omega (arith, u.next, v.next)));
          inside = v.inside;
        }

    list_formal : Formal (list_of C F)
    unfolding list_of
    list_formal =
        record {
          sound = λ pool tape k xs j e.
              let i = and_then_found (C.form pool tape k) _ xs j e in
              let v = repeat_sound pool tape i.0 i.1 xs j i.3 in
              and_of {a = C.writable (length xs)} (rw v.1 (c.formal.sound pool tape k i.0 i.1 i.2)) v.0;
          laid = λ pool p tape k xs r t h u m.
              let n = length xs in
              let d = both (C.writable n) (every F.writable xs) r in
              let h2 = simp (length-append, ← add_assoc) at h in
              let m2 = simp (length-append, ← add_assoc) at m in
              let ts = tape_all F xs (p + length (C.print n)) in
              let one = c.formal.laid pool p tape k n d.0 (stands_left pool p (C.print n) (print_all F.print xs) t) (omega (arith, h2))
              (stands_left tape k (C.tape n p) ts u) (omega (arith, m2)) in
              let more = repeat_laid pool (p + length (C.print n)) tape (k + length (C.tape n p)) xs d.1
              (stands_right pool p (C.print n) (print_all F.print xs) t) h2 (stands_right tape k (C.tape n p) ts u) m2 in
              simp length-append (rw (one, more) (simp add_assoc));
          steady = λ xs p.
              let n = length xs in
              let q = length (C.print n) in
              length-append (C.tape n p) (tape_all F xs (p + q))
              ∙ omega (arith, c.formal.steady n p, all_steady xs (p + q) (0 + q), length-append (C.tape n 0) (tape_all F xs (0 + q)));
        }

    pub list_lawful : Lawful (list_of C F)
    unfolding list_of
    list_lawful =
        record {
          back = λ s l p xs o t h k. simp length-append (list_back s l p xs o t (simp (length-append, ← add_assoc) at h) k ∙ simp add_assoc);
          forth = list_forth;
          formal = list_formal;
        }

  -- ---- to the end of a part: each thing takes a byte at least

  module _ (takes : (a : A) → 0 < length (F.print a)) where
    many_back : (n : ℕ) (s : List ℕ) (l p : ℕ) (xs : List A) → every F.writable xs ≡ true → some F.too_large xs ≡ false → Stands s p (print_all F.print xs)
        → p + length (print_all F.print xs) ≡ l → l ≤ length s → l - p ≤ n → parse_many F n s l p ≡ found xs l
    unfolding every some print_all parse_many
    many_back zero s l p [] r m t h k z = rw (le-leb l p (omega arith)) (ap (found []) (omega arith))
    many_back (suc j) s l p [] r m t h k z = rw (le-leb l p (omega arith)) (ap (found []) (omega arith))
    many_back zero s l p (x ∷ xs) r m t h k z = absurd (omega (arith, takes x, simp length-append at h))
    many_back (suc j) s l p (x ∷ xs) r m t h k z =
        let r2 = both (F.writable x) (every F.writable xs) r in
        let m2 = neither (F.too_large x) (some F.too_large xs) m in
        let h2 = simp (length-append, ← add_assoc) at h in
        let one = f.back s l p x (record { writable = r2.0; small = m2.0 }) (stands_left s p (F.print x) (print_all F.print xs) t) (omega (arith, h2)) k in
        let more = many_back j s l (p + length (F.print x)) xs r2.1 m2.1 (stands_right s p (F.print x) (print_all F.print xs) t) h2 k (omega (arith, takes x, h2)) in
        rw (lt-leb l p (omega (arith, takes x, h2)), one, more)

    none_left : (s : List ℕ) (l p : ℕ) (xs : List A) (q : ℕ) → p ≤ l → l ≤ p → found [] p ≡ found xs q → FoundAll F s l p (length xs) xs q × (q ≡ l)
    none_left s l p xs q h k e =
        let i = found_inj e in
        (subst₂ (λ (x : List A) (m : ℕ). FoundAll F s l p (length x) x m) i.0 i.1 (found_nil s l p h), omega (arith, i.1))

    many_forth : (n : ℕ) (s : List ℕ) (l p : ℕ) (xs : List A) (q : ℕ) → Bytes s → l ≤ length s → p ≤ l → parse_many F n s l p ≡ found xs q
        → FoundAll F s l p (length xs) xs q × (q ≡ l)
    unfolding parse_many
    many_forth zero s l p xs q b k h e =
        let g = need_found (leb l p) (PastPart p) _ xs q e in
        none_left s l p xs q h (leb-true l p g.0) g.1
    many_forth (suc j) s l p xs q b k h e =
        chosen (leb l p) _ _ xs q e _
        (λ t x. none_left s l p xs q h (leb-true l p t) x)
        (λ t x.
        let i = and_then_found (F.parse s l p) _ xs q x in
        let g = and_then_found (parse_many F j s l i.1) _ xs q i.3 in
        let u = f.forth s l p i.0 i.1 b k h i.2 in
        let v = many_forth j s l i.1 g.0 g.1 b k u.inside g.2 in
        let z = found_inj g.3 in
        (subst₂ (λ (y : List A) (m : ℕ). FoundAll F s l p (length y) y m) z.0 z.1 (found_cons s l p (length g.0) i.0 i.1 g.0 g.1 u v.0), omega (arith, v.1)))

    pub many_filling : Filling (many F)
    unfolding many
    many_filling =
        record {
          back = λ s l p xs o t h k. many_back (l - p) s l p xs o.writable o.small t h k (le_refl (l - p));
          forth = λ s l p xs q b k h e.
              let v = (many_forth (l - p) s l p xs q b k h e).0 in
              record { ok = record { writable = v.writable; small = v.small }; stands = v.stands; next = v.next; inside = v.inside };
          ends = λ s l p xs q b k h e. (many_forth (l - p) s l p xs q b k h e).1;
          formal = record {
            sound = λ pool tape k xs j e.
                let i = and_then_found (tape_entry tape k) _ xs j e in
                (repeat_sound pool tape i.0 i.1 xs j i.3).0;
            laid = λ pool p tape k xs r t h u m.
                let one = entry_laid tape k (length xs) (tape_all F xs p) u (omega arith) in
                let more = repeat_laid pool p tape (k + 1) xs r t h (stands_next tape k (length xs) (tape_all F xs p) u) (omega arith) in
                rw (one, more) (ap (found xs) (omega arith));
            steady = λ xs p. ap suc (all_steady xs p 0);
          };
        }
