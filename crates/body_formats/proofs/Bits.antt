-- Laws of fields of bits and of values in a stated set: what the code's tests make of them, and that they read back what is printed.
use Prim.Native.Nat.{ℕ, zero, suc, ◌+◌, ◌-◌, ◌*◌, ◌/◌, ◌%◌, ◌^◌, ◌≤◌, ◌<◌}
use mathlib.Core.Path.{◌≡◌, refl, sym, ap, ◌∙◌}
use mathlib.Core.List.{List, [], ◌∷◌}
use mathlib.Core.Bool.{Bool, true, false, ◌&&◌, false≢true}
use native.Mathlib.Omega.{arith}
use native.Mathlib.Numerals.{add-one}
use native.Mathlib.Nat.{add-zero, zero-add, one-mul, pow-suc, div-add-mod'}
use lib.ListN.{length, get_or}
use lib.Arith.{digits_div, digits_mod}
use lib.Pow.{pow-add, shl_exact}
use lib.Dec.{ltb, leb}
use borrow.Author.Tests.{ltb-true, le-leb, lt-leb, lt-ltb, eq-eqb, ne_eqb}
use Rattle.ground_choices.proofs.Tests.{both, and_of}
use Rattle.std.specs.Prelude.{if◌then◌else◌, Ok, Err}
use Rattle.ground_refusal.specs.declared.Refusal.{Refusal}
use Rattle.ground_refusal.specs.declared.Refusal.TheVariants.{PastBody, PastPart, OutsideSet, ReservedBitZero}
use Rattle.body_formats.specs.Reading.{Reading, found, refused, and_then, need, unless, is_fine, judged, within}
use Rattle.body_formats.specs.Format.{Format, tape_entry, number_at, count, only, among, number, nibbles, both_among, nibble_among, nibbles_among, below, reserved, bytes, every, bytes_among, rest, length12, counted}
use Rattle.body_formats.specs.Answers.{number_of, part_of, number_among, number_read}
use Rattle.body_formats.proofs.Stand.{Stands, stands_get, stands_next, stands_byte}
use Rattle.body_formats.proofs.Outcomes.{found_inj, not_found, and_then_found, need_found, within_found, within_there}
use Rattle.body_formats.proofs.Classes.{Bytes, Formal, Lawful, moved}
use Rattle.body_formats.proofs.Leaves.{entry_laid, number_below, reserved_found, bytes_lawful}
use Rattle.body_formats.proofs.Parts.{outside_lawful}
use Rattle.body_formats.proofs.Readers.{number_found, number_refused, length_no, length_is}

-- ---- powers of two

-- a shift of 1, which is cut to 64 bits, loses none
pub one_shifted : (n : ℕ) → n ≤ 63 → (1 * 2 ^ n) % 2 ^ 64 ≡ 2 ^ n
one_shifted n h = shl_exact {a = 1} 1 n 64 (omega arith) (omega arith) ∙ one-mul (2 ^ n)

pub bytes_power : (w : ℕ) → 256 ^ w ≡ 2 ^ (8 * w)
bytes_power zero = refl
bytes_power (suc w) =
    let e : 8 * suc w ≡ 8 * w + 8 = omega arith in
    pow-suc 256 w ∙ ap (λ x. x * 256) (bytes_power w) ∙ sym (pow-add 2 (8 * w) 8) ∙ ap (λ n. 2 ^ n) (sym e)

pub below_power : (k w : ℕ) → below k w ≡ 2 ^ (8 * w + (8 - k))
below_power k w = ap (λ x. x * 2 ^ (8 - k)) (bytes_power w) ∙ sym (pow-add 2 (8 * w) (8 - k))

-- ---- k reserved bits and a number in w + 1 bytes

one_byte : (s : List ℕ) (p : ℕ) → number_at s p 1 ≡ get_or s p 0
unfolding number_at
one_byte s p = rw (add-zero, zero-add)

-- what passes an end is refused, whatever it is
pub within_refused : {A B : Type 0} (s : List ℕ) (l at end : ℕ) (a : A) (q : ℕ) (r : Refusal) (x : Reading B)
    → within s l at end (found a q) ≡ refused r → within s l at end x ≡ refused r
within_refused {A} {B} s l at end a q r x e = go (leb end (length s)) (leb end l) e
  where
    go : (t u : Bool) → need t (PastBody at) (need u (PastPart at) (found a q)) ≡ refused r → need t (PastBody at) (need u (PastPart at) x) ≡ refused r
    go true true f = absurd (not_found (sym f))
    go true false f = let z : PastPart at ≡ r = cc in ap refused z
    go false u f = let z : PastBody at ≡ r = cc in ap refused z

module _ (s : List ℕ) (l p k w : ℕ) where
  pub reserved_no : (r : Refusal) → Err r ≡ number_read 1 s l p → Err r ≡ number_of ((reserved k w).parse s l p)
  unfolding number_read count reserved
  reserved_no r e = ap number_of (sym (within_refused s l p (p + 1) _ _ r _ (number_refused ((count 1).parse s l p) r e)))

  module _ (first q : ℕ) (e : Ok (first, q) ≡ number_read 1 s l p) where
    first_is : (p + 1 ≤ length s) × (p + 1 ≤ l) × (get_or s p 0 ≡ first)
    unfolding number_read count
    first_is =
        let f = within_found s l p (p + 1) _ first q (number_found ((count 1).parse s l p) first q e) in
        (f.0, f.1, sym (one_byte s p) ∙ (found_inj f.2).0)

    pub reserved_zero : (first / 2 ^ (8 - k) ≡ 2 ^ k - 1 → ⊥) → Err (ReservedBitZero p) ≡ number_of ((reserved k w).parse s l p)
    unfolding reserved
    reserved_zero h =
        let f = first_is in
        rw (le-leb (p + 1) (length s) f.0, le-leb (p + 1) l f.1, f.2, ne_eqb (first / 2 ^ (8 - k)) (2 ^ k - 1) h)

    module _ (ones : first / 2 ^ (8 - k) ≡ 2 ^ k - 1) where
      past_bits : (reserved k w).parse s l p ≡ within s l p (p + (w + 1)) (found (number_at s p (w + 1) % 2 ^ (8 * w + (8 - k))) (p + (w + 1)))
      unfolding reserved
      past_bits =
          let f = first_is in
          rw (add-one w, ← below_power k w, le-leb (p + 1) (length s) f.0, le-leb (p + 1) l f.1, f.2, eq-eqb (first / 2 ^ (8 - k)) (2 ^ k - 1) ones)

      pub reserved_past : (r : Refusal) → Err r ≡ number_read (w + 1) s l p → Err r ≡ number_of ((reserved k w).parse s l p)
      unfolding number_read count
      reserved_past r g = ap number_of (sym (past_bits ∙ within_refused s l p (p + (w + 1)) _ _ r _ (number_refused ((count (w + 1)).parse s l p) r g)))

      pub reserved_is : (v end : ℕ) → Ok (v, end) ≡ number_read (w + 1) s l p → Ok (v % 2 ^ (8 * w + (8 - k)), end) ≡ number_of ((reserved k w).parse s l p)
      unfolding number_read count
      reserved_is v end g =
          let f = within_found s l p (p + (w + 1)) _ v end (number_found ((count (w + 1)).parse s l p) v end g) in
          let i = found_inj f.2 in
          rw (past_bits, le-leb (p + (w + 1)) (length s) f.0, le-leb (p + (w + 1)) l f.1, i.0, i.1)

-- ---- a part after a 12-bit length

pub reserved_inside : (s : List ℕ) (l p k w n q : ℕ) → Ok (n, q) ≡ number_of ((reserved k w).parse s l p) → q ≤ length s
unfolding reserved
reserved_inside s l p k w n q e =
    let f = within_found s l p (p + suc w) _ n q (reserved_found k s l p _ n q (number_found ((reserved k w).parse s l p) n q e)).1 in
    rw (← (found_inj f.2).1) f.0

module _ (s : List ℕ) (l p : ℕ) where
  pub part12_no : (r : Refusal) → Err r ≡ number_of ((reserved 4 1).parse s l p) → Err r ≡ part_of ((counted length12 rest).parse s l p)
  unfolding length12
  part12_no r e = length_no length12 s l p r e

  pub part12_is : (n q : ℕ) → Ok (n, q) ≡ number_of ((reserved 4 1).parse s l p)
      → part_of (within s l p (q + n % 1024) (judged (unless (ltb n 1024) (ReservedBitZero p)) (rest.parse s (q + n % 1024) q)))
      ≡ part_of ((counted length12 rest).parse s l p)
  unfolding length12
  part12_is n q e = length_is length12 s l p n (n % 1024) q e refl

-- ---- a number of a stated set

module _ (lo hi p v q : ℕ) where
  pub among_less : v < lo → Err (OutsideSet p) ≡ number_among lo hi p (Ok (v, q))
  among_less h = rw (lt-leb lo v h)

  pub among_more : lo ≤ v → hi < v → Err (OutsideSet p) ≡ number_among lo hi p (Ok (v, q))
  among_more h k = rw (le-leb lo v h, lt-leb v hi k)

  pub among_is : lo ≤ v → v ≤ hi → Ok (v, q) ≡ number_among lo hi p (Ok (v, q))
  among_is h k = rw (le-leb lo v h, le-leb v hi k)

pub number_among_lem : (lo hi : ℕ) (F : Format ℕ) (s : List ℕ) (l p : ℕ) → number_among lo hi p (number_of (F.parse s l p)) ≡ number_of ((among lo hi F).parse s l p)
unfolding only
number_among_lem lo hi F s l p = go (F.parse s l p)
  where
    go : (x : Reading ℕ) → number_among lo hi p (number_of x) ≡ number_of (and_then x (λ v q. judged (unless (leb lo v && leb v hi) (OutsideSet p)) (found v q)))
    go (refused r) = refl
    go (found v q) = choose (leb lo v && leb v hi)
      where
        choose : (t : Bool) → (if t then Ok (v, q) else Err (OutsideSet p)) ≡ number_of (judged (unless t (OutsideSet p)) (found v q))
        choose true = refl
        choose false = refl

-- a number of w bytes is never refused for its value
pub number_parses : (w : ℕ) (s : List ℕ) (l p : ℕ) → Bytes s → (count w).parse s l p ≡ (number w).parse s l p
unfolding number only count
number_parses w s l p b = go (leb (p + w) (length s)) (leb (p + w) l)
  where
    value : Reading ℕ
    value = found (number_at s p w) (p + w)

    go : (t u : Bool) → need t (PastBody p) (need u (PastPart p) value)
        ≡ and_then (need t (PastBody p) (need u (PastPart p) value)) (λ x q. judged (unless (ltb x (256 ^ w)) (OutsideSet p)) (found x q))
    go true true = rw (lt-ltb (number_at s p w) (256 ^ w) (number_below s p w b))
    go true false = refl
    go false u = refl

pub number_is_count : (w : ℕ) (s : List ℕ) (l p : ℕ) → Bytes s → number_read w s l p ≡ number_of ((number w).parse s l p)
unfolding number_read
number_is_count w s l p b = ap number_of (number_parses w s l p b)

-- ---- two numbers of four bits, in one byte

pub nibbles_lawful : Lawful nibbles
unfolding nibbles
nibbles_lawful =
    record {
      back = λ s l p x o t h k.
          let c = both (ltb x.0 16) (ltb x.1 16) o.writable in
          let low = ltb-true x.1 16 c.1 in
          within_there s l p (p + 1) _ h k ∙ rw (stands_get s p (x.0 * 16 + x.1) [] t, digits_div x.0 low, digits_mod x.0 low);
      forth = λ s l p x q b k h e.
          let f = within_found s l p (p + 1) _ x q e in
          let y = get_or s p 0 in
          moved nibbles s l p (found_inj f.2)
          record {
            ok = record { writable = and_of (lt-ltb (y / 16) 16 (omega (arith, b p))) (lt-ltb (y % 16) 16 (omega arith)); small = refl };
            stands = rw (div-add-mod' y 16) (stands_byte s p (omega (arith, f.0)));
            next = refl;
            inside = f.1;
          };
      formal = record {
        sound = λ pool tape k x j e.
            let a = and_then_found (tape_entry tape k) _ x j e in
            let f = need_found (ltb a.0 16) (OutsideSet k) _ x j a.3 in
            let c = and_then_found (tape_entry tape a.1) _ x j f.1 in
            let g = need_found (ltb c.0 16) (OutsideSet a.1) _ x j c.3 in
            rw (← (found_inj g.1).0) (and_of f.0 g.0);
        laid = λ pool p tape k x r t h u m.
            let c = both (ltb x.0 16) (ltb x.1 16) r in
            let one = entry_laid tape k x.0 (x.1 ∷ []) u (omega (arith, m)) in
            let two = entry_laid tape (k + 1) x.1 [] (stands_next tape k x.0 (x.1 ∷ []) u) (omega (arith, m)) in
            let j : k + 1 + 1 ≡ k + 2 = omega arith in
            rw (one, c.0, two, c.1, j);
        steady = λ x p. refl;
      };
    }

-- ---- a stated set keeps the laws

module _ (lo hi : ℕ) where
  both_among_lem : Lawful (both_among lo hi)
  both_among_lem = outside_lawful (λ x. (leb lo x.0 && leb x.0 hi) && (leb lo x.1 && leb x.1 hi)) nibbles nibbles_lawful

  -- one on a tape
  nibble_found : (tape : List ℕ) (k x j : ℕ) → nibble_among lo hi tape k ≡ found x j → (ltb x 16 ≡ true) × ((leb lo x && leb x hi) ≡ true)
  nibble_found tape k x j e =
      let a = and_then_found (tape_entry tape k) _ x j e in
      let f = need_found (ltb a.0 16 && (leb lo a.0 && leb a.0 hi)) (OutsideSet k) _ x j a.3 in
      rw (← (found_inj f.1).0) (both _ _ f.0)

  nibble_laid : (tape : List ℕ) (k x : ℕ) (xs : List ℕ) → Stands tape k (x ∷ xs) → k + 1 ≤ length tape → ltb x 16 ≡ true → (leb lo x && leb x hi) ≡ true
      → nibble_among lo hi tape k ≡ found x (k + 1)
  nibble_laid tape k x xs t h small inside = rw (entry_laid tape k x xs t h, small, inside)

  nibbles_formal : Formal (nibbles_among lo hi)
  unfolding only nibbles
  nibbles_formal =
      record {
        sound = λ pool tape k x j e.
            let a = and_then_found (nibble_among lo hi tape k) _ x j e in
            let c = and_then_found (nibble_among lo hi tape a.1) _ x j a.3 in
            let f = nibble_found tape k a.0 a.1 a.2 in
            let g = nibble_found tape a.1 c.0 c.1 c.2 in
            rw (← (found_inj c.3).0, f.0, g.0, f.1, g.1);
        laid = λ pool p tape k x r t h u m.
            let w = both (ltb x.0 16 && ltb x.1 16) _ r in
            let small = both (ltb x.0 16) (ltb x.1 16) w.0 in
            let inside = both (leb lo x.0 && leb x.0 hi) (leb lo x.1 && leb x.1 hi) (fine_test _ w.1) in
            let one = nibble_laid tape k x.0 (x.1 ∷ []) u (omega (arith, m)) small.0 inside.0 in
            let next = stands_next tape k x.0 (x.1 ∷ []) u in
            let two = nibble_laid tape (k + 1) x.1 [] next (omega (arith, m)) small.1 inside.1 in
            let j : k + 1 + 1 ≡ k + 2 = omega arith in
            rw (one, two, j);
        steady = λ x p. refl;
      }
    where
      fine_test : (b : Bool) → is_fine (unless b (OutsideSet 0)) ≡ true → b ≡ true
      fine_test true e = refl
      fine_test false e = absurd (false≢true e)

  pub nibbles_among_lawful : Lawful (nibbles_among lo hi)
  nibbles_among_lawful =
      record {
        back = λ s l p x o t h k. both_among_lem.back s l p x (record { writable = o.writable; small = o.small }) t h k;
        forth = λ s l p x q b k h e.
            let v = both_among_lem.forth s l p x q b k h e in
            record {
              ok = record { writable = v.ok.writable; small = v.ok.small };
              stands = v.stands;
              next = v.next;
              inside = v.inside;
            };
        formal = nibbles_formal;
      }

pub among_lawful : (lo hi : ℕ) (F : Format ℕ) → Lawful F → Lawful (among lo hi F)
among_lawful lo hi F f = outside_lawful (λ x. leb lo x && leb x hi) F f

pub bytes_among_lawful : (lo hi n : ℕ) → Lawful (bytes_among lo hi n)
bytes_among_lawful lo hi n = outside_lawful (every (λ x. leb lo x && leb x hi)) (bytes n) (bytes_lawful n)
