-- Laws of what a format finds wherever its part ends: of each kind of field, and of fields put together.
use Prim.Native.Nat.{ℕ, suc, ◌+◌, ◌-◌, ◌*◌, ◌/◌, ◌%◌, ◌^◌, ◌≤◌, ◌<◌}
use Rattle.std.specs.Prelude.{Ok}
use mathlib.Core.Path.{◌≡◌, refl, ◌∙◌}
use mathlib.Core.List.{List}
use mathlib.Core.Bool.{Bool, true, false, ◌&&◌}
use native.Mathlib.Omega.{arith}
use native.Mathlib.Nat.{le_refl, add-zero, mod-eq_of_lt}
use lib.ListN.{length, get_or, take, drop}
use lib.Dec.{leb, eqb}
use borrow.Author.Tests.{le-leb, lt-ltb, eq-eqb}
use Rattle.ground_refusal.specs.declared.Refusal.{Refusal}
use Rattle.ground_refusal.specs.declared.Refusal.TheVariants.{OtherKind, TooLarge}
use Rattle.ground_numbers.specs.Sizes.{body_most}
use Rattle.body_formats.specs.Reading.{need, Fault, fine}
use Rattle.body_formats.specs.Format.{Format, only, followed, ◌▷◌, nothing, under, view, exact, number_at, count, number, nibbles_among, nibbles, below, reserved, bytes, every, bytes_among, halves, tail, decimal, digits, rest, Length, length_of, least_of, length12, counted, opaque}
use Rattle.body_formats.specs.Answers.{step_of}
use Rattle.body_formats.specs.Body.{reading, body_read, opened}
use Rattle.body_formats.proofs.Classes.{Bytes}
use Rattle.body_formats.proofs.Outcomes.{within_there}
use Rattle.body_formats.proofs.Leaves.{number_below}
use Rattle.body_glance.specs.Glance.{Reads, Fills}

-- ---- put together

module _ {A : Type 0} {F : Format A} {s : List ℕ} {p : ℕ} {a : A} {q : ℕ} where
  -- of a stated set
  pub reads_only : (fault : A → ℕ → Fault) → fault a p ≡ fine → Reads F s p a q → Reads (only fault F) s p a q
  unfolding only
  reads_only fault e r = record { forward = r.forward; here = λ l h k. rw (r.here l h k, e) }

  -- one after the other
  pub reads_followed : {B : A → Type 0} (G : (a : A) → Format (B a)) {b : B a} {t : ℕ} → Reads F s p a q → Reads (G a) s q b t
      → Reads (followed F G) s p (a, b) t
  unfolding followed
  reads_followed G r g =
      record { forward = omega (arith, r.forward, g.forward); here = λ l h k. rw (r.here l (omega (arith, g.forward)) k, g.here l h k) }

  pub reads_pair : {B : Type 0} {G : Format B} {b : B} {t : ℕ} → Reads F s p a q → Reads G s q b t → Reads (F ▷ G) s p (a, b) t
  reads_pair {G} r g = reads_followed (λ a. G) r g

  -- under other names
  pub reads_view : {B : Type 0} (f : A → B) (g : B → A) → Reads F s p a q → Reads (view f g F) s p (f a) q
  unfolding view
  reads_view f g r = record { forward = r.forward; here = λ l h k. rw (r.here l h k) }

  -- to the end of the part, with no byte left
  pub fills_exact : (left_over : ℕ → Refusal) → q ≤ length s → Reads F s p a q → Fills (exact left_over F) s q p a
  unfolding exact
  fills_exact left_over k r = record { whole = rw (r.here q (le_refl q) k, le-leb q q (le_refl q)) }

  -- where the end is known by another name
  pub reads_to : {t : ℕ} → q ≡ t → Reads F s p a q → Reads F s p a t
  reads_to e r = rw e at r

  -- what its flag says is there
  pub reads_on : (flag : ℕ) → Reads F s p a q → Reads (under F (suc flag)) s p a q
  unfolding under
  reads_on flag r = r

pub reads_off : {A : Type 0} (F : Format A) (s : List ℕ) (p : ℕ) → Reads (under F 0) s p tt p
unfolding under nothing
reads_off F s p = record { forward = le_refl p; here = λ l h k. refl }

-- ---- numbers

-- of one byte
pub one_byte : (s : List ℕ) (p : ℕ) → number_at s p 1 ≡ get_or s p 0
unfolding number_at
one_byte s p = rw add-zero (omega arith)

module _ (s : List ℕ) (p w : ℕ) where
  pub reads_count : Reads (count w) s p (number_at s p w) (p + w)
  unfolding count
  reads_count = record { forward = omega arith; here = λ l h k. within_there s l p (p + w) _ h k }

  pub reads_number : Bytes s → Reads (number w) s p (number_at s p w) (p + w)
  unfolding number
  reads_number b = reads_only _ (rw (lt-ltb (number_at s p w) (256 ^ w) (number_below s p w b))) reads_count

  -- after k reserved bits
  pub reads_reserved : (k : ℕ) → get_or s p 0 / 2 ^ (8 - k) ≡ 2 ^ k - 1 → Reads (reserved k w) s p (number_at s p (suc w) % below k w) (p + suc w)
  unfolding reserved
  reads_reserved k e =
      record {
        forward = omega arith;
        here = λ l h m.
            within_there s l p (p + 1) _ (omega arith) m
            ∙ rw (eq-eqb (get_or s p 0 / 2 ^ (8 - k)) (2 ^ k - 1) e) (within_there s l p (p + suc w) _ h m);
      }

-- two numbers of four bits in one byte, each from lo to hi
pub reads_nibbles : (s : List ℕ) (p lo hi : ℕ) → lo ≤ get_or s p 0 / 16 → get_or s p 0 / 16 ≤ hi → lo ≤ get_or s p 0 % 16 → get_or s p 0 % 16 ≤ hi
    → Reads (nibbles_among lo hi) s p (get_or s p 0 / 16, get_or s p 0 % 16) (p + 1)
unfolding only nibbles
reads_nibbles s p lo hi a b c d =
    record {
      forward = omega arith;
      here = λ l h k.
          rw (within_there s l p (p + 1) _ h k, le-leb lo (get_or s p 0 / 16) a, le-leb (get_or s p 0 / 16) hi b, le-leb lo (get_or s p 0 % 16) c, le-leb (get_or s p 0 % 16) hi d);
    }

-- ---- several bytes that are one field

module _ (s : List ℕ) (p n : ℕ) where
  pub reads_bytes : Reads (bytes n) s p (take n (drop p s)) (p + n)
  unfolding bytes
  reads_bytes = record { forward = omega arith; here = λ l h k. within_there s l p (p + n) _ h k }

  pub reads_among : (lo hi : ℕ) → every (λ x. leb lo x && leb x hi) (take n (drop p s)) ≡ true → Reads (bytes_among lo hi n) s p (take n (drop p s)) (p + n)
  reads_among lo hi e = reads_only _ (rw e) reads_bytes

-- 2 h + 1 digits, after four reserved bits
pub reads_digits : (s : List ℕ) (p h : ℕ) → get_or s p 0 / 16 ≡ 15 → decimal (tail (halves (take (suc h) (drop p s)))) ≡ true
    → Reads (digits h) s p (tail (halves (take (suc h) (drop p s)))) (p + suc h)
unfolding digits
reads_digits s p h e d =
    record {
      forward = omega arith;
      here = λ l k m.
          within_there s l p (p + 1) _ (omega arith) m
          ∙ rw (eq-eqb (get_or s p 0 / 16) 15 e) (within_there s l p (p + suc h) _ k m ∙ rw d);
    }

-- ---- counted parts

-- a length, and what fills the part that it counts
pub reads_counted : {A : Type 0} (L : Length) {F : Format A} {s : List ℕ} {p n q m : ℕ} {a : A} → n % L.limit ≡ m → L.fault n p ≡ fine
    → Reads L.field s p n q → Fills F s (q + m) q a → Reads (counted L F) s p a (q + m)
unfolding counted
reads_counted L {F} {s} {p} {n} {q} {m} e f r g =
    record {
      forward = omega (arith, r.forward);
      here = λ l h k. rw (r.here l (omega arith) k, e, f) (within_there s l p (q + m) _ h k ∙ g.whole);
    }

module _ (s : List ℕ) (p w : ℕ) (b : Bytes s) where
  -- by a length of w bytes
  pub reads_part : {A : Type 0} {F : Format A} {a : A} → Fills F s (p + w + number_at s p w) (p + w) a
      → Reads (counted (length_of w) F) s p a (p + w + number_at s p w)
  unfolding length_of
  reads_part g = reads_counted (length_of w) (mod-eq_of_lt (number_below s p w b)) refl (reads_count s p w) g

  -- opaque bytes
  pub reads_opaque : (xs : List ℕ) × Reads (opaque w) s p xs (p + w + number_at s p w)
  unfolding rest
  reads_opaque = (_, reads_part {F = rest} (record { whole = refl }))

  -- by a length of w bytes that counts so many at least
  pub reads_least : {A : Type 0} {F : Format A} {a : A} (least : ℕ) → least ≤ number_at s p w → Fills F s (p + w + number_at s p w) (p + w) a
      → Reads (counted (least_of w least) F) s p a (p + w + number_at s p w)
  unfolding least_of
  reads_least least h g =
      reads_counted (least_of w least) (mod-eq_of_lt (number_below s p w b)) (rw (le-leb least (number_at s p w) h)) (reads_count s p w) g

-- by a 12-bit length below four reserved bits, of which the low ten count and the two above them are 0
pub reads_part12 : (s : List ℕ) (p m : ℕ) → Bytes s → get_or s p 0 * 256 + get_or s (p + 1) 0 ≡ 0xF000 + m → m < 1024
    → {A : Type 0} {F : Format A} {a : A} → Fills F s (p + 2 + m) (p + 2) a → Reads (counted length12 F) s p a (p + 2 + m)
unfolding length12 number_at
reads_part12 s p m b e h g =
    let z : number_at s p 2 % below 4 1 ≡ m = rw add-zero (omega arith) in
    reads_counted length12 (mod-eq_of_lt h) (rw (lt-ltb m 1024 h)) (rw z at (reads_reserved s p 1 4 (omega (arith, b p, b (p + 1))))) g

-- ---- whole bodies

-- what a reader answers, where the body is opened and filled
pub read_filled : {A : Type 0} {F : Format A} (own kind : ℕ) {s : List ℕ} {q : ℕ} → Ok q ≡ opened own kind s → (a : A) × Fills F s (length s) 0 a
    → Ok (length s) ≡ body_read F own kind s
unfolding opened body_read reading nothing
read_filled {F} own kind {s} {q} o g = go (eqb kind own) (leb (length s) body_most) o
  where
    go : (a b : Bool) → Ok q ≡ step_of (need a OtherKind (need b TooLarge (nothing.parse s (length s) 0)))
        → Ok (length s) ≡ step_of (need a OtherKind (need b TooLarge (F.parse s (length s) 0)))
    go true true e = rw g.1.whole
    go true false e = absurd (let z : ◌≡◌ {A = ℕ} 0 1 = cc in omega arith)
    go false b e = absurd (let z : ◌≡◌ {A = ℕ} 0 1 = cc in omega arith)
