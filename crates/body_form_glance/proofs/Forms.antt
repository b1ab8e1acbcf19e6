-- Laws of what a form lays out in so many bytes: each kind of field, and fields put together.
use Prim.Native.Nat.{ℕ, suc, ◌+◌, ◌-◌, ◌*◌, ◌%◌, ◌^◌, ◌≤◌, ◌<◌}
use Rattle.std.specs.Prelude.{Ok}
use mathlib.Core.Path.{◌≡◌, refl, sym, ap, ◌∙◌}
use mathlib.Core.List.{List, ◌∷◌}
use mathlib.Core.Bool.{Bool, true, false, ◌&&◌, false≢true}
use native.Mathlib.Omega.{arith}
use native.Mathlib.Nat.{le_refl}
use lib.ListN.{length, get_or, take, drop, length-append, length-drop}
use lib.Seq.{length-take-le, drop-cons}
use lib.Dec.{leb}
use borrow.Author.Tests.{le-leb, lt-leb, leb-true, leb-false, lt-ltb, eq-eqb}
use Rattle.ground_refusal.specs.declared.Refusal.{Refusal}
use Rattle.ground_numbers.specs.Sizes.{body_most}
use Rattle.body_formats.specs.Reading.{found, Fault, fine}
use Rattle.body_formats.specs.Format.{Format, tape_entry, span, only, among, followed, ◌▷◌, view, exact, count, number, halves, paired, tail, decimal, digits, rest, Length, length_of, counted, opaque}
use Rattle.body_formats.specs.Body.{measuring, measured}
use Rattle.body_formats.proofs.Leaves.{length_bytes_lem, paired_halves}
use Rattle.body_formats.proofs.Strings.{first_digit}
use Rattle.body_form_glance.specs.Lays.{Lays, Told, Seen}
use Rattle.body_form_glance.specs.declared.Sight.{Sight}

-- nothing is told
pub none_seen : {A : Type 0} {F : Format A} {pool tape : List ℕ} {k : ℕ} {r : Sight} → (r.bytes ≡ 0) × (r.entry ≡ 0) → Seen F pool tape k r
none_seen e = record { few = omega (arith, e.0); inside = omega (arith, e.1); good = λ h. absurd (omega (arith, e.1)) }

pub untold : {A : Type 0} {F : Format A} {pool tape : List ℕ} {k j : ℕ} → Told F pool tape k j 0
untold h = absurd (omega arith)

-- no is never yes
pub not_good : {P : Type 0} → false ≡ true → P
not_good e = absurd (false≢true e)

-- ---- put together

module _ {A : Type 0} {F : Format A} {pool tape : List ℕ} {k : ℕ} {a : A} {j n : ℕ} where
  -- of a stated set
  pub lays_only : (fault : A → ℕ → Fault) → fault a k ≡ fine → Lays F pool tape k a j n → Lays (only fault F) pool tape k a j n
  unfolding only
  lays_only fault e l = record { laid = rw (l.laid, e); long = l.long; small = l.small }

  -- one after the other
  pub lays_followed : {B : A → Type 0} (G : (a : A) → Format (B a)) {b : B a} {i m : ℕ} → Lays F pool tape k a j n → Lays (G a) pool tape j b i m
      → Lays (followed F G) pool tape k (a, b) i (n + m)
  unfolding followed
  lays_followed G {b} l g =
      record { laid = rw (l.laid, g.laid); long = rw (length-append, l.long, g.long); small = rw (l.small, g.small) }

  pub lays_pair : {B : Type 0} {G : Format B} {b : B} {i m : ℕ} → Lays F pool tape k a j n → Lays G pool tape j b i m
      → Lays (F ▷ G) pool tape k (a, b) i (n + m)
  lays_pair {G} l g = lays_followed (λ a. G) l g

  -- under other names
  pub lays_view : {B : Type 0} (f : A → B) (g : B → A) → g (f a) ≡ a → Lays F pool tape k a j n → Lays (view f g F) pool tape k (f a) j n
  unfolding view
  lays_view f g e l = record { laid = rw l.laid; long = ap (λ x. length (F.print x)) e ∙ l.long; small = ap F.too_large e ∙ l.small }

  -- to the end of a part: a form has no bytes left
  pub lays_exact : (left_over : ℕ → Refusal) → Lays F pool tape k a j n → Lays (exact left_over F) pool tape k a j n
  unfolding exact
  lays_exact left_over l = record { laid = l.laid; long = l.long; small = l.small }

  -- after a length that prints w bytes
  pub lays_counted : (L : Length) (w : ℕ) → length (L.field.print n) ≡ w → n < L.limit → Lays F pool tape k a j n → Lays (counted L F) pool tape k a j (w + n)
  unfolding counted
  lays_counted L w e h l = record { laid = l.laid; long = rw (length-append, l.long, e); small = rw (l.long, lt-ltb n L.limit h, l.small) }

  -- where the end and the bytes are known by other names
  pub lays_to : {i m : ℕ} → j ≡ i → n ≡ m → Lays F pool tape k a j n → Lays F pool tape k a i m
  lays_to e f l = rw (e, f) at l

-- ---- numbers

module _ {pool tape : List ℕ} {k v : ℕ} (e : v ≡ get_or tape k 0) (h : k < length tape) (w : ℕ) (s : v < 256 ^ w) where
  pub lays_count : Lays (count w) pool tape k v (k + 1) w
  unfolding count tape_entry
  lays_count = record { laid = rw (le-leb (k + 1) (length tape) (omega arith), e); long = length_bytes_lem w v; small = rw (lt-ltb v (256 ^ w) s) }

  pub lays_number : Lays (number w) pool tape k v (k + 1) w
  unfolding number
  lays_number = lays_only _ (rw (lt-ltb v (256 ^ w) s)) lays_count

  pub lays_among : (lo hi : ℕ) → lo ≤ v → v ≤ hi → Lays (among lo hi (number w)) pool tape k v (k + 1) w
  lays_among lo hi from until = lays_only _ (rw (le-leb lo v from, le-leb v hi until)) lays_number

-- ---- bytes of the pool

-- whether a span lies in it: its start is compared first, and then what is left
pub past_start : {a : ℕ} (n l : ℕ) → l < a → false ≡ leb (a + n) l
past_start {a} n l h = sym (lt-leb (a + n) l (omega arith))

pub after_start : (a n l : ℕ) → a ≤ l → leb n (l - a) ≡ leb (a + n) l
after_start a n l h = go (leb n (l - a)) refl
  where
    go : (b : Bool) → leb n (l - a) ≡ b → b ≡ leb (a + n) l
    go true e = sym (le-leb (a + n) l (omega (arith, leb-true n (l - a) e)))
    go false e = sym (lt-leb (a + n) l (omega (arith, leb-false n (l - a) e)))

module _ (pool tape : List ℕ) (k : ℕ) {a n : ℕ} (ea : a ≡ get_or tape k 0) (en : n ≡ get_or tape (k + 1) 0) (h : k + 2 ≤ length tape) (s : a + n ≤ length pool) where
  span_found : span pool tape k ≡ found (take n (drop a pool)) (k + 2)
  unfolding span
  span_found =
      rw (le-leb (k + 2) (length tape) h, ← ea, ← en, le-leb (a + n) (length pool) s)

  pub span_length : length (take n (drop a pool)) ≡ n
  span_length = length-take-le n (drop a pool) (simp length-drop (omega arith))

  pub lays_rest : Lays rest pool tape k (take n (drop a pool)) (k + 2) n
  unfolding rest
  lays_rest = record { laid = span_found; long = span_length; small = refl }

  -- opaque bytes after a length of w
  pub lays_opaque : (w : ℕ) → n < 256 ^ w → Lays (opaque w) pool tape k (take n (drop a pool)) (k + 2) (w + n)
  unfolding length_of count
  lays_opaque w l = lays_counted (length_of w) w (length_bytes_lem w n) l lays_rest

  -- 2 h + 1 digits
  pub lays_digits : (p : ℕ) → n ≡ suc p → get_or pool a 0 % 16 ≤ 9 → decimal (halves (take p (drop (a + 1) pool))) ≡ true
      → Lays (digits p) pool tape k (tail (halves (take n (drop a pool)))) (k + 2) n
  unfolding digits halves paired
  lays_digits p e d t =
      record {
        laid =
            rw (span_found, span_length, eq-eqb n (suc p) e, e, first_digit pool a p (omega arith), lt-ltb (get_or pool a 0 % 16) 10 (omega arith), t);
        long =
            rw (e, drop-cons pool a 0 (omega arith), paired_halves (take p (drop (suc a) pool)))
            (ap suc (length-take-le p (drop (suc a) pool) (simp length-drop (omega arith))));
        small = refl;
      }

-- a part after a length of w bytes, which counts below the limit
pub part_laid : (pool tape : List ℕ) (k w : ℕ) {limit : ℕ} → limit ≡ 256 ^ w → get_or tape (k + 1) 0 < limit → k + 2 ≤ length tape
    → leb (get_or tape k 0 + get_or tape (k + 1) 0) (length pool) ≡ true
    → (a : List ℕ) × Lays (opaque w) pool tape k a (k + 2) (w + get_or tape (k + 1) 0)
part_laid pool tape k w e s h t = (_, lays_opaque pool tape k refl refl h (leb-true _ _ t) w (rw (← e) s))

-- ---- whole forms

-- what a writer measures, where the whole tape lays out a body that is not too long
pub measured_laid : {A : Type 0} (F : Format A) {pool tape : List ℕ} {a : A} {n : ℕ} → n ≤ body_most → Lays F pool tape 0 a (length tape) n
    → Ok n ≡ measured F pool tape
unfolding measured measuring
measured_laid F {pool} {tape} {a} {n} h l =
    rw (l.laid, le-leb (length tape) (length tape) (le_refl (length tape)), l.small, l.long, le-leb n body_most h)
