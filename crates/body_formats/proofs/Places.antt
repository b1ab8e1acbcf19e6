-- Where a refusal stands: a reader's at the body's end at the latest, a form's at the tape's end, a writer's at 0. A law for each way of
-- making a format.
use Prim.Native.Nat.{ℕ, zero, suc, ◌+◌, ◌-◌, ◌/◌, ◌%◌, ◌^◌, ◌≤◌, zero-le}
use Rattle.time_fields.specs.declared.Moment.{Moment}
use mathlib.Core.Path.{◌≡◌, refl}
use mathlib.Core.List.{List, [], ◌∷◌}
use mathlib.Core.Bool.{Bool, true, false, not, ◌&&◌, cond}
use native.Mathlib.Omega.{arith}
use native.Mathlib.Nat.{le_refl, le_of_eq, le_trans}
use lib.ListN.{length, get_or, take, drop}
use lib.Dec.{ltb, leb, eqb}
use borrow.Author.Tests.{leb-true}
use Rattle.std.specs.Prelude.{if◌then◌else◌, Result, Ok, Err, None}
use Rattle.ground_refusal.specs.Numbers.{refusal_place}
use Rattle.ground_refusal.specs.declared.Refusal.{Refusal}
use Rattle.ground_refusal.specs.declared.Refusal.TheVariants.{PastPart, ReservedBitZero, DigitAboveNine, OutsideSet, ImpossibleDay}
use Rattle.ground_refusal.proofs.Numbers.{placeless_is}
use Rattle.time_fields.specs.Field.{read_time, read_end, is_decimal as decimal_field, possible, moment_of, live_mark, as_end}
use Rattle.body_formats.specs.Reading.{Reading, found, refused, and_then, need, Fault, fine, faulty, unless, judged, within}
use Rattle.body_formats.specs.Format.{Format, tape_entry, span, count, only, outside, among, number, nibbles, both_among, nibble_among, nibbles_among, reserved_first, below, reserved, bytes, halves, tail, decimal, digits, followed, nothing, under, view, repeat, every, bytes_among, times, list_of, rest, exact, parse_many, many, Length, length_of, least_of, length12, counted, opaque}
use Rattle.body_formats.specs.Time.{time_fault, end_fault, time, end_time}
use Rattle.body_formats.specs.Resource.{resource_pairs, resource, resources}
use Rattle.body_formats.specs.Answers.{step_of}
use Rattle.ground_numbers.specs.Sizes.{body_most}
use Rattle.body_formats.specs.Body.{reading, body_read, measuring, measured, fitting, writing, body_written, laying, body_laid}

-- ---- readings

-- what is refused stands at `place` at most, and what is found ends at `last` at most
pub data Until {A : Type 0} (place last : ℕ) : Reading A → Type 0 where
  ends : {a : A} {q : ℕ} → q ≤ last → Until place last (found a q)
  stands : {r : Refusal} → refusal_place r ≤ place → Until place last (refused r)

-- what is wrong with a value, if anything, stands at `place` at most
pub data FaultUntil (place : ℕ) : Fault → Type 0 where
  none : FaultUntil place fine
  stands : {r : Refusal} → refusal_place r ≤ place → FaultUntil place (faulty r)

pub unless_until : {place : ℕ} (t : Bool) (r : Refusal) → refusal_place r ≤ place → FaultUntil place (unless t r)
unless_until true r h = none
unless_until false r h = stands h

pub then_until : {A B : Type 0} {place last last' : ℕ} (x : Reading A) (k : A → ℕ → Reading B) → Until place last x
    → ((a : A) (q : ℕ) → q ≤ last → Until place last' (k a q)) → Until place last' (and_then x k)
then_until (found a q) k (ends h) g = g a q h
then_until (refused r) k (stands h) g = stands h

module _ {A : Type 0} {place last : ℕ} where
  pub need_until : (t : Bool) (r : Refusal) {x : Reading A} → refusal_place r ≤ place → (t ≡ true → Until place last x) → Until place last (need t r x)
  need_until true r h g = g refl
  need_until false r h g = stands h

  pub judged_until : {at : ℕ} (f : Fault) {x : Reading A} → FaultUntil at f → at ≤ place → Until place last x → Until place last (judged f x)
  judged_until fine none h g = g
  judged_until (faulty r) (stands k) h g = stands (le_trans k h)

  pub within_until : (s : List ℕ) (l at end : ℕ) {x : Reading A} → at ≤ place → (end ≤ length s → Until place last x)
      → Until place last (within s l at end x)
  within_until s l at end h g =
      need_until (leb end (length s)) _ h (λ t. need_until (leb end l) _ h (λ u. g (leb-true end (length s) t)))

  first_until : (k : ℕ) (s : List ℕ) (l p : ℕ) {x : Reading A} → p ≤ place → Until place last x → Until place last (reserved_first k s l p x)
  first_until k s l p h g = within_until s l p (p + 1) h (λ m. need_until (eqb (get_or s p 0 / 2 ^ (8 - k)) (2 ^ k - 1)) _ h (λ t. g))

  pub repeat_until : (f : ℕ → Reading A) → ((p : ℕ) → p ≤ last → Until place last (f p)) → (n p : ℕ) → p ≤ last → Until place last (repeat f n p)
  unfolding repeat
  repeat_until f h zero p k = ends k
  repeat_until f h (suc n) p k = then_until (f p) _ (h p k) (λ a q m. then_until (repeat f n q) _ (repeat_until f h n q m) (λ xs i o. ends o))

-- ---- the entries of a tape

module _ (pool tape : List ℕ) where
  entry_until : (k : ℕ) → k ≤ length tape → Until (length tape) (length tape) (tape_entry tape k)
  unfolding tape_entry
  entry_until k h = need_until (leb (k + 1) (length tape)) _ h (λ t. ends (leb-true _ _ t))

  span_until : (k : ℕ) → k ≤ length tape → Until (length tape) (length tape) (span pool tape k)
  unfolding span
  span_until k h =
      need_until (leb (k + 2) (length tape)) _ h (λ t.
      need_until (leb (get_or tape k 0 + get_or tape (k + 1) 0) (length pool)) _ h (λ u. ends (leb-true _ _ t)))

-- ---- formats

-- a reader's refusal stands in the body or at its end, and what is found ends there; so it is with a form and its tape
pub record Placed {A : Type 0} (F : Format A) : Type 0 where
  pub read : (s : List ℕ) (l p : ℕ) → l ≤ length s → p ≤ length s → Until (length s) (length s) (F.parse s l p)
  pub formed : (pool tape : List ℕ) (k : ℕ) → k ≤ length tape → Until (length tape) (length tape) (F.form pool tape k)

pub count_placed : (w : ℕ) → Placed (count w)
unfolding count
count_placed w =
    record {
      read = λ s l p h k. within_until s l p (p + w) k ends;
      formed = λ pool tape k h. entry_until pool tape k h;
    }

module _ {A : Type 0} (fault : A → ℕ → Fault) (F : Format A) (there : (a : A) (at : ℕ) → FaultUntil at (fault a at)) where
  pub only_placed : Placed F → Placed (only fault F)
  unfolding only
  only_placed f =
      record {
        read = λ s l p h k. then_until (F.parse s l p) _ (f.read s l p h k) (λ a q m. judged_until (fault a p) (there a p) k (ends m));
        formed = λ pool tape k h.
            then_until (F.form pool tape k) _ (f.formed pool tape k h) (λ a j m. judged_until (fault a k) (there a k) h (ends m));
      }

pub outside_until : {A : Type 0} (test : A → Bool) (a : A) (at : ℕ) → FaultUntil at (outside test a at)
outside_until test a at = unless_until (test a) (OutsideSet at) (le_refl at)

pub outside_placed : {A : Type 0} (test : A → Bool) (F : Format A) → Placed F → Placed (only (outside test) F)
outside_placed test F f = only_placed (outside test) F (outside_until test) f

pub number_placed : (w : ℕ) → Placed (number w)
unfolding number
number_placed w = outside_placed (λ x. ltb x (256 ^ w)) (count w) (count_placed w)

pub nibbles_placed : Placed nibbles
unfolding nibbles
nibbles_placed =
    record {
      read = λ s l p h k. within_until s l p (p + 1) k ends;
      formed = λ pool tape k h.
          then_until (tape_entry tape k) _ (entry_until pool tape k h) (λ high j g.
          need_until (ltb high 16) _ h (λ t.
          then_until (tape_entry tape j) _ (entry_until pool tape j g) (λ low i m. need_until (ltb low 16) _ g (λ u. ends m))));
    }

pub reserved_placed : (k w : ℕ) → Placed (reserved k w)
unfolding reserved
reserved_placed k w =
    record {
      read = λ s l p h m. first_until k s l p m (within_until s l p (p + suc w) m ends);
      formed = λ pool tape j h.
          then_until (tape_entry tape j) _ (entry_until pool tape j h) (λ x i m. need_until (ltb x (below k w)) _ h (λ t. ends m));
    }

pub bytes_placed : (n : ℕ) → Placed (bytes n)
unfolding bytes
bytes_placed n =
    record {
      read = λ s l p h k. within_until s l p (p + n) k ends;
      formed = λ pool tape k h.
          then_until (span pool tape k) _ (span_until pool tape k h) (λ xs j m. need_until (eqb (length xs) n) _ h (λ t. ends m));
    }

pub digits_placed : (h : ℕ) → Placed (digits h)
unfolding digits
digits_placed h =
    record {
      read = λ s l p g k.
          first_until 4 s l p k
          (within_until s l p (p + suc h) k (λ m. need_until (decimal (tail (halves (take (suc h) (drop p s))))) _ k (λ t. ends m)));
      formed = λ pool tape k g.
          then_until (span pool tape k) _ (span_until pool tape k g) (λ bs j m.
          need_until (eqb (length bs) (suc h)) _ g (λ t. need_until (decimal (tail (halves bs))) _ g (λ u. ends m)));
    }

-- ---- values from lo to hi

module _ (lo hi : ℕ) where
  pub among_placed : (F : Format ℕ) → Placed F → Placed (among lo hi F)
  among_placed = outside_placed (λ x. leb lo x && leb x hi)

  both_among_lem : Placed (both_among lo hi)
  both_among_lem = outside_placed (λ x. (leb lo x.0 && leb x.0 hi) && (leb lo x.1 && leb x.1 hi)) nibbles nibbles_placed

  nibble_until : (pool tape : List ℕ) (k : ℕ) → k ≤ length tape → Until (length tape) (length tape) (nibble_among lo hi tape k)
  nibble_until pool tape k h =
      then_until (tape_entry tape k) _ (entry_until pool tape k h) (λ x j m.
      need_until (ltb x 16 && (leb lo x && leb x hi)) _ h (λ t. ends m))

  pub nibbles_among_placed : Placed (nibbles_among lo hi)
  nibbles_among_placed =
      record {
        read = both_among_lem.read;
        formed = λ pool tape k h.
            then_until (nibble_among lo hi tape k) _ (nibble_until pool tape k h) (λ high j m.
            then_until (nibble_among lo hi tape j) _ (nibble_until pool tape j m) (λ low i o. ends o));
      }

  pub bytes_among_placed : (n : ℕ) → Placed (bytes_among lo hi n)
  bytes_among_placed n = outside_placed (every (λ x. leb lo x && leb x hi)) (bytes n) (bytes_placed n)

-- ---- one after the other, a flag, other names

pub followed_placed : {A : Type 0} {B : A → Type 0} (F : Format A) (G : (a : A) → Format (B a)) → Placed F → ((a : A) → Placed (G a))
    → Placed (followed F G)
unfolding followed
followed_placed F G f g =
    record {
      read = λ s l p h k.
          then_until (F.parse s l p) _ (f.read s l p h k) (λ a q m.
          then_until ((G a).parse s l q) _ ((g a).read s l q h m) (λ b r o. ends o));
      formed = λ pool tape k h.
          then_until (F.form pool tape k) _ (f.formed pool tape k h) (λ a j m.
          then_until ((G a).form pool tape j) _ ((g a).formed pool tape j m) (λ b i o. ends o));
    }

pub under_placed : {A : Type 0} (F : Format A) → Placed F → (flag : ℕ) → Placed (under F flag)
unfolding under nothing
under_placed F f zero = record { read = λ s l p h k. ends k; formed = λ pool tape k h. ends h }
under_placed F f (suc n) = f

pub view_placed : {A B : Type 0} (f : A → B) (g : B → A) (F : Format A) → Placed F → Placed (view f g F)
unfolding view
view_placed f g F u =
    record {
      read = λ s l p h k. then_until (F.parse s l p) _ (u.read s l p h k) (λ a q m. ends m);
      formed = λ pool tape k h. then_until (F.form pool tape k) _ (u.formed pool tape k h) (λ a j m. ends m);
    }

-- ---- lists

module _ {A : Type 0} (F : Format A) (f : Placed F) where
  pub times_placed : (n : ℕ) → Placed (times n F)
  unfolding times
  times_placed n =
      record {
        read = λ s l p h k. repeat_until (F.parse s l) (λ q m. f.read s l q h m) n p k;
        formed = λ pool tape k h. repeat_until (F.form pool tape) (f.formed pool tape) n k h;
      }

  pub list_placed : (C : Format ℕ) → Placed C → Placed (list_of C F)
  unfolding list_of times
  list_placed C c =
      record {
        read = λ s l p h k. then_until (C.parse s l p) _ (c.read s l p h k) (λ n q m. (times_placed n).read s l q h m);
        formed = λ pool tape k h. then_until (C.form pool tape k) _ (c.formed pool tape k h) (λ n j m. (times_placed n).formed pool tape j m);
      }

  many_until : (n : ℕ) (s : List ℕ) (l p : ℕ) → l ≤ length s → p ≤ length s → Until (length s) (length s) (parse_many F n s l p)
  unfolding parse_many
  many_until zero s l p h k = need_until (leb l p) _ k (λ t. ends k)
  many_until (suc n) s l p h k = go (λ q m. many_until n s l q h m) (leb l p)
    where
      go : ((q : ℕ) → q ≤ length s → Until (length s) (length s) (parse_many F n s l q)) → (t : Bool)
          → Until (length s) (length s)
          (if t then found [] p else and_then (F.parse s l p) (λ a q. and_then (parse_many F n s l q) (λ xs r. found (a ∷ xs) r)))
      go again true = ends k
      go again false = then_until (F.parse s l p) _ (f.read s l p h k) (λ a q m. then_until (parse_many F n s l q) _ (again q m) (λ xs r o. ends o))

  pub many_placed : Placed (many F)
  unfolding many times
  many_placed =
      record {
        read = λ s l p h k. many_until (l - p) s l p h k;
        formed = λ pool tape k h. then_until (tape_entry tape k) _ (entry_until pool tape k h) (λ n j m. (times_placed n).formed pool tape j m);
      }

-- ---- parts

pub rest_placed : Placed rest
unfolding rest
rest_placed = record { read = λ s l p h k. ends h; formed = λ pool tape k h. span_until pool tape k h }

pub exact_placed : {A : Type 0} (left_over : ℕ → Refusal) (F : Format A) → ((at : ℕ) → refusal_place (left_over at) ≤ at) → Placed F → Placed (exact left_over F)
unfolding exact
exact_placed left_over F first f =
    record {
      read = λ s l p h k. then_until (F.parse s l p) _ (f.read s l p h k) (λ a q m. need_until (leb l q) _ (le_trans (first q) m) (λ t. ends m));
      formed = f.formed;
    }

pub counted_placed : {A : Type 0} (L : Length) (F : Format A) → Placed L.field → ((n at : ℕ) → FaultUntil at (L.fault n at)) → Placed F
    → Placed (counted L F)
unfolding counted
counted_placed L F c there f =
    record {
      read = λ s l p h k.
          then_until (L.field.parse s l p) _ (c.read s l p h k) (λ n q m.
          within_until s l p (q + n % L.limit) k (λ inside. judged_until (L.fault n p) (there n p) k (f.read s (q + n % L.limit) q inside m)));
      formed = f.formed;
    }

pub length_placed : {A : Type 0} (w : ℕ) (F : Format A) → Placed F → Placed (counted (length_of w) F)
unfolding length_of
length_placed w F f = counted_placed (length_of w) F (count_placed w) (λ n at. none) f

pub least_placed : {A : Type 0} (w least : ℕ) (F : Format A) → Placed F → Placed (counted (least_of w least) F)
unfolding least_of
least_placed w least F f = counted_placed (least_of w least) F (count_placed w) (λ n at. unless_until (leb least n) (PastPart at) (le_refl at)) f

pub length12_placed : {A : Type 0} (F : Format A) → Placed F → Placed (counted length12 F)
unfolding length12
length12_placed F f = counted_placed length12 F (reserved_placed 4 1) (λ n at. unless_until (ltb n 1024) (ReservedBitZero at) (le_refl at)) f

pub opaque_placed : (w : ℕ) → Placed (opaque w)
opaque_placed w = length_placed w rest rest_placed

-- ---- times and resources

refused_until : {place : ℕ} (t : Bool) (r : Refusal) (x : Result Moment Refusal) → refusal_place r ≤ place → FaultUntil place (time_fault x)
    → FaultUntil place (time_fault (cond t (Err r) x))
refused_until true r x h g = stands h
refused_until false r x h g = g

time_until : (f at : ℕ) → FaultUntil at (time_fault (read_time f at))
unfolding read_time
time_until f at =
    refused_until (leb (2 ^ 40) f) (OutsideSet at) _ (le_refl at)
    (refused_until (not (decimal_field f)) (DigitAboveNine at) _ (le_refl at)
    (refused_until (not (possible f)) (ImpossibleDay at) (Ok (moment_of f)) (le_refl at) none))

end_until : (f at : ℕ) → FaultUntil at (end_fault (read_end f at))
unfolding read_end
end_until f at = go (eqb f live_mark) (read_time f at) (time_until f at)
  where
    go : (t : Bool) (x : Result Moment Refusal) → FaultUntil at (time_fault x) → FaultUntil at (end_fault (cond t (Ok None) (as_end x)))
    go true x h = none
    go false (Ok m) h = none
    go false (Err r) h = h

pub time_placed : Placed time
unfolding time
time_placed = only_placed (λ f at. time_fault (read_time f at)) (number 5) time_until (number_placed 5)

pub end_placed : Placed end_time
unfolding end_time
end_placed = only_placed (λ f at. end_fault (read_end f at)) (number 5) end_until (number_placed 5)

pub resources_placed : Placed resources
resources_placed = list_placed resource (digits_placed resource_pairs) (count 1) (count_placed 1)

-- ---- whole bodies

-- the place that is answered
pub step_place : {A : Type 0} {place last : ℕ} (x : Reading A) → Until place last x → (r : Refusal) → step_of x ≡ Err r → refusal_place r ≤ place
step_place (found a q) h r e = absurd (let z : ◌≡◌ {A = ℕ} 0 1 = cc in omega arith)
step_place (refused t) (stands h) r e = let same : t ≡ r = cc in rw same at h

module _ {A : Type 0} (F : Format A) (f : Placed F) where
  module _ (own kind : ℕ) (s : List ℕ) where
    pub reading_until : Until (length s) (length s) (reading F own kind s)
    unfolding reading
    reading_until =
        need_until (eqb kind own) _ zero-le (λ t.
        need_until (leb (length s) body_most) _ zero-le (λ u. f.read s (length s) 0 (le_refl (length s)) zero-le))

    pub read_place : (r : Refusal) → body_read F own kind s ≡ Err r → refusal_place r ≤ length s
    unfolding body_read
    read_place = step_place (reading F own kind s) reading_until

    pub laid_place : (room : ℕ) (r : Refusal) → body_laid F own kind s room ≡ Err r → refusal_place r ≤ length s
    unfolding body_laid laying
    laid_place room =
        step_place (laying F own kind s room) (then_until {last' = room} (reading F own kind s) _ reading_until (λ a q m.
        need_until (leb (length (F.tape a 0)) room) _ zero-le (λ t. ends (leb-true _ _ t))))

  module _ (pool tape : List ℕ) where
    pub measuring_until : Until (length tape) body_most (measuring F pool tape)
    unfolding measuring
    measuring_until =
        then_until (F.form pool tape 0) _ (f.formed pool tape 0 zero-le) (λ a k m.
        need_until (leb (length tape) k) _ m (λ t.
        need_until (not (F.too_large a)) _ zero-le (λ u.
        need_until (leb (length (F.print a)) body_most) _ zero-le (λ v. ends (leb-true _ _ v)))))

    pub measured_place : (r : Refusal) → measured F pool tape ≡ Err r → refusal_place r ≤ length tape
    unfolding measured
    measured_place = step_place (measuring F pool tape) measuring_until

-- a writer's place is 0, whatever its format
module _ {A : Type 0} (F : Format A) (pool tape : List ℕ) (room : ℕ) where
  pub writing_until : Until 0 room (writing F pool tape room)
  unfolding writing
  writing_until = go (measuring F pool tape)
    where
      go : (x : Reading A) → Until 0 room (fitting room x)
      go (found a n) = need_until (leb n room) _ zero-le (λ t. ends (leb-true _ _ t))
      go (refused r) = stands (le_of_eq (placeless_is r).1)

  pub written_place : (r : Refusal) → body_written F pool tape room ≡ Err r → refusal_place r ≡ 0
  unfolding body_written
  written_place r e = let none = step_place (writing F pool tape room) writing_until r e in omega arith
