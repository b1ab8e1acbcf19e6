-- Which refusals the index reader gives: 2 for the kind and 22 for the length, and then a field's, 14 to 20. A law for each way of making a format that
-- the index table has.
use Prim.Native.Nat.{ℕ, zero, suc, ◌+◌, ◌-◌, ◌/◌, ◌%◌, ◌^◌}
use Rattle.time_fields.specs.declared.Moment.{Moment}
use mathlib.Core.Path.{◌≡◌, refl, sym, ap, ◌∙◌}
use mathlib.Core.List.{List, [], ◌∷◌}
use mathlib.Core.Bool.{Bool, true, false, not, ◌&&◌, ◌||◌, cond}
use native.Mathlib.Omega.{arith}
use lib.ListN.{length, get_or, take, drop}
use lib.Dec.{ltb, leb, eqb}
use Rattle.std.specs.Prelude.{if◌then◌else◌, Result, Ok, Err, None}
use Rattle.ground_refusal.specs.Numbers.{refusal_number}
use Rattle.ground_refusal.specs.declared.Refusal.{Refusal}
use Rattle.promises.proofs.Exits.{err_inj}
use Rattle.ground_refusal.specs.declared.Refusal.TheVariants.{OtherKind, PastBody, PastPart, LeftOver, ReservedBitZero, DigitAboveNine, OutsideSet, ImpossibleDay, TooLarge}
use Rattle.ground_numbers.specs.Sizes.{body_most}
use Rattle.time_fields.specs.Field.{read_time, read_end, is_decimal, possible, moment_of, live_mark, as_end}
use Rattle.body_formats.specs.Reading.{Reading, found, refused, and_then, need, Fault, fine, faulty, unless, judged, within}
use Rattle.body_formats.specs.Format.{Format, count, only, outside, number, nibbles, nibbles_among, reserved_first, reserved, bytes, halves, tail, decimal, digits, followed, nothing, under, view, repeat, every, bytes_among, list_of, rest, exact, parse_many, many, Length, length_of, length12, counted, opaque}
use Rattle.body_formats.specs.Time.{time_fault, end_fault, time, end_time}
use Rattle.body_formats.specs.Resource.{resource_pairs, resource, resources}
use Rattle.body_formats.specs.Identifier.{identifier_pairs, has_real_day, unreal_day, identifier}
use Rattle.body_formats.specs.Answers.{step_of}
use Rattle.body_formats.specs.Body.{reading, body_read}
use Rattle.index.specs.Index.{Index, descriptor, descriptors, stream_fields, stream, streams, channel_fields, channel, flagged, head, message_fields, message, fields, index, index_kind}
use Rattle.screen_promises.specs.Promise.{is_given}

-- a field's refusal
abbrev pub is_of_field : Refusal → Bool
is_of_field r = leb 14 (refusal_number r) && leb (refusal_number r) 20

-- ---- readings

-- what is refused is refused for a field
pub data ByField {A : Type 0} : Reading A → Type 0 where
  finds : {a : A} {q : ℕ} → ByField (found a q)
  refuses : {r : Refusal} → is_of_field r ≡ true → ByField (refused r)

pub data FaultByField : Fault → Type 0 where
  none : FaultByField fine
  refuses : {r : Refusal} → is_of_field r ≡ true → FaultByField (faulty r)

unless_by : (t : Bool) (r : Refusal) → is_of_field r ≡ true → FaultByField (unless t r)
unless_by true r h = none
unless_by false r h = refuses h

then_by : {A B : Type 0} (x : Reading A) (k : A → ℕ → Reading B) → ByField x → ((a : A) (q : ℕ) → ByField (k a q)) → ByField (and_then x k)
then_by (found a q) k h g = g a q
then_by (refused r) k (refuses h) g = refuses h

module _ {A : Type 0} where
  need_by : (t : Bool) (r : Refusal) (x : Reading A) → is_of_field r ≡ true → ByField x → ByField (need t r x)
  need_by true r x h g = g
  need_by false r x h g = refuses h

  judged_by : (f : Fault) (x : Reading A) → FaultByField f → ByField x → ByField (judged f x)
  judged_by fine x h g = g
  judged_by (faulty r) x (refuses h) g = refuses h

  within_by : (s : List ℕ) (l at end : ℕ) (x : Reading A) → ByField x → ByField (within s l at end x)
  within_by s l at end x g = need_by (leb end (length s)) (PastBody at) _ refl (need_by (leb end l) (PastPart at) x refl g)

  first_by : (k : ℕ) (s : List ℕ) (l p : ℕ) (x : Reading A) → ByField x → ByField (reserved_first k s l p x)
  first_by k s l p x g = within_by s l p (p + 1) _ (need_by (eqb (get_or s p 0 / 2 ^ (8 - k)) (2 ^ k - 1)) (ReservedBitZero p) x refl g)

  repeat_by : (f : ℕ → Reading A) → ((p : ℕ) → ByField (f p)) → (n p : ℕ) → ByField (repeat f n p)
  unfolding repeat
  repeat_by f h zero p = finds
  repeat_by f h (suc n) p = then_by (f p) _ (h p) (λ a q. then_by (repeat f n q) _ (repeat_by f h n q) (λ xs r. finds))

-- ---- formats

pub record ReadByField {A : Type 0} (F : Format A) : Type 0 where
  pub read : (s : List ℕ) (l p : ℕ) → ByField (F.parse s l p)

count_by : (w : ℕ) → ReadByField (count w)
unfolding count
count_by w = record { read = λ s l p. within_by s l p (p + w) _ finds }

only_by : {A : Type 0} (fault : A → ℕ → Fault) (F : Format A) → ((a : A) (at : ℕ) → FaultByField (fault a at)) → ReadByField F
    → ReadByField (only fault F)
unfolding only
only_by fault F there f =
    record { read = λ s l p. then_by (F.parse s l p) _ (f.read s l p) (λ a q. judged_by (fault a p) _ (there a p) finds) }

outside_by : {A : Type 0} (test : A → Bool) (F : Format A) → ReadByField F → ReadByField (only (outside test) F)
outside_by test F f = only_by (outside test) F (λ a at. unless_by (test a) (OutsideSet at) refl) f

number_by : (w : ℕ) → ReadByField (number w)
unfolding number
number_by w = outside_by (λ x. ltb x (256 ^ w)) (count w) (count_by w)

nibbles_by : (lo hi : ℕ) → ReadByField (nibbles_among lo hi)
unfolding nibbles
nibbles_by lo hi =
    record {
      read = (outside_by (λ x. (leb lo x.0 && leb x.0 hi) && (leb lo x.1 && leb x.1 hi)) nibbles
          (record { read = λ s l p. within_by s l p (p + 1) _ finds })).read;
    }

reserved_by : (k w : ℕ) → ReadByField (reserved k w)
unfolding reserved
reserved_by k w = record { read = λ s l p. first_by k s l p _ (within_by s l p (p + suc w) _ finds) }

bytes_by_lem : (lo hi n : ℕ) → ReadByField (bytes_among lo hi n)
unfolding bytes
bytes_by_lem lo hi n = outside_by (every (λ x. leb lo x && leb x hi)) (bytes n) (record { read = λ s l p. within_by s l p (p + n) _ finds })

digits_by : (h : ℕ) → ReadByField (digits h)
unfolding digits
digits_by h =
    record {
      read = λ s l p.
          first_by 4 s l p _ (within_by s l p (p + suc h) _
          (need_by (decimal (tail (halves (take (suc h) (drop p s))))) (DigitAboveNine p) _ refl finds));
    }

followed_by : {A : Type 0} {B : A → Type 0} (F : Format A) (G : (a : A) → Format (B a)) → ReadByField F → ((a : A) → ReadByField (G a))
    → ReadByField (followed F G)
unfolding followed
followed_by F G f g =
    record { read = λ s l p. then_by (F.parse s l p) _ (f.read s l p) (λ a q. then_by ((G a).parse s l q) _ ((g a).read s l q) (λ b r. finds)) }

under_by : {A : Type 0} (F : Format A) → ReadByField F → (flag : ℕ) → ReadByField (under F flag)
unfolding under nothing
under_by F f zero = record { read = λ s l p. finds }
under_by F f (suc n) = f

view_by : {A B : Type 0} (f : A → B) (g : B → A) (F : Format A) → ReadByField F → ReadByField (view f g F)
unfolding view
view_by f g F u = record { read = λ s l p. then_by (F.parse s l p) _ (u.read s l p) (λ a q. finds) }

module _ {A : Type 0} (F : Format A) (f : ReadByField F) where
  list_by : (C : Format ℕ) → ReadByField C → ReadByField (list_of C F)
  unfolding list_of
  list_by C c = record { read = λ s l p. then_by (C.parse s l p) _ (c.read s l p) (λ n q. repeat_by (F.parse s l) (f.read s l) n q) }

  parse_many_lem : (n : ℕ) (s : List ℕ) (l p : ℕ) → ByField (parse_many F n s l p)
  unfolding parse_many
  parse_many_lem zero s l p = need_by (leb l p) (PastPart p) _ refl finds
  parse_many_lem (suc n) s l p = go (λ q. parse_many_lem n s l q) (leb l p)
    where
      go : ((q : ℕ) → ByField (parse_many F n s l q)) → (t : Bool)
          → ByField (if t then found [] p else and_then (F.parse s l p) (λ a q. and_then (parse_many F n s l q) (λ xs r. found (a ∷ xs) r)))
      go again true = finds
      go again false = then_by (F.parse s l p) _ (f.read s l p) (λ a q. then_by (parse_many F n s l q) _ (again q) (λ xs r. finds))

  many_by : ReadByField (many F)
  unfolding many
  many_by = record { read = λ s l p. parse_many_lem (l - p) s l p }

  exact_by : (left_over : ℕ → Refusal) → ((at : ℕ) → is_of_field (left_over at) ≡ true) → ReadByField (exact left_over F)
  unfolding exact
  exact_by left_over h =
      record { read = λ s l p. then_by (F.parse s l p) _ (f.read s l p) (λ a q. need_by (leb l q) (left_over q) _ (h q) finds) }

  counted_by : (L : Length) → ReadByField L.field → ((n at : ℕ) → FaultByField (L.fault n at)) → ReadByField (counted L F)
  unfolding counted
  counted_by L c there =
      record {
        read = λ s l p.
            then_by (L.field.parse s l p) _ (c.read s l p) (λ n q.
            within_by s l p (q + n % L.limit) _ (judged_by (L.fault n p) _ (there n p) (f.read s (q + n % L.limit) q)));
      }

  length_by : (w : ℕ) → ReadByField (counted (length_of w) F)
  unfolding length_of
  length_by w = counted_by (length_of w) (count_by w) (λ n at. none)

  length12_by : ReadByField (counted length12 F)
  unfolding length12
  length12_by = counted_by length12 (reserved_by 4 1) (λ n at. unless_by (ltb n 1024) (ReservedBitZero at) refl)

opaque_by : (w : ℕ) → ReadByField (opaque w)
unfolding rest
opaque_by w = length_by rest (record { read = λ s l p. finds }) w

-- ---- times, identifiers and resources

refused_by : (t : Bool) (r : Refusal) (x : Result Moment Refusal) → is_of_field r ≡ true → FaultByField (time_fault x) → FaultByField (time_fault (cond t (Err r) x))
refused_by true r x h g = refuses h
refused_by false r x h g = g

time_fault_lem : (f at : ℕ) → FaultByField (time_fault (read_time f at))
unfolding read_time
time_fault_lem f at =
    refused_by (leb (2 ^ 40) f) (OutsideSet at) _ refl
    (refused_by (not (is_decimal f)) (DigitAboveNine at) _ refl
    (refused_by (not (possible f)) (ImpossibleDay at) (Ok (moment_of f)) refl none))

end_fault_lem : (f at : ℕ) → FaultByField (end_fault (read_end f at))
unfolding read_end
end_fault_lem f at = go (eqb f live_mark) (read_time f at) (time_fault_lem f at)
  where
    go : (t : Bool) (x : Result Moment Refusal) → FaultByField (time_fault x) → FaultByField (end_fault (cond t (Ok None) (as_end x)))
    go true x h = none
    go false (Ok m) h = none
    go false (Err r) h = h

time_by : ReadByField time
unfolding time
time_by = only_by (λ f at. time_fault (read_time f at)) (number 5) time_fault_lem (number_by 5)

end_by : ReadByField end_time
unfolding end_time
end_by = only_by (λ f at. end_fault (read_end f at)) (number 5) end_fault_lem (number_by 5)

identifier_by : ReadByField identifier
unfolding identifier
identifier_by = only_by unreal_day (digits identifier_pairs) (λ ds at. unless_by (has_real_day ds) (ImpossibleDay at) refl) (digits_by identifier_pairs)

resources_by : ReadByField resources
resources_by = list_by resource (digits_by resource_pairs) (count 1) (count_by 1)

-- ---- the index table

descriptors_by : ReadByField descriptors
unfolding descriptors descriptor
descriptors_by = length12_by (many descriptor) (many_by descriptor (view_by _ _ _ (followed_by _ _ (number_by 1) (λ a. opaque_by 1))))

streams_by : ReadByField streams
unfolding streams stream stream_fields
streams_by =
    length_by (many stream) (many_by stream (view_by _ _ stream_fields
    (followed_by _ _ (number_by 1) (λ a. followed_by _ _ (reserved_by 3 1) (λ b. descriptors_by))))) 2

channel_by : ReadByField channel
unfolding channel channel_fields
channel_by =
    view_by _ _ channel_fields
    (followed_by _ _ (number_by 2) (λ a. followed_by _ _ (number_by 2) (λ b. followed_by _ _ (number_by 2) (λ c.
    followed_by _ _ (reserved_by 3 1) (λ d. followed_by _ _ descriptors_by (λ e. streams_by))))))

head_by : ReadByField head
unfolding head
head_by =
    followed_by _ _ identifier_by (λ a. followed_by _ _ (number_by 2) (λ b. followed_by _ _ time_by (λ c.
    followed_by _ _ end_by (λ d. followed_by _ _ (bytes_by_lem 0 0x7F 5) (λ e. nibbles_by 1 4)))))

message_by : ReadByField message
unfolding message message_fields flagged
message_by =
    length_by _ (exact_by _ (view_by _ _ message_fields
    (followed_by _ _ head_by (λ a. followed_by _ _ resources_by (λ b.
    followed_by _ _ (reserved_by 7 0) (under_by channel channel_by))))) PastPart (λ at. refl)) 2

index_by : ReadByField index
unfolding index fields
index_by =
    exact_by _ (view_by _ _ fields (followed_by _ _ (list_by message message_by (count 1) (count_by 1)) (λ a. opaque_by 2))) LeftOver (λ at. refl)

-- ---- whole bodies

of_field : (a b : Bool) → b ≡ true → a || b ≡ true
of_field true b e = refl
of_field false b e = e

module _ (kind : ℕ) (s : List ℕ) where
  pub read_given : (r : Refusal) → body_read index index_kind kind s ≡ Err r → is_given (refusal_number r) ≡ true
  unfolding body_read reading
  read_given r e = go (eqb kind index_kind) (leb (length s) body_most) (index.parse s (length s) 0) (index_by.read s (length s) 0) e
    where
      same : (q : Refusal) → ◌≡◌ {A = Result ℕ Refusal} (Err q) (Err r) → is_given (refusal_number q) ≡ true → is_given (refusal_number r) ≡ true
      same q f h = sym (ap (λ (x : Refusal). is_given (refusal_number x)) (err_inj f)) ∙ h

      go : (a b : Bool) (x : Reading Index) → ByField x → step_of (need a OtherKind (need b TooLarge x)) ≡ Err r → is_given (refusal_number r) ≡ true
      go false b x h f = same OtherKind f refl
      go true false x h f = same TooLarge f refl
      go true true (found t q) h f = absurd (let z : ◌≡◌ {A = ℕ} 0 1 = cc in omega arith)
      go true true (refused q) (refuses h) f =
          same q f (of_field (eqb (refusal_number q) 2 || eqb (refusal_number q) 22) (is_of_field q) h)
