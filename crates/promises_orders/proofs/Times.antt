-- Packing, unpacking and reading text go through their lines: a moment that is moved is refused exactly where the day moved to is outside.
use Prim.Native.Nat.{ℕ, ◌-◌, ◌^◌, ◌≤◌}
use Rattle.std.specs.Prelude.{Result, Ok, Err}
use mathlib.Core.Path.{◌≡◌, refl, sym, ap, ◌∙◌}
use mathlib.Core.Bool.{Bool, true, false, not, ◌||◌, false≢true}
use mathlib.Core.List.{List}
use native.Mathlib.Omega.{arith}
use borrow.Author.Tests.{leb-true, leb-false, le-leb, not-true, not-false}
use lib.Dec.{leb}
use lib.IntN.{ℤ, pos, negsuc, neg_ℤ}
use Rattle.ground_choices.proofs.Tests.{and_of}
use Rattle.ground_refusal.specs.declared.Refusal.{Refusal}
use Rattle.ground_refusal.specs.declared.Refusal.TheVariants.{ImpossibleDay}
use Rattle.time_days.specs.Calendar.{in_range, day_number, has_day, day_of, date_from, date_of}
use Rattle.time_days.specs.declared.Date.{Date}
use Rattle.time_days.proofs.Theorems.{day_within}
use Rattle.time_fields.specs.declared.Moment.{Moment}
use Rattle.time_fields.specs.Field.{is_decimal, possible, moment_of, is_instant, field_of, write_time}
use Rattle.time_fields.proofs.Instants.{Instant, instant, day_in_range, is_instant_lem}
use Rattle.time_fields.proofs.Reading.{reads_too_wide, reads_no_digit, reads_impossible, reads_time}
use Rattle.time_fields.proofs.Inverse.{accepted_instant}
use Rattle.time_offset.specs.Offset.{is_offset, day_moved, second_moved, minute_moved, moved}
use Rattle.time_offset.proofs.Floors.{left_below}
use Rattle.time_offset.proofs.Moving.{arrived, moved_before, moved_to, utc_by, local_by}
use Rattle.time_local.specs.declared.LocalTime.{LocalTime}
use Rattle.time_local.specs.Clock.{is_clock, second_of, written, packed_at, pack_of, at_second, dated, unpacked_at, unpack_of}
use Rattle.time_local.specs.Text.{typed, read_text}
use Rattle.time_local.proofs.Clocks.{clock_within, no_day, on_day_lem, pack_by, unpack_by}
use Rattle.time_local.proofs.Forms.{no_offset, by_form}
use Rattle.promises_orders.specs.Order.{Given, here, later, None, next, AsListed}
use Rattle.promises_orders.specs.Times.{offset_outside, moment_at, utc_day, local_day, impossible, IsField, packing_lines, IsLocalTime, unpacking_lines, text_lines}
use Rattle.promises_orders.proofs.Order.{Told, as_listed}

-- ---- a condition that decides between a refusal and a value

data Decides {A : Type 0} (refusal : A) (Value : A → Type 0) (answer : A) : Bool → Type 0 where
  refuses : answer ≡ refusal → Decides refusal Value answer true
  gives : Value answer → Decides refusal Value answer false

module _ {A : Type 0} {refusal : A} {Value : A → Type 0} {answer : A} where
  where_true : {b : Bool} → Decides refusal Value answer b → b ≡ true → answer ≡ refusal
  where_true (refuses e) t = e
  where_true (gives v) t = absurd (false≢true t)

  where_false : {b : Bool} → Decides refusal Value answer b → b ≡ false → Value answer
  where_false (refuses e) f = absurd (false≢true (sym f))
  where_false (gives v) f = v

-- so it does of what is told of the answer
decides_told : {A B : Type 0} (tell : A → B) {refusal : A} {refusal' : B} {Value : A → Type 0} {Value' : B → Type 0} {answer : A} {answer' : B} {b : Bool}
    → answer' ≡ tell answer → tell refusal ≡ refusal' → ((a : A) → Value a → Value' (tell a))
    → Decides refusal Value answer b → Decides refusal' Value' answer' b
decides_told tell e f g (refuses q) = refuses (e ∙ ap tell q ∙ f)
decides_told tell e f g (gives v) = gives (rw e (g _ v))

-- ---- a moment moved, by the day that it is moved to

IsMoment : Result Moment Refusal → Type 0
IsMoment a = (m : Moment) × (is_instant m ≡ true) × (a ≡ Ok m)

module _ (m : Moment) (minutes : ℤ) (i : is_instant m ≡ true) where
  second_most : second_moved m minutes ≤ 86399
  unfolding second_moved
  second_most = let b = left_below (minute_moved m minutes) in omega arith

  arrives_on : (d : ℕ) → day_moved m minutes ≡ pos d → (b : Bool) → in_range d ≡ b
      → Decides (Err (ImpossibleDay 0)) IsMoment (moved m minutes) (not b)
  unfolding is_instant IsMoment
  arrives_on d e true r =
      let there = and_of r (le-leb (second_moved m minutes) 86399 second_most) in
      gives (arrived d (second_moved m minutes), there, moved_to m minutes d i e there)
  arrives_on d e false r = refuses (moved_to m minutes d {t = false} i e (rw r))

  arrives : (z : ℤ) → day_moved m minutes ≡ z → Decides (Err (ImpossibleDay 0)) IsMoment (moved m minutes) (offset_outside z)
  unfolding offset_outside in_range
  arrives (negsuc d) e = refuses (moved_before m minutes d i e)
  arrives (pos d) e = arrives_on d e (in_range d) refl

  moved_decides : Decides (Err (ImpossibleDay 0)) IsMoment (moved m minutes) (offset_outside (day_moved m minutes))
  moved_decides = arrives (day_moved m minutes) refl

-- ---- packing

written_moment : (a : Result Moment Refusal) → IsMoment a → IsField (written a)
unfolding IsMoment written write_time
written_moment a (m, i, e) = (field_of m, rw (e, i))

module _ (t : LocalTime) where
  day_is : has_day t.year t.month t.day ≡ true → day_of t.year t.month t.day ≡ Ok (day_number t.year t.month t.day)
  unfolding day_of
  day_is d = rw d

  no_day_is : has_day t.year t.month t.day ≡ false → day_of t.year t.month t.day ≡ Err (ImpossibleDay 0)
  unfolding day_of
  no_day_is d = rw d

  -- a date and time of the calendar is an instant
  real_instant : has_day t.year t.month t.day ≡ true → is_clock t ≡ true → is_instant (moment_at t) ≡ true
  unfolding moment_at second_of
  real_instant d c =
      let w = day_within _ _ _ _ (day_is d) in
      let k = clock_within t c in
      is_instant_lem _ (record { from = w.0; until = w.1; within = omega arith })

  module _ (offset : ℤ) (o : is_offset offset ≡ true) where
    real_packs : has_day t.year t.month t.day ≡ true → is_clock t ≡ true → pack_of t offset ≡ written (moved (moment_at t) (neg_ℤ offset))
    unfolding moment_at packed_at
    real_packs d c = pack_by t offset o ∙ ap (packed_at offset) (on_day_lem t (day_is d) c) ∙ ap written (utc_by (moment_at t) offset o)

    field_decides : (d : Bool) → has_day t.year t.month t.day ≡ d → (c : Bool) → is_clock t ≡ c
        → Decides (Err (ImpossibleDay 0)) IsField (pack_of t offset) (not d || not c || offset_outside (utc_day t offset))
    unfolding packed_at utc_day written
    field_decides false d c k = refuses (pack_by t offset o ∙ ap (packed_at offset) (no_day t (no_day_is d)))
    field_decides true d false c = refuses (pack_by t offset o ∙ ap (packed_at offset) (on_day_lem t (day_is d) c))
    field_decides true d true c =
        decides_told written (real_packs d c) refl written_moment (moved_decides (moment_at t) (neg_ℤ offset) (real_instant d c))

    pack_decides : Decides (Err (ImpossibleDay 0)) IsField (pack_of t offset) (impossible t offset)
    unfolding impossible
    pack_decides = field_decides (has_day t.year t.month t.day) refl (is_clock t) refl

field_told : Told Err IsField
field_told = record { same = λ r r' e. cc; apart = λ r v. let e = v.1 in let z : ◌≡◌ {A = ℕ} 0 1 = cc in omega arith }

module _ (t : LocalTime) (offset : ℤ) where
  pack_refused : (r : Refusal) → Given r (packing_lines t offset) → pack_of t offset ≡ Err r
  unfolding packing_lines
  pack_refused r (here o) = pack_by t offset (not-true _ o)
  pack_refused r (later o (here d)) = where_true (pack_decides t offset (not-false _ o)) d
  pack_refused r (later o (later _ x)) = elim x [ ]

  pack_answered : None (packing_lines t offset) → IsField (pack_of t offset)
  unfolding packing_lines
  pack_answered (next o (next d n)) = where_false (pack_decides t offset (not-false _ o)) d

  pub packing_as_listed : AsListed Err IsField (packing_lines t offset) (pack_of t offset)
  packing_as_listed = as_listed Err IsField field_told (packing_lines t offset) (pack_of t offset) pack_refused pack_answered

-- ---- text

module _ (s : List ℕ) (offset : ℤ) where
  text_refused : (r : Refusal) → Given r (text_lines s offset) → read_text s offset ≡ Err r
  unfolding text_lines
  text_refused r (here o) = no_offset s offset (not-true _ o)
  text_refused r (later o (here f)) = by_form s offset (not-false _ o) (not-true _ f)
  text_refused r (later o (later f (here d))) = by_form s offset (not-false _ o) (not-false _ f) ∙ where_true (pack_decides (typed s) offset (not-false _ o)) d
  text_refused r (later o (later f (later _ x))) = elim x [ ]

  text_answered : None (text_lines s offset) → IsField (read_text s offset)
  unfolding text_lines
  text_answered (next o (next f (next d n))) =
      rw (by_form s offset (not-false _ o) (not-false _ f)) (where_false (pack_decides (typed s) offset (not-false _ o)) d)

  pub text_as_listed : AsListed Err IsField (text_lines s offset) (read_text s offset)
  text_as_listed = as_listed Err IsField field_told (text_lines s offset) (read_text s offset) text_refused text_answered

-- ---- unpacking

time_told : Told Err IsLocalTime
time_told = record { same = λ r r' e. cc; apart = λ r v. let e = v.1 in let z : ◌≡◌ {A = ℕ} 0 1 = cc in omega arith }

-- a day of the range has a date
has_date : (n : ℕ) → in_range n ≡ true → (date : Date) × (date_of n ≡ Ok date)
unfolding date_of
has_date n r = (date_from 1657 0 (n - 15079), rw r)

at_second_lem : (s : ℕ) (date : Date) → IsLocalTime (at_second s (Ok date))
unfolding at_second
at_second_lem s date = (_, refl)

dated_moment : (a : Result Moment Refusal) → IsMoment a → IsLocalTime (dated a)
unfolding IsMoment dated
dated_moment a (m, i, e) =
    let d = has_date m.day (day_in_range m (instant m i)) in
    rw (e, d.1) (at_second_lem m.second d.0)

module _ (field : ℕ) (offset : ℤ) (o : is_offset offset ≡ true) (w : leb (2 ^ 40) field ≡ false) (d : is_decimal field ≡ true) where
  time_unpacks : possible field ≡ true → unpack_of field offset ≡ dated (moved (moment_of field) offset)
  unfolding unpacked_at
  time_unpacks p =
      unpack_by field offset o
      ∙ ap (unpacked_at offset) (reads_time field 0 (leb-false _ _ w) d p)
      ∙ ap dated (local_by (moment_of field) offset o)

  time_decides : (p : Bool) → possible field ≡ p
      → Decides (Err (ImpossibleDay 0)) IsLocalTime (unpack_of field offset) (not p || offset_outside (local_day field offset))
  unfolding unpacked_at local_day dated
  time_decides false p = refuses (unpack_by field offset o ∙ ap (unpacked_at offset) (reads_impossible field 0 (leb-false _ _ w) d p))
  time_decides true p =
      decides_told dated (time_unpacks p) refl dated_moment (moved_decides (moment_of field) offset (is_instant_lem _ (field_instant p)))
    where
      field_instant : possible field ≡ true → Instant (moment_of field)
      field_instant p = accepted_instant field (moment_of field) (record { fits = leb-false _ _ w; digits = d; time = p; is = refl })

module _ (field : ℕ) (offset : ℤ) where
  unpack_refused : (r : Refusal) → Given r (unpacking_lines field offset) → unpack_of field offset ≡ Err r
  unfolding unpacking_lines unpacked_at
  unpack_refused r (here o) = unpack_by field offset (not-true _ o)
  unpack_refused r (later o (here w)) = unpack_by field offset (not-false _ o) ∙ ap (unpacked_at offset) (reads_too_wide field 0 (leb-true _ _ w))
  unpack_refused r (later o (later w (here d))) =
      unpack_by field offset (not-false _ o) ∙ ap (unpacked_at offset) (reads_no_digit field 0 (leb-false _ _ w) (not-true _ d))
  unpack_refused r (later o (later w (later d (here p)))) = where_true (time_decides field offset (not-false _ o) w (not-false _ d) _ refl) p
  unpack_refused r (later o (later w (later d (later _ x)))) = elim x [ ]

  unpack_answered : None (unpacking_lines field offset) → IsLocalTime (unpack_of field offset)
  unfolding unpacking_lines
  unpack_answered (next o (next w (next d (next p n)))) = where_false (time_decides field offset (not-false _ o) w (not-false _ d) _ refl) p

  pub unpacking_as_listed : AsListed Err IsLocalTime (unpacking_lines field offset) (unpack_of field offset)
  unpacking_as_listed = as_listed Err IsLocalTime time_told (unpacking_lines field offset) (unpack_of field offset) unpack_refused unpack_answered
