-- Local times and text: from the theorems of crate local, and 20 from the lists of crate orders.
use Prim.Native.Nat.{ℕ, ◌^◌, ◌<◌}
use Rattle.std.specs.Prelude.{Ok, Err}
use mathlib.Core.Path.{◌≡◌, refl, sym, ap, ◌∙◌}
use mathlib.Core.Bool.{Bool, true, false, not, ◌||◌, false≢true}
use mathlib.Core.List.{List, [], ◌∷◌}
use mathlib.Core.Logic.{◌↔◌}
use native.Mathlib.Omega.{arith}
use borrow.Author.Tests.{lt-leb, not-true}
use lib.IntN.{ℤ}
use Rattle.ground_refusal.specs.declared.Refusal.{Refusal}
use Rattle.ground_refusal.specs.declared.Refusal.TheVariants.{ImpossibleDay, NotOfTheForm}
use Rattle.time_days.specs.Calendar.{is_date, has_day}
use Rattle.time_fields.specs.Field.{is_decimal, possible}
use Rattle.time_offset.specs.Offset.{is_offset}
use Rattle.time_local.specs.Clock.{is_clock, pack_of, unpack_of}
use Rattle.time_local.specs.Text.{form, formed, two, typed, read_text, Typable, text_of, IsText}
use Rattle.time_local.specs.declared.LocalTime.{LocalTime}
use Rattle.time_local.proofs.Forms.{by_form}
use Rattle.time_local.proofs.RoundTrip.{packs_exactly, unpacks_exactly, unpack_packed, pack_unpacked}
use Rattle.time_local.proofs.Characters.{text_formed, text_typed, reads_text, text_typable, text_only, text_accepted}
use Rattle.promises_orders.specs.Order.{◌when◌, Given, here, later}
use Rattle.promises_orders.specs.Times.{offset_outside, utc_day, local_day, impossible, packing_lines, unpacking_lines, text_lines}
use Rattle.promises_orders.proofs.Times.{packing_as_listed, unpacking_as_listed, text_as_listed}
use Rattle.promises.specs.LocalTimes.{NoField, no_date, no_time, local_outside, utc_outside, NoLocalTime, no_moment, moved_outside, third_of_november, LocalTimes}

-- ---- 20

or_true : (a : Bool) → (a || true) ≡ true
or_true true = refl
or_true false = refl

module _ (t : LocalTime) (offset : ℤ) where
  why_none : (i d c o : Bool) → is_date t.year t.month t.day ≡ i → has_day t.year t.month t.day ≡ d
      → is_clock t ≡ c → offset_outside (utc_day t offset) ≡ o → (not d || not c || o) ≡ true → NoField t offset
  why_none false false c o i d e u n = no_date i
  why_none true false c o i d e u n = local_outside i d
  why_none i true false o f d e u n = no_time e
  why_none i true true true f d e u n = utc_outside u
  why_none i true true false f d e u n = absurd (false≢true n)

  none_why : NoField t offset → impossible t offset ≡ true
  unfolding impossible has_day
  none_why (no_date i) = simp i
  none_why (no_time c) = simp (c, or_true)
  none_why (local_outside i d) = rw d
  none_why (utc_outside u) = simp (u, or_true)

  pack_given : is_offset offset ≡ true → impossible t offset ≡ true → Given (ImpossibleDay 0) (packing_lines t offset)
  unfolding packing_lines
  pack_given o n = later (ap not o) (here n)

  given_none : Given (ImpossibleDay 0) (packing_lines t offset) → impossible t offset ≡ true
  unfolding packing_lines
  given_none (later o (here n)) = n
  given_none (later o (later _ x)) = elim x [ ]

  pack_refused : is_offset offset ≡ true → (pack_of t offset ≡ Err (ImpossibleDay 0)) ↔ NoField t offset
  unfolding impossible
  pack_refused o =
      let listed = (packing_as_listed t offset).refused_exactly (ImpossibleDay 0) in (
        λ e. why_none _ _ _ _ refl refl refl refl (given_none (listed.0 e)),
        λ w. listed.1 (pack_given o (none_why w)),
      )

module _ (field : ℕ) (offset : ℤ) where
  why_no_time : (p o : Bool) → possible field ≡ p → offset_outside (local_day field offset) ≡ o → (not p || o) ≡ true → NoLocalTime field offset
  why_no_time false o p u n = no_moment p
  why_no_time true true p u n = moved_outside u
  why_no_time true false p u n = absurd (false≢true n)

  no_time_why : NoLocalTime field offset → (not (possible field) || offset_outside (local_day field offset)) ≡ true
  no_time_why (no_moment p) = rw p
  no_time_why (moved_outside u) = simp (u, or_true)

  unpack_given : is_offset offset ≡ true → field < 2 ^ 40 → is_decimal field ≡ true → (not (possible field) || offset_outside (local_day field offset)) ≡ true
      → Given (ImpossibleDay 0) (unpacking_lines field offset)
  unfolding unpacking_lines
  unpack_given o w d n = later (ap not o) (later (lt-leb _ _ w) (later (ap not d) (here n)))

  given_no_time : Given (ImpossibleDay 0) (unpacking_lines field offset) → (not (possible field) || offset_outside (local_day field offset)) ≡ true
  unfolding unpacking_lines
  given_no_time (later o (later w (later d (here n)))) = n
  given_no_time (later o (later w (later d (later _ x)))) = elim x [ ]

  unpack_refused : is_offset offset ≡ true → field < 2 ^ 40 → is_decimal field ≡ true
      → (unpack_of field offset ≡ Err (ImpossibleDay 0)) ↔ NoLocalTime field offset
  unpack_refused o w d =
      let listed = (unpacking_as_listed field offset).refused_exactly (ImpossibleDay 0) in (
        λ e. why_no_time _ _ refl refl (given_no_time (listed.0 e)),
        λ n. listed.1 (unpack_given o w d (no_time_why n)),
      )

-- ---- text

text_accepts : (s : List ℕ) (offset : ℤ) (field : ℕ) → IsText s offset field → read_text s offset ≡ Ok field
text_accepts s offset field i = ap (λ (x : List ℕ). read_text x offset) i.characters ∙ reads_text i.time i.typable offset ∙ i.packs

-- one line can give its own refusal alone
last_given : {r r' : Refusal} {b : Bool} → Given r (r' when b ∷ []) → r ≡ r'
last_given (here e) = refl
last_given (later _ x) = elim x [ ]

module _ (s : List ℕ) (offset : ℤ) (o : is_offset offset ≡ true) where
  not_formed : Given NotOfTheForm (text_lines s offset) → formed form s ≡ false
  unfolding text_lines
  not_formed (later o (here f)) = not-true _ f
  not_formed (later o (later f g)) = let e = last_given g in let z : ◌≡◌ {A = ℕ} 0 1 = cc in absurd (omega arith)

  other_text : (read_text s offset ≡ Err NotOfTheForm) ↔ ((t : LocalTime) → Typable t → s ≡ text_of t → ⊥)
  other_text =
      let listed = (text_as_listed s offset).refused_exactly NotOfTheForm in (
        λ e t r q. false≢true (sym (not_formed (listed.0 e)) ∙ ap (formed form) q ∙ text_formed t r),
        none (formed form s) refl,
      )
    where
      none : (b : Bool) → formed form s ≡ b → ((t : LocalTime) → Typable t → s ≡ text_of t → ⊥) → read_text s offset ≡ Err NotOfTheForm
      none true f other = absurd (other (typed s) (text_typable s f) (text_only s f))
      none false f other = by_form s offset o f

third_of_november_lem : (rest : List ℕ) (offset : ℤ) (field : ℕ) → read_text (third_of_november rest) offset ≡ Ok field
    → (t : LocalTime) × (unpack_of field offset ≡ Ok t) × (t.day ≡ 3) × (t.month ≡ 11)
unfolding third_of_november typed two
third_of_november_lem rest offset field e =
    let i = text_accepted (third_of_november rest) offset field e in
    let same : typed (third_of_november rest) ≡ i.time = ap typed i.characters ∙ text_typed i.time i.typable in
    (i.time, i.unpacks, sym (ap (λ (x : LocalTime). x.day) same), sym (ap (λ (x : LocalTime). x.month) same))

-- ---- the statements

pub local_times : LocalTimes
local_times =
    record {
      packs_exactly = packs_exactly;
      unpacks_exactly = unpacks_exactly;
      there_and_back = λ t offset field. (unpack_packed t offset field, pack_unpacked t offset field);
      pack_refused = pack_refused;
      unpack_refused = unpack_refused;
      reads_text = reads_text;
      accepts_exactly = λ s offset field. (text_accepted s offset field, text_accepts s offset field);
      other_text = other_text;
      third_of_november_lem = third_of_november_lem;
    }
