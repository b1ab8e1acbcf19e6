-- What is typed prints as it was typed, and nothing but a live end prints as the word live.
use Prim.Native.Nat.{ℕ}
use Rattle.std.specs.Prelude.{Result, Ok, Err}
use Rattle.time_local.specs.declared.LocalTime.{LocalTime}
use mathlib.Core.Bool.{Bool, true, false}
use mathlib.Core.List.{List}
use mathlib.Core.Path.{◌≡◌, refl, sym, ap, ◌∙◌}
use native.Mathlib.Omega.{arith}
use borrow.Author.Tests.{eqb-true, eqb-false}
use lib.Dec.{eqb}
use lib.IntN.{ℤ}
use lib.ListN.{length}
use Rattle.ground_refusal.proofs.Exits.{ok_pair_inj}
use Rattle.ground_refusal.specs.declared.Refusal.{Refusal}
use Rattle.ground_refusal.specs.declared.Refusal.TheVariants.{NotOfTheForm}
use Rattle.time_fields.specs.Field.{live_mark, decimal_pair, is_decimal, read_time}
use Rattle.time_offset.specs.Offset.{is_offset}
use Rattle.time_local.specs.Clock.{unpacked_at, unpack_of}
use Rattle.time_local.specs.Text.{form, fits, formed, read_text, text_of}
use Rattle.time_local.proofs.Characters.{reads_text, text_accepted}
use Rattle.time_local.proofs.Clocks.{unpack_by}
use Rattle.time_local.proofs.Forms.{no_offset, by_form}
use Rattle.time_local.proofs.RoundTrip.{pack_unpacked}
use Rattle.time_printing.specs.Printing.{live_text, refuses, prints, local_text, start_text, end_text}
use Rattle.time_printing.specs.Typing.{end_typed, with_end, together, typed_times}
use Rattle.time_printing.specs.Promised.{PrintsAsTyped}
use Rattle.time_printing.proofs.Calls.{start_at, end_live, end_other, end_no_offset, unpacked_typable}

prints_same : {s t : List ℕ} → prints s ≡ prints t → s ≡ t
prints_same e = cc

not_printed : {A : Type 0} {r : Refusal} {s : List ℕ} → refuses r ≡ prints s → A
not_printed e = absurd (let z : ◌≡◌ {A = ℕ} 0 1 = cc in omega arith)

-- ---- a start

module _ (offset : ℤ) (field : ℕ) where
  pub typed_prints : (s : List ℕ) → read_text s offset ≡ Ok field → start_text field offset ≡ prints s
  typed_prints s e =
      let i = text_accepted s offset field e in
      start_at field offset i.time i.unpacks ∙ ap prints (sym i.characters)

  -- what is printed is the characters of the local time that the field unpacks to
  printed_time : (s : List ℕ) (u : Result LocalTime Refusal) → unpack_of field offset ≡ u → local_text u ≡ prints s → read_text s offset ≡ Ok field
  unfolding local_text
  printed_time s (Ok t) q e =
      ap (λ x. read_text x offset) (sym (prints_same e)) ∙ reads_text t (unpacked_typable field offset t q) offset ∙ pack_unpacked t offset field q
  printed_time s (Err r) q e = not_printed e

  pub printed_reads : (s : List ℕ) → start_text field offset ≡ prints s → read_text s offset ≡ Ok field
  unfolding start_text
  printed_reads s e = printed_time s (unpack_of field offset) refl e

-- the live mark is no start: 18
pub no_start : (offset : ℤ) (s : List ℕ) → start_text live_mark offset ≡ prints s → ⊥
unfolding start_text local_text unpacked_at read_time is_decimal decimal_pair
no_start offset s e = by (is_offset offset) refl
  where
    by : (b : Bool) → is_offset offset ≡ b → ⊥
    by true o = not_printed (sym (ap local_text (unpack_by live_mark offset o)) ∙ e)
    by false o = not_printed (sym (ap local_text (unpack_by live_mark offset o)) ∙ e)

-- no text of the form is the word live
not_live : (offset : ℤ) (field : ℕ) → read_text live_text offset ≡ Ok field → ⊥
unfolding live_text text_of
not_live offset field e =
    let i = text_accepted live_text offset field e in
    let l : ◌≡◌ {A = ℕ} 4 19 = ap length i.characters in
    absurd (omega arith)

-- ---- an end

module _ (offset : ℤ) (field : ℕ) where
  pub typed_prints_end : (s : List ℕ) → read_text s offset ≡ Ok field → end_text field offset ≡ prints s
  typed_prints_end s e = by (is_offset offset) refl
    where
      by : (b : Bool) → is_offset offset ≡ b → end_text field offset ≡ prints s
      by true o =
          end_other field offset o (λ l. no_start offset s (ap (λ x. start_text x offset) (sym l) ∙ typed_prints offset field s e))
          ∙ typed_prints offset field s e
      by false o = absurd (let z : ◌≡◌ {A = ℕ} 0 1 = cc (no_offset s offset o) in omega arith)

  -- nothing else prints as live
  pub live_only : end_text field offset ≡ prints live_text → (is_offset offset ≡ true) × (field ≡ live_mark)
  live_only e = by (is_offset offset) refl
    where
      on : (b : Bool) → is_offset offset ≡ true → eqb field live_mark ≡ b → (is_offset offset ≡ true) × (field ≡ live_mark)
      on true o q = (o, eqb-true field live_mark q)
      on false o q =
          absurd (not_live offset field (printed_reads offset field live_text (sym (end_other field offset o (eqb-false field live_mark q)) ∙ e)))

      by : (b : Bool) → is_offset offset ≡ b → (is_offset offset ≡ true) × (field ≡ live_mark)
      by true o = on (eqb field live_mark) o refl
      by false o = not_printed (sym (end_no_offset field offset o) ∙ e)

  pub start_not_live : start_text field offset ≡ prints live_text → ⊥
  start_not_live e = not_live offset field (printed_reads offset field live_text e)

-- ---- both

pub live_typed : (live : Bool) (s : List ℕ) (offset : ℤ) → live ≡ true → end_typed live s offset ≡ Ok live_mark
unfolding end_typed
live_typed live s offset e = rw e

pub text_typed : (live : Bool) (s : List ℕ) (offset : ℤ) → live ≡ false → end_typed live s offset ≡ read_text s offset
unfolding end_typed
text_typed live s offset e = rw e

pub typed_as : (start end : List ℕ) (live : Bool) (offset : ℤ) (x y : Result ℕ Refusal) → read_text start offset ≡ x → end_typed live end offset ≡ y
    → typed_times start live end offset ≡ together x y
unfolding typed_times
typed_as start end live offset x y e f = rw (e, f)

-- both fields come of the texts that were typed
both_fields : (x y : Result ℕ Refusal) (a b : ℕ) → together x y ≡ Ok (a, b) → (x ≡ Ok a) × (y ≡ Ok b)
unfolding together with_end
both_fields (Ok x) (Ok y) a b e = let p = ok_pair_inj e in (ap Ok p.0, ap Ok p.1)
both_fields (Ok x) (Err r) a b e = absurd (let z : ◌≡◌ {A = ℕ} 0 1 = cc in omega arith)
both_fields (Err r) y a b e = absurd (let z : ◌≡◌ {A = ℕ} 0 1 = cc in omega arith)

pub typed_both : (start end : List ℕ) (live : Bool) (offset : ℤ) (a b : ℕ) → typed_times start live end offset ≡ Ok (a, b)
    → (read_text start offset ≡ Ok a) × (end_typed live end offset ≡ Ok b)
unfolding typed_times
typed_both start end live offset a b e = both_fields (read_text start offset) (end_typed live end offset) a b e

-- ---- the promise

live_not_typed : (offset : ℤ) → is_offset offset ≡ true → read_text live_text offset ≡ Err NotOfTheForm
unfolding live_text formed form fits
live_not_typed offset o = by_form live_text offset o refl

pub prints_as_typed : PrintsAsTyped
prints_as_typed =
    record {
      start_exactly = λ s offset field. (printed_reads offset field s, typed_prints offset field s);
      end_typed_lem = λ s offset field. typed_prints_end offset field s;
      live_exactly = λ offset field. (live_only offset field, λ x. end_live field offset x.0 x.1);
      start_not_live = start_not_live;
      live_not_typed = live_not_typed;
    }
