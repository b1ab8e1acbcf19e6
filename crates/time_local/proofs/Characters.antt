-- Text and numbers are one: each local time that the form has room for is read from its characters, and each formed text is the characters of its numbers.
use mathlib.Core.Path.{◌≡◌, refl, sym, ap, ◌∙◌}
use Rattle.std.specs.Prelude.{Ok}
use mathlib.Core.Bool.{Bool, true, false, ◌&&◌}
use mathlib.Core.List.{List, [], ◌∷◌}
use Prim.Native.Nat.{ℕ, zero, suc, ◌+◌, ◌-◌, ◌*◌, ◌/◌, ◌%◌, ◌≤◌, ◌<◌}
use native.Mathlib.Omega.{arith}
use borrow.Author.Tests.{le-leb, eqb-true}
use lib.Dec.{eqb}
use lib.IntN.{ℤ}
use lib.ListN.{length, get_or, drop, drop_of_length-le}
use lib.Seq.{drop-cons}
use Rattle.ground_choices.proofs.Tests.{and_of}
use Rattle.time_offset.specs.Offset.{is_offset}
use Rattle.time_local.specs.declared.LocalTime.{LocalTime}
use Rattle.time_local.specs.Clock.{pack_of}
use Rattle.time_local.specs.Text.{form, fits, formed, TwoDigits, two, typed, read_text, Typable, tens, units, text_of, IsText}
use Rattle.time_local.proofs.Clocks.{pack_by}
use Rattle.time_local.proofs.Forms.{same_length, fits_at, places, no_offset, by_form}
use Rattle.time_local.proofs.RoundTrip.{unpack_packed}

-- ---- from numbers to characters and back

tens_fits : (n : ℕ) → n ≤ 99 → fits 48 (tens n) ≡ true
unfolding fits tens
tens_fits n h = and_of (le-leb 48 (48 + n / 10) (omega arith)) (le-leb (48 + n / 10) 57 (omega arith))

units_fits : (n : ℕ) → fits 48 (units n) ≡ true
unfolding fits units
units_fits n = and_of (le-leb 48 (48 + n % 10) (omega arith)) (le-leb (48 + n % 10) 57 (omega arith))

pair_fits : (n : ℕ) {rest : Bool} → n ≤ 99 → rest ≡ true → (fits 48 (tens n) && (fits 48 (units n) && rest)) ≡ true
pair_fits n h r = and_of (tens_fits n h) (and_of (units_fits n) r)

worth_back : (n : ℕ) → (tens n - 48) * 10 + (units n - 48) ≡ n
unfolding tens units
worth_back n = omega arith

module _ (t : LocalTime) (r : Typable t) where
  pub text_formed : formed form (text_of t) ≡ true
  unfolding formed form text_of fits
  text_formed =
      pair_fits t.day r.day
      (pair_fits t.month r.month
      (pair_fits (t.year / 100) (omega arith)
      (pair_fits (t.year % 100) (omega arith)
      (pair_fits t.hour r.hour
      (pair_fits t.minute r.minute
      (pair_fits t.second r.second refl))))))

  pub text_typed : typed (text_of t) ≡ t
  unfolding typed two text_of
  text_typed =
      let whole : t.year / 100 * 100 + t.year % 100 ≡ t.year = omega arith in
      λ i.
      record {
        day = worth_back t.day i;
        month = worth_back t.month i;
        year = ((λ j. worth_back (t.year / 100) j * 100 + worth_back (t.year % 100) j) ∙ whole) i;
        hour = worth_back t.hour i;
        minute = worth_back t.minute i;
        second = worth_back t.second i;
      }

  -- the characters of a local time are read as that local time
  pub reads_text : (offset : ℤ) → read_text (text_of t) offset ≡ pack_of t offset
  reads_text offset = by (is_offset offset) refl
    where
      by : (b : Bool) → is_offset offset ≡ b → read_text (text_of t) offset ≡ pack_of t offset
      by true o = by_form (text_of t) offset o text_formed ∙ ap (λ (x : LocalTime). pack_of x offset) text_typed
      by false o = no_offset (text_of t) offset o ∙ sym (pack_by t offset o)

-- ---- from characters to numbers and back

module _ (s : List ℕ) (i : ℕ) (d : TwoDigits s i) where
  two_small : two s i ≤ 99
  unfolding two
  two_small = omega arith

  tens_two : get_or s i 0 ≡ tens (two s i)
  unfolding two tens
  tens_two = omega arith

  units_two : get_or s (i + 1) 0 ≡ units (two s i)
  unfolding two units
  units_two = omega arith

-- the n elements of a list from j on
run : ℕ → ℕ → List ℕ → List ℕ
run zero j s = []
run (suc n) j s = get_or s j 0 ∷ run n (suc j) s

run_is : (n j : ℕ) (s : List ℕ) → j + n ≡ length s → drop j s ≡ run n j s
unfolding run
run_is zero j s e = drop_of_length-le s {i = j} (omega arith)
run_is (suc n) j s e =
    drop-cons s j 0 (omega arith) ∙ ap (λ (l : List ℕ). get_or s j 0 ∷ l) (run_is n (suc j) s (omega arith))

module _ (s : List ℕ) (e : formed form s ≡ true) where
  mark : (i : ℕ) {c : ℕ} → i < 19 → get_or form i 0 ≡ c → eqb c 48 ≡ false → get_or s i 0 ≡ c
  unfolding form fits
  mark i {c} h p n = eqb-true _ _ (simp n at (rw p at (fits_at form s i e h)))

  pub text_typable : Typable (typed s)
  unfolding typed
  text_typable =
      let p = places s e in
      let c = two_small s 6 p.century in
      let y = two_small s 8 p.year in
      record {
        day = two_small s 0 p.day;
        month = two_small s 3 p.month;
        year = omega arith;
        hour = two_small s 11 p.hour;
        minute = two_small s 14 p.minute;
        second = two_small s 17 p.second;
      }

  -- a formed text is the characters of its numbers, day first
  pub text_only : s ≡ text_of (typed s)
  unfolding run form text_of typed
  text_only =
      let p = places s e in
      let c = two_small s 6 p.century in
      let y = two_small s 8 p.year in
      let high : two s 6 ≡ (two s 6 * 100 + two s 8) / 100 = omega arith in
      let low : two s 8 ≡ (two s 6 * 100 + two s 8) % 100 = omega arith in
      run_is 19 0 s (omega (arith, same_length form s e))
      ∙ (λ i.
      tens_two s 0 p.day i ∷ units_two s 0 p.day i ∷ mark 2 (omega arith) refl refl i
      ∷ tens_two s 3 p.month i ∷ units_two s 3 p.month i ∷ mark 5 (omega arith) refl refl i
      ∷ (tens_two s 6 p.century ∙ ap tens high) i ∷ (units_two s 6 p.century ∙ ap units high) i
      ∷ (tens_two s 8 p.year ∙ ap tens low) i ∷ (units_two s 8 p.year ∙ ap units low) i ∷ mark 10 (omega arith) refl refl i
      ∷ tens_two s 11 p.hour i ∷ units_two s 11 p.hour i ∷ mark 13 (omega arith) refl refl i
      ∷ tens_two s 14 p.minute i ∷ units_two s 14 p.minute i ∷ mark 16 (omega arith) refl refl i
      ∷ tens_two s 17 p.second i ∷ units_two s 17 p.second i ∷ [])

-- an accepted text is the characters of a local time, and the field gives that local time back
pub text_accepted : (s : List ℕ) (offset : ℤ) (f : ℕ) → read_text s offset ≡ Ok f → IsText s offset f
text_accepted s offset f e = by (is_offset offset) refl
  where
    on : is_offset offset ≡ true → (b : Bool) → formed form s ≡ b → IsText s offset f
    on o true p =
        let q : pack_of (typed s) offset ≡ Ok f = sym (by_form s offset o p) ∙ e in
        record {
          time = typed s;
          typable = text_typable s p;
          characters = text_only s p;
          packs = q;
          unpacks = unpack_packed (typed s) offset f q;
        }
    on o false p = let z : ◌≡◌ {A = ℕ} 0 1 = cc (by_form s offset o p) in absurd (omega arith)

    by : (b : Bool) → is_offset offset ≡ b → IsText s offset f
    by true o = on o (formed form s) refl
    by false o = let z : ◌≡◌ {A = ℕ} 0 1 = cc (no_offset s offset o) in absurd (omega arith)
