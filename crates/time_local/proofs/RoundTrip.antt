-- Packing and unpacking at one offset are exact inverses: each accepted local time comes back from its field, and each accepted field from its local time.
use mathlib.Core.Path.{◌≡◌, refl, sym, ap, ◌∙◌, subst}
use Rattle.std.specs.Prelude.{Result, Ok, Err}
use Rattle.time_days.specs.declared.Date.{Date}
use mathlib.Core.Bool.{Bool, true, false}
use mathlib.Core.Logic.{◌↔◌}
use Prim.Native.Nat.{ℕ, ◌/◌, ◌%◌}
use native.Mathlib.Omega.{arith}
use borrow.Author.Tests.{le-leb}
use lib.IntN.{ℤ}
use Rattle.ground_refusal.specs.declared.Refusal.{Refusal}
use Rattle.time_days.specs.Calendar.{day_of, date_of}
use Rattle.time_days.proofs.Theorems.{date_of_day, day_of_date}
use Rattle.time_fields.specs.declared.Moment.{Moment}
use Rattle.time_fields.specs.Field.{is_instant, read_time}
use Rattle.ground_choices.proofs.Tests.{and_of}
use Rattle.time_fields.proofs.Instants.{instant}
use Rattle.time_fields.proofs.Inverse.{reads_written, writes_read}
use Rattle.time_offset.specs.Offset.{is_offset, to_utc, to_local}
use Rattle.time_offset.proofs.Moving.{arrived}
use Rattle.time_offset.proofs.Exact.{utc_exactly, local_exactly}
use Rattle.time_local.specs.declared.LocalTime.{LocalTime}
use Rattle.time_local.specs.Clock.{is_clock, second_of, local_moment, written, packed_at, pack_of, at_second, dated, unpacked_at, unpack_of, Shows, IsFieldOf}
use Rattle.time_local.proofs.Clocks.{clock_within, no_day, on_day_lem, pack_by, unpack_by}

-- ---- a local moment and its date and time

module _ (t : LocalTime) (m : Moment) where
  moment_shows : Shows t m → local_moment t ≡ Ok m
  moment_shows s = on_day_lem t s.day s.clock ∙ ap (λ (n : ℕ). Ok (arrived m.day n)) (sym s.second)

  shows_moment : local_moment t ≡ Ok m → Shows t m
  shows_moment e = on (day_of t.year t.month t.day) refl
    where
      at : {n : ℕ} → day_of t.year t.month t.day ≡ Ok n → (b : Bool) → is_clock t ≡ b → Shows t m
      at {n} d true c =
          let q : arrived n (second_of t) ≡ m = cc (on_day_lem t d c) in
          record { day = d ∙ ap (λ (x : Moment). Ok x.day) q; clock = c; second = sym (ap (λ (x : Moment). x.second) q) }
      at d false c = let z : ◌≡◌ {A = ℕ} 0 1 = cc (on_day_lem t d c) in absurd (omega arith)

      on : (a : Result ℕ Refusal) → day_of t.year t.month t.day ≡ a → Shows t m
      on (Ok n) d = at d (is_clock t) refl
      on (Err r) d = let z : ◌≡◌ {A = ℕ} 0 1 = cc (no_day t d) in absurd (omega arith)

  dated_shows : Shows t m → dated (Ok m) ≡ Ok t
  unfolding dated at_second second_of
  dated_shows s =
      let c = clock_within t s.clock in
      let e = s.second in
      let h : m.second / 3600 ≡ t.hour = omega arith in
      let n : m.second / 60 % 60 ≡ t.minute = omega arith in
      let q : m.second % 60 ≡ t.second = omega arith in
      ap (at_second m.second) (date_of_day t.year t.month t.day m.day s.day)
      ∙ (λ i. Ok (record { year = t.year; month = t.month; day = t.day; hour = h i; minute = n i; second = q i }))

  shows_dated : is_instant m ≡ true → dated (Ok m) ≡ Ok t → Shows t m
  unfolding dated at_second is_clock second_of
  shows_dated i e = on (date_of m.day) refl e
    where
      on : (a : Result Date Refusal) → date_of m.day ≡ a → at_second m.second a ≡ Ok t → Shows t m
      on (Ok date) d e =
          let w = instant m i in
          let h = m.second / 3600 in
          let n = m.second / 60 % 60 in
          let s = m.second % 60 in
          let q : record { year = date.year; month = date.month; day = date.day; hour = h; minute = n; second = s } ≡ t = cc in
          subst (λ (x : LocalTime). Shows x m) q
          (record {
            day = day_of_date m.day date d;
            clock = and_of (le-leb h 23 (omega arith)) (and_of (le-leb n 59 (omega arith)) (le-leb s 59 (omega arith)));
            second = omega arith;
          })
      on (Err r) d e = let z : ◌≡◌ {A = ℕ} 0 1 = cc in absurd (omega arith)

-- ---- a step that answered was handed a moment

handed : {A : Type 0} (step : Result Moment Refusal → A) (answer : A) → ((r : Refusal) → step (Err r) ≡ answer → ⊥)
    → (x : Result Moment Refusal) → step x ≡ answer → (m : Moment) × (x ≡ Ok m) × (step (Ok m) ≡ answer)
handed step answer never (Ok m) e = (m, refl, e)
handed step answer never (Err r) e = absurd (never r e)

no_field : (r : Refusal) (f : ℕ) → Err r ≡ Ok f → ⊥
no_field r f e = let z : ◌≡◌ {A = ℕ} 0 1 = cc in omega arith

no_time : (r : Refusal) (t : LocalTime) → Err r ≡ Ok t → ⊥
no_time r t e = let z : ◌≡◌ {A = ℕ} 0 1 = cc in omega arith

-- ---- both answer exactly where the field is that of the local time

module _ (t : LocalTime) (offset : ℤ) (f : ℕ) where
  packs : IsFieldOf t offset f → pack_of t offset ≡ Ok f
  unfolding packed_at written
  packs s =
      pack_by t offset s.is_local.offset_is
      ∙ ap (packed_at offset) (moment_shows t s.local s.shows)
      ∙ ap written ((utc_exactly s.local s.utc offset).1 s.is_local)
      ∙ s.written

  packs_only : pack_of t offset ≡ Ok f → IsFieldOf t offset f
  unfolding packed_at written
  packs_only e = by (is_offset offset) refl
    where
      by : (b : Bool) → is_offset offset ≡ b → IsFieldOf t offset f
      by true o =
          let p = handed (packed_at offset) (Ok f) (λ r. no_field r f) (local_moment t) (sym (pack_by t offset o) ∙ e) in
          let w = handed written (Ok f) (λ r. no_field r f) (to_utc p.0 offset) p.2 in
          record {
            local = p.0;
            utc = w.0;
            shows = shows_moment t p.0 p.1;
            is_local = (utc_exactly p.0 w.0 offset).0 w.1;
            written = w.2;
          }
      by false o = let z : ◌≡◌ {A = ℕ} 0 1 = cc (pack_by t offset o) in absurd (omega arith)

  unpacks : IsFieldOf t offset f → unpack_of f offset ≡ Ok t
  unfolding unpacked_at
  unpacks s =
      unpack_by f offset s.is_local.offset_is
      ∙ ap (unpacked_at offset) (reads_written s.utc 0 s.written)
      ∙ ap dated ((local_exactly s.local s.utc offset).1 s.is_local)
      ∙ dated_shows t s.local s.shows

  unpacks_only : unpack_of f offset ≡ Ok t → IsFieldOf t offset f
  unfolding unpacked_at dated
  unpacks_only e = by (is_offset offset) refl
    where
      by : (b : Bool) → is_offset offset ≡ b → IsFieldOf t offset f
      by true o =
          let p = handed (unpacked_at offset) (Ok t) (λ r. no_time r t) (read_time f 0) (sym (unpack_by f offset o) ∙ e) in
          let w = handed dated (Ok t) (λ r. no_time r t) (to_local p.0 offset) p.2 in
          let i = (local_exactly w.0 p.0 offset).0 w.1 in
          record {
            local = w.0;
            utc = p.0;
            shows = shows_dated t w.0 i.local_is w.2;
            is_local = i;
            written = writes_read f 0 p.1;
          }
      by false o = let z : ◌≡◌ {A = ℕ} 0 1 = cc (unpack_by f offset o) in absurd (omega arith)

  pub packs_exactly : (pack_of t offset ≡ Ok f) ↔ IsFieldOf t offset f
  packs_exactly = (packs_only, packs)

  pub unpacks_exactly : (unpack_of f offset ≡ Ok t) ↔ IsFieldOf t offset f
  unpacks_exactly = (unpacks_only, unpacks)

  -- a packed local time is unpacked as it was, and an unpacked field packed as it was
  pub unpack_packed : pack_of t offset ≡ Ok f → unpack_of f offset ≡ Ok t
  unpack_packed e = unpacks (packs_only e)

  pub pack_unpacked : unpack_of f offset ≡ Ok t → pack_of t offset ≡ Ok f
  pack_unpacked e = packs (unpacks_only e)
