-- Laws of printing: each way out of a call, and what an unpacked time leaves for its two digits.
use Prim.Native.Nat.{ℕ}
use Rattle.std.specs.Prelude.{Ok}
use mathlib.Core.Bool.{true, false}
use mathlib.Core.Path.{◌≡◌}
use native.Mathlib.Omega.{arith}
use borrow.Author.Tests.{eq-eqb, ne_eqb}
use lib.IntN.{ℤ}
use Rattle.ground_refusal.specs.declared.Refusal.TheVariants.{OutsideSet}
use Rattle.time_days.proofs.Theorems.{date_of_day, date_within}
use Rattle.time_fields.specs.Field.{live_mark}
use Rattle.time_offset.specs.Offset.{is_offset}
use Rattle.time_local.specs.Clock.{unpack_of}
use Rattle.time_local.specs.Text.{Typable, text_of}
use Rattle.time_local.specs.declared.LocalTime.{LocalTime}
use Rattle.time_local.proofs.Clocks.{clock_within}
use Rattle.time_local.proofs.RoundTrip.{unpacks_exactly}
use Rattle.time_printing.specs.Printing.{live_text, refuses, prints, local_text, start_text}
use Rattle.time_printing.specs.Printing.{end_text}

-- ---- what is printed

module _ (field : ℕ) (offset : ℤ) where
  pub start_at : (t : LocalTime) → unpack_of field offset ≡ Ok t → start_text field offset ≡ prints (text_of t)
  unfolding start_text local_text
  start_at t e = rw e

  pub end_no_offset : is_offset offset ≡ false → end_text field offset ≡ refuses (OutsideSet 0)
  unfolding end_text
  end_no_offset o = rw o

  pub end_live : is_offset offset ≡ true → field ≡ live_mark → end_text field offset ≡ prints live_text
  unfolding end_text
  end_live o e = rw (o, eq-eqb field live_mark e)

  pub end_other : is_offset offset ≡ true → (field ≡ live_mark → ⊥) → end_text field offset ≡ start_text field offset
  unfolding end_text
  end_other o n = rw (o, ne_eqb field live_mark n)

  -- a local time that was unpacked has a date of the range and a time of day
  pub unpacked_typable : (t : LocalTime) → unpack_of field offset ≡ Ok t → Typable t
  unpacked_typable t e =
      let i = (unpacks_exactly t offset field).0 e in
      let d = date_within i.local.day _ (date_of_day t.year t.month t.day i.local.day i.shows.day) in
      let c = clock_within t i.shows.clock in
      record {
        day = omega (arith, d.day_until);
        month = omega (arith, d.month_until);
        year = omega (arith, d.year_until);
        hour = omega (arith, c.hour);
        minute = omega (arith, c.minute);
        second = omega (arith, c.second);
      }
