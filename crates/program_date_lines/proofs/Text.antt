-- What is known of a text that is accepted at offset 0: it has 19 bytes, and its field has a day of the range.
use Prim.Native.Nat.{ℕ, ◌/◌, ◌^◌, ◌≤◌}
use Rattle.std.specs.Prelude.{Result, Ok, Err}
use Rattle.ground_refusal.specs.declared.Refusal.{Refusal}
use Rattle.time_fields.specs.declared.Moment.{Moment}
use mathlib.Core.List.{List}
use mathlib.Core.Path.{◌≡◌, refl, ap}
use native.Mathlib.Omega.{arith}
use lib.IntN.{pos}
use lib.ListN.{length}
use Rattle.time_fields.specs.Field.{moment_of, read_time}
use Rattle.time_fields.proofs.Reading.{accepted_only}
use Rattle.time_fields.proofs.Inverse.{accepted_instant}
use Rattle.time_offset.specs.Offset.{is_offset}
use Rattle.time_local.specs.declared.LocalTime.{LocalTime}
use Rattle.time_local.specs.Clock.{unpacked_at, unpack_of}
use Rattle.time_local.specs.Text.{read_text, text_of}
use Rattle.time_local.proofs.Characters.{text_accepted}

pub text_length : (s : List ℕ) {f : ℕ} → read_text s (pos 0) ≡ Ok f → length s ≡ 19
unfolding text_of
text_length s {f} e = ap length (text_accepted s (pos 0) f e).characters

abbrev DayOf : ℕ → Type 0
DayOf f = (15079 ≤ f / 2 ^ 24) × (f / 2 ^ 24 ≤ 65535)

-- a field that says a local time says a moment, whose day is the field's
unpacked_day : (f : ℕ) (t : LocalTime) (said : Result Moment Refusal) → read_time f 0 ≡ said → unpacked_at (pos 0) said ≡ Ok t → DayOf f
unfolding unpacked_at moment_of
unpacked_day f t (Ok m) r e =
    let a = accepted_only f 0 r in
    omega (arith, accepted_instant f m a, ap (λ u. u.day) a.is)
unpacked_day f t (Err x) r e = let z : ◌≡◌ {A = ℕ} 0 1 = cc in absurd (omega arith)

pub text_day : (s : List ℕ) {f : ℕ} → read_text s (pos 0) ≡ Ok f → DayOf f
unfolding unpack_of is_offset
text_day s {f} e =
    let text = text_accepted s (pos 0) f e in
    unpacked_day f text.time (read_time f 0) refl text.unpacks
