-- `time_local::packed` meets its contract: it moves the local moment to UTC and writes its field, and where either is refused, that is 20.
use Rattle.std.specs.Prelude.{◌≡◌, true, ℕ, ℤ, Result, Ok, Err, Some, None}
use Rattle.std.specs.Result.{result_ok}
use mathlib.Core.Path.{refl, sym, ap, ◌∙◌}
use mir.Facts.{to_z-of_z}
use Rattle.ground_refusal.specs.declared.Refusal.{Refusal}
use Rattle.time_fields.specs.declared.Moment.{Moment}
use Rattle.time_offset.specs.Offset.{is_offset, to_utc}
use Rattle.time_local.specs.declared.LocalTime.{LocalTime}
use Rattle.time_local.specs.Clock.{local_moment, written, packed_as, pack_of}
use Rattle.time_local.proofs.Clocks.{packs_moment, no_moment, no_utc}
use Rattle.time_local.proofs.packed.Goals as goal

refused : (x : Result Moment Refusal) → result_ok x ≡ None → (r : Refusal) × (x ≡ Err r)
refused (Ok m) e = cc
refused (Err r) e = (r, refl)

taken : (x : Result Moment Refusal) {m : Moment} → result_ok x ≡ Some m → x ≡ Ok m
taken (Ok n) e = cc
taken (Err r) e = cc

written_as : (t : LocalTime) (offset : ℤ) → is_offset offset ≡ true → {local : Moment} → local_moment t ≡ Ok local
    → (x : Result ℕ Refusal) → written (to_utc local offset) ≡ x → packed_as (result_ok x) ≡ pack_of t offset
unfolding packed_as
written_as t offset o l (Ok field) e = sym (packs_moment t offset o l e)
written_as t offset o l (Err r) e = sym (no_utc t offset o l e)

pub returns-in_err-local : goal.returns-in_err-local
unfolding packed_as
returns-in_err-local c =
    ap packed_as c.from_residual.ensures
    ∙ sym (no_moment _ _ c.requires (sym c.local_moment.ensures ∙ (refused _ (sym c.ok.ensures.value ∙ c.in_err-local.was)).1))

pub returns : goal.returns
returns c =
    ap packed_as c.ok-2.ensures.value
    ∙ written_as _ _ c.requires (sym c.local_moment.ensures ∙ taken _ (sym c.ok.ensures.value ∙ c.in_ok-local.was)) _
    (ap (λ (z : ℤ). written (to_utc c.in_ok-local.local z)) (sym (to_z-of_z c.ranges.offset)) ∙ sym c.field_at.ensures)
