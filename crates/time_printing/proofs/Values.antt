-- Document 01's worked time, printed, and the refusals in their order, in one theorem about the definitions.
use mathlib.Core.List.{List, [], ◌∷◌}
use mathlib.Core.Path.{◌≡◌, refl}
use Prim.Native.Nat.{ℕ}
use lib.IntN.{pos}
use Rattle.ground_refusal.specs.declared.Refusal.TheVariants.{OutsideSet, DigitAboveNine, ImpossibleDay, OutputTooSmall}
use Rattle.time_days.specs.Calendar.{in_range}
use Rattle.time_fields.specs.Field.{live_mark, worth, decimal_pair, is_decimal, possible, read_time}
use Rattle.time_offset.specs.Offset.{is_offset}
use Rattle.time_local.specs.Clock.{unpacked_at, unpack_of}
use Rattle.time_local.proofs.Values as local
use Rattle.time_printing.specs.Printing.{live_text, refuses, prints, local_text, start_text, end_text, fitting}
use Rattle.time_printing.proofs.Laws.{typed_prints}

-- 03/11/2024 07:45:00
abbrev third_november : List ℕ
third_november = 48 ∷ 51 ∷ 47 ∷ 49 ∷ 49 ∷ 47 ∷ 50 ∷ 48 ∷ 50 ∷ 52 ∷ 32 ∷ 48 ∷ 55 ∷ 58 ∷ 52 ∷ 53 ∷ 58 ∷ 48 ∷ 48 ∷ []

pub values :
    -- "3 November 2024 07:45:00 at +480 is ECC8234500"
    (start_text 0xECC8234500 (pos 480) ≡ prints third_november)
    × (end_text live_mark (pos 480) ≡ prints live_text)
    -- 19 for the offset first, a live end's too; then 18, which the live mark is at the start, and 00FFFFFFFF at either; then 20
    × (end_text live_mark (pos 841) ≡ refuses (OutsideSet 0))
    × (start_text live_mark (pos 480) ≡ refuses (DigitAboveNine 0))
    × (end_text 0x00FFFFFFFF (pos 480) ≡ refuses (DigitAboveNine 0))
    × (start_text 0x3AE6000000 (pos 0) ≡ refuses (ImpossibleDay 0))
    -- 21 last
    × (fitting 18 (start_text 0x3AE6000000 (pos 0)) ≡ refuses (ImpossibleDay 0))
    × (fitting 3 (end_text live_mark (pos 0)) ≡ refuses OutputTooSmall)
    × (fitting 4 (end_text live_mark (pos 0)) ≡ prints live_text)
unfolding start_text end_text local_text live_text fitting unpack_of unpacked_at is_offset read_time is_decimal decimal_pair possible worth in_range
values = (typed_prints (pos 480) 0xECC8234500 third_november (local.values).0, refl, refl, refl, refl, refl, refl, refl, refl)
