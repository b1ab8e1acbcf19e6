-- Laws of the refusals' numbers: each is one of the list's, and with a place it tells the refusal, whichever numbers the list has.
use Prim.Native.Nat.{ℕ, ◌<◌}
use mathlib.Core.Path.{◌≡◌, refl, sym, ap₂, ◌∙◌}
use mathlib.Core.Bool.{true, cond}
use mathlib.Core.List.{List, [], ◌∷◌}
use native.Mathlib.Omega.{arith}
use lib.Dec.{eqb}
use Rattle.ground_refusal.specs.Numbers.{refusal_number, is_number, refusal_place, placeless}
use Rattle.ground_refusal.specs.declared.Refusal.{Refusal}
use Rattle.ground_refusal.specs.declared.Refusal.TheVariants.{SectionTooShort, OtherKind, FixedBitZero, SectionLengthOutside, OtherLength, NumberAboveLast, CheckNotZero, NotCurrent, OtherHeading, StoreTooShort, Contradiction, ImpossibleState, Missing, PastBody, PastPart, LeftOver, ReservedBitZero, DigitAboveNine, OutsideSet, ImpossibleDay, OutputTooSmall, TooLarge, OtherChecksum, NotOfTheForm, NotAPacket, NoSyncByte, OtherPid, Scrambled, PastPacket, NoFreeRoom, CaptureTooLong, TeachingBufferFull}

-- each number beside its refusal, at a place; the last below the gap is named, so that of its number `listed` alone speaks
abbrev beside : ℕ → List (ℕ × Refusal)
beside at =
    (1, SectionTooShort) ∷ (2, OtherKind) ∷ (3, FixedBitZero) ∷ (4, SectionLengthOutside) ∷ (5, OtherLength)
    ∷ (6, NumberAboveLast) ∷ (7, CheckNotZero) ∷ (8, NotCurrent) ∷ (9, OtherHeading) ∷ (10, StoreTooShort) ∷ (11, Contradiction)
    ∷ (12, ImpossibleState) ∷ (13, Missing at) ∷ (14, PastBody at) ∷ (15, PastPart at) ∷ (16, LeftOver at)
    ∷ (17, ReservedBitZero at) ∷ (18, DigitAboveNine at) ∷ (19, OutsideSet at) ∷ (20, ImpossibleDay at) ∷ (21, OutputTooSmall)
    ∷ (22, TooLarge) ∷ (23, OtherChecksum) ∷ (refusal_number NotOfTheForm, NotOfTheForm)
    ∷ (30, NotAPacket) ∷ (31, NoSyncByte) ∷ (32, OtherPid) ∷ (33, Scrambled) ∷ (34, PastPacket)
    ∷ (35, NoFreeRoom) ∷ (36, CaptureTooLong) ∷ (37, TeachingBufferFull) ∷ []

-- what stands beside a number; any refusal where nothing does
abbrev found : ℕ → List (ℕ × Refusal) → Refusal
found n [] = SectionTooShort
found n (l ∷ ls) = cond (eqb n l.0) l.1 (found n ls)

-- the refusal that a number and a place tell
abbrev refusal_of : ℕ → ℕ → Refusal
refusal_of number at = found number (beside at)

record Known (r : Refusal) : Type 0 where
  pub listed : is_number (refusal_number r) ≡ true
  -- one or two decimal digits
  pub most : refusal_number r < 100
  pub back : refusal_of (refusal_number r) (refusal_place r) ≡ r

known : (r : Refusal) → Known r
known SectionTooShort = record { listed = refl; most = omega arith; back = refl }
known OtherKind = record { listed = refl; most = omega arith; back = refl }
known FixedBitZero = record { listed = refl; most = omega arith; back = refl }
known SectionLengthOutside = record { listed = refl; most = omega arith; back = refl }
known OtherLength = record { listed = refl; most = omega arith; back = refl }
known NumberAboveLast = record { listed = refl; most = omega arith; back = refl }
known CheckNotZero = record { listed = refl; most = omega arith; back = refl }
known NotCurrent = record { listed = refl; most = omega arith; back = refl }
known OtherHeading = record { listed = refl; most = omega arith; back = refl }
known StoreTooShort = record { listed = refl; most = omega arith; back = refl }
known Contradiction = record { listed = refl; most = omega arith; back = refl }
known ImpossibleState = record { listed = refl; most = omega arith; back = refl }
known (Missing at) = record { listed = refl; most = omega arith; back = refl }
known (PastBody at) = record { listed = refl; most = omega arith; back = refl }
known (PastPart at) = record { listed = refl; most = omega arith; back = refl }
known (LeftOver at) = record { listed = refl; most = omega arith; back = refl }
known (ReservedBitZero at) = record { listed = refl; most = omega arith; back = refl }
known (DigitAboveNine at) = record { listed = refl; most = omega arith; back = refl }
known (OutsideSet at) = record { listed = refl; most = omega arith; back = refl }
known (ImpossibleDay at) = record { listed = refl; most = omega arith; back = refl }
known OutputTooSmall = record { listed = refl; most = omega arith; back = refl }
known TooLarge = record { listed = refl; most = omega arith; back = refl }
known OtherChecksum = record { listed = refl; most = omega arith; back = refl }
known NotOfTheForm = record { listed = refl; most = omega arith; back = refl }
known NotAPacket = record { listed = refl; most = omega arith; back = refl }
known NoSyncByte = record { listed = refl; most = omega arith; back = refl }
known OtherPid = record { listed = refl; most = omega arith; back = refl }
known Scrambled = record { listed = refl; most = omega arith; back = refl }
known PastPacket = record { listed = refl; most = omega arith; back = refl }
known NoFreeRoom = record { listed = refl; most = omega arith; back = refl }
known CaptureTooLong = record { listed = refl; most = omega arith; back = refl }
known TeachingBufferFull = record { listed = refl; most = omega arith; back = refl }

pub number_listed : (r : Refusal) → is_number (refusal_number r) ≡ true
number_listed r = (known r).listed

-- a number has one or two decimal digits
pub number_most : (r : Refusal) → refusal_number r < 100
number_most r = (known r).most

-- a number and a place say which refusal it is
pub one_refusal : (r r' : Refusal) → refusal_number r ≡ refusal_number r' → refusal_place r ≡ refusal_place r' → r ≡ r'
one_refusal r r' n p = sym (known r).back ∙ ap₂ refusal_of n p ∙ (known r').back

-- without its place a refusal has the same number, and place 0
pub placeless_is : (r : Refusal) → (refusal_number (placeless r) ≡ refusal_number r) × (refusal_place (placeless r) ≡ 0)
placeless_is SectionTooShort = (refl, refl)
placeless_is OtherKind = (refl, refl)
placeless_is FixedBitZero = (refl, refl)
placeless_is SectionLengthOutside = (refl, refl)
placeless_is OtherLength = (refl, refl)
placeless_is NumberAboveLast = (refl, refl)
placeless_is CheckNotZero = (refl, refl)
placeless_is NotCurrent = (refl, refl)
placeless_is OtherHeading = (refl, refl)
placeless_is StoreTooShort = (refl, refl)
placeless_is Contradiction = (refl, refl)
placeless_is ImpossibleState = (refl, refl)
placeless_is (Missing at) = (refl, refl)
placeless_is (PastBody at) = (refl, refl)
placeless_is (PastPart at) = (refl, refl)
placeless_is (LeftOver at) = (refl, refl)
placeless_is (ReservedBitZero at) = (refl, refl)
placeless_is (DigitAboveNine at) = (refl, refl)
placeless_is (OutsideSet at) = (refl, refl)
placeless_is (ImpossibleDay at) = (refl, refl)
placeless_is OutputTooSmall = (refl, refl)
placeless_is TooLarge = (refl, refl)
placeless_is OtherChecksum = (refl, refl)
placeless_is NotOfTheForm = (refl, refl)
placeless_is NotAPacket = (refl, refl)
placeless_is NoSyncByte = (refl, refl)
placeless_is OtherPid = (refl, refl)
placeless_is Scrambled = (refl, refl)
placeless_is PastPacket = (refl, refl)
placeless_is NoFreeRoom = (refl, refl)
placeless_is CaptureTooLong = (refl, refl)
placeless_is TeachingBufferFull = (refl, refl)
