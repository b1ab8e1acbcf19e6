-- What a reader has to believe of refusals: the number that documents 01 and 02 give each case, its place, and the case without its place.
use Rattle.std.specs.Prelude.{ℕ, Bool, ◌&&◌, ◌||◌, leb}
use Rattle.ground_refusal.specs.declared.Refusal.{Refusal}
use Rattle.ground_refusal.specs.declared.Refusal.TheVariants.{SectionTooShort, OtherKind, FixedBitZero, SectionLengthOutside, OtherLength, NumberAboveLast, CheckNotZero, NotCurrent, OtherHeading, StoreTooShort, Contradiction, ImpossibleState, Missing, PastBody, PastPart, LeftOver, ReservedBitZero, DigitAboveNine, OutsideSet, ImpossibleDay, OutputTooSmall, TooLarge, OtherChecksum, NotOfTheForm, NotAPacket, NoSyncByte, OtherPid, Scrambled, PastPacket, NoFreeRoom, CaptureTooLong, TeachingBufferFull}

-- the numbers of document 01's list, and of the requests of document 02
abbrev pub refusal_number : Refusal → ℕ
refusal_number SectionTooShort = 1
refusal_number OtherKind = 2
refusal_number FixedBitZero = 3
refusal_number SectionLengthOutside = 4
refusal_number OtherLength = 5
refusal_number NumberAboveLast = 6
refusal_number CheckNotZero = 7
refusal_number NotCurrent = 8
refusal_number OtherHeading = 9
refusal_number StoreTooShort = 10
refusal_number Contradiction = 11
refusal_number ImpossibleState = 12
refusal_number (Missing at) = 13
refusal_number (PastBody at) = 14
refusal_number (PastPart at) = 15
refusal_number (LeftOver at) = 16
refusal_number (ReservedBitZero at) = 17
refusal_number (DigitAboveNine at) = 18
refusal_number (OutsideSet at) = 19
refusal_number (ImpossibleDay at) = 20
refusal_number OutputTooSmall = 21
refusal_number TooLarge = 22
refusal_number OtherChecksum = 23
refusal_number NotOfTheForm = 24
refusal_number NotAPacket = 30
refusal_number NoSyncByte = 31
refusal_number OtherPid = 32
refusal_number Scrambled = 33
refusal_number PastPacket = 34
refusal_number NoFreeRoom = 35
refusal_number CaptureTooLong = 36
refusal_number TeachingBufferFull = 37

-- the numbers that the list has; it may have gaps. 25 is gone, and not given again.
abbrev pub is_number : ℕ → Bool
is_number n = (leb 1 n && leb n 24) || (leb 30 n && leb n 37)

-- "A refusal returns its number and a place": the place is 0 where the list gives none
abbrev pub refusal_place : Refusal → ℕ
refusal_place SectionTooShort = 0
refusal_place OtherKind = 0
refusal_place FixedBitZero = 0
refusal_place SectionLengthOutside = 0
refusal_place OtherLength = 0
refusal_place NumberAboveLast = 0
refusal_place CheckNotZero = 0
refusal_place NotCurrent = 0
refusal_place OtherHeading = 0
refusal_place StoreTooShort = 0
refusal_place Contradiction = 0
refusal_place ImpossibleState = 0
refusal_place (Missing at) = at
refusal_place (PastBody at) = at
refusal_place (PastPart at) = at
refusal_place (LeftOver at) = at
refusal_place (ReservedBitZero at) = at
refusal_place (DigitAboveNine at) = at
refusal_place (OutsideSet at) = at
refusal_place (ImpossibleDay at) = at
refusal_place OutputTooSmall = 0
refusal_place TooLarge = 0
refusal_place OtherChecksum = 0
refusal_place NotOfTheForm = 0
refusal_place NotAPacket = 0
refusal_place NoSyncByte = 0
refusal_place OtherPid = 0
refusal_place Scrambled = 0
refusal_place PastPacket = 0
refusal_place NoFreeRoom = 0
refusal_place CaptureTooLong = 0
refusal_place TeachingBufferFull = 0

-- a refusal without its place, as writers answer it: "and always 0 from writers"
abbrev pub placeless : Refusal → Refusal
placeless SectionTooShort = SectionTooShort
placeless OtherKind = OtherKind
placeless FixedBitZero = FixedBitZero
placeless SectionLengthOutside = SectionLengthOutside
placeless OtherLength = OtherLength
placeless NumberAboveLast = NumberAboveLast
placeless CheckNotZero = CheckNotZero
placeless NotCurrent = NotCurrent
placeless OtherHeading = OtherHeading
placeless StoreTooShort = StoreTooShort
placeless Contradiction = Contradiction
placeless ImpossibleState = ImpossibleState
placeless (Missing at) = Missing 0
placeless (PastBody at) = PastBody 0
placeless (PastPart at) = PastPart 0
placeless (LeftOver at) = LeftOver 0
placeless (ReservedBitZero at) = ReservedBitZero 0
placeless (DigitAboveNine at) = DigitAboveNine 0
placeless (OutsideSet at) = OutsideSet 0
placeless (ImpossibleDay at) = ImpossibleDay 0
placeless OutputTooSmall = OutputTooSmall
placeless TooLarge = TooLarge
placeless OtherChecksum = OtherChecksum
placeless NotOfTheForm = NotOfTheForm
placeless NotAPacket = NotAPacket
placeless NoSyncByte = NoSyncByte
placeless OtherPid = OtherPid
placeless Scrambled = Scrambled
placeless PastPacket = PastPacket
placeless NoFreeRoom = NoFreeRoom
placeless CaptureTooLong = CaptureTooLong
placeless TeachingBufferFull = TeachingBufferFull
