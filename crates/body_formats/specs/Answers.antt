-- What a reader has to believe of the code's answers about a body: where a part ends, a number, and the part that opaque bytes fill.
use Rattle.std.specs.Prelude.{ℕ, zero, suc, ◌+◌, ◌-◌, ◌/◌, List, ◌&&◌, length, get_or, ltb, leb, if◌then◌else◌, Result, Ok, Err}
use Rattle.ground_refusal.specs.declared.Refusal.{Refusal}
use Rattle.ground_refusal.specs.declared.Refusal.TheVariants.{OutsideSet}
use Rattle.body_formats.specs.Reading.{Reading, found, refused, and_then, need, within}
use Rattle.body_formats.specs.Format.{Format, count, repeat, opaque}

-- the position after what was found
abbrev pub step_of : {A : Type 0} → Reading A → Result ℕ Refusal
step_of (found a q) = Ok q
step_of (refused r) = Err r

abbrev pub number_of : Reading ℕ → Result (ℕ × ℕ) Refusal
number_of (found x q) = Ok (x, q)
number_of (refused r) = Err r

-- a number at p that is to be one from lo to hi
abbrev pub number_among : ℕ → ℕ → ℕ → Result (ℕ × ℕ) Refusal → Result (ℕ × ℕ) Refusal
number_among lo hi p (Ok (v, q)) = if leb lo v && leb v hi then Ok (v, q) else Err (OutsideSet p)
number_among lo hi p (Err r) = Err r

-- "opaque bytes as the part of the body they fill": where the bytes that end at q begin, and how many they are
abbrev pub part_of : Reading (List ℕ) → Result (ℕ × ℕ) Refusal
part_of (found xs q) = Ok (q - length xs, length xs)
part_of (refused r) = Err r

-- a field of several bytes at p, as the part of the body it fills
abbrev pub field_part : {A : Type 0} → ℕ → Reading A → Result (ℕ × ℕ) Refusal
field_part p (found a q) = Ok (p, q - p)
field_part p (refused r) = Err r

-- where what begins at `at` ends, if it ends in the body and in its part
unfoldable pub reached : List ℕ → ℕ → ℕ → ℕ → Result ℕ Refusal
reached s l at end = step_of {A = Unit} (within s l at end (found tt end))

unfoldable pub ended : {A : Type 0} → Format A → List ℕ → ℕ → ℕ → Result ℕ Refusal
ended F s l p = step_of (F.parse s l p)

-- n things, one after the other
unfoldable pub ended_all : {A : Type 0} → Format A → ℕ → List ℕ → ℕ → ℕ → Result ℕ Refusal
ended_all F n s l p = step_of (repeat (F.parse s l) n p)

unfoldable pub number_read : ℕ → List ℕ → ℕ → ℕ → Result (ℕ × ℕ) Refusal
number_read w s l p = number_of ((count w).parse s l p)

unfoldable pub part_read : ℕ → List ℕ → ℕ → ℕ → Result (ℕ × ℕ) Refusal
part_read w s l p = part_of ((opaque w).parse s l p)

-- what is read after i others
unfoldable pub after : {A : Type 0} → Format A → ℕ → List ℕ → ℕ → ℕ → Reading A
after F zero s l p = F.parse s l p
after F (suc i) s l p = and_then (F.parse s l p) (λ a q. after F i s l q)

unfoldable pub part_after : ℕ → ℕ → List ℕ → ℕ → ℕ → Result (ℕ × ℕ) Refusal
part_after w i s l p = part_of (after (opaque w) i s l p)

-- the i-th thing of a list after its count: "one that isn't there is 19, place 0"
unfoldable pub thing_listed : {A : Type 0} → Format ℕ → Format A → ℕ → List ℕ → ℕ → ℕ → Reading A
thing_listed C F i s l p = and_then (C.parse s l p) (λ n q. need (ltb i n) (OutsideSet 0) (after F i s l q))

unfoldable pub part_listed : ℕ → ℕ → ℕ → List ℕ → ℕ → ℕ → Result (ℕ × ℕ) Refusal
part_listed c w i s l p = part_of (thing_listed (count c) (opaque w) i s l p)

-- the i-th of the digits that stand from p on, one with the reserved bits and then two to a byte, and the position of its byte: one that isn't
-- there is 19, place 0
unfoldable pub nth_digit : List ℕ → ℕ → ℕ → Reading ℕ
nth_digit ds i p = need (ltb i (length ds)) (OutsideSet 0) (found (get_or ds i 0) (p + (i + 1) / 2))

-- that of the digits that D reads at p
unfoldable pub digit_read : Format (List ℕ) → ℕ → List ℕ → ℕ → ℕ → Result (ℕ × ℕ) Refusal
digit_read D i s l p = number_of (and_then (D.parse s l p) (λ ds q. nth_digit ds i p))
