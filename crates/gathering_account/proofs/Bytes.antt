-- A section printed of a well-formed heading and a payload of bytes is a string of bytes.
use Prim.Native.Nat.{ℕ, zero, suc, ◌+◌, ◌≤◌, ◌<◌}
use mathlib.Core.Bool.{Bool, true, false}
use mathlib.Core.List.{List, [], ◌∷◌, ◌++◌}
use native.Mathlib.Omega.{arith}
use lib.ListN.{length, get_or, take, drop}
use lib.Seq.{get_or-drop}
use Rattle.crc.specs.Crc.{AreBytes, digit}
use Rattle.crc.proofs.Burst.{big_endian_bytes}
use Rattle.section_reader.specs.Section.{heading_bytes, checked, printed, WellFormed}
use Rattle.section_cutter.specs.Cutting.{part_start, part_carried}
use Rattle.section_reader.specs.declared.Heading.{Heading}
use Rattle.section_reader.proofs.Printing.{heading_is}

bytes_none : AreBytes []
bytes_none = record { byte = λ i. omega arith }

bytes_cons : {x : ℕ} {xs : List ℕ} → x < 256 → AreBytes xs → AreBytes (x ∷ xs)
bytes_cons {x} {xs} l b = record { byte = go }
  where
    go : (i : ℕ) → get_or (x ∷ xs) i 0 < 256
    go zero = l
    go (suc i) = b.byte i

bytes_append : (xs ys : List ℕ) → AreBytes xs → AreBytes ys → AreBytes (xs ++ ys)
bytes_append [] ys a b = b
bytes_append (x ∷ xs) ys a b = bytes_cons (a.byte 0) (bytes_append xs ys (record { byte = λ i. a.byte (suc i) }) b)

pub bytes_take : (n : ℕ) (xs : List ℕ) → AreBytes xs → AreBytes (take n xs)
bytes_take zero xs a = bytes_none
bytes_take (suc n) [] a = bytes_none
bytes_take (suc n) (x ∷ xs) a = bytes_cons (a.byte 0) (bytes_take n xs (record { byte = λ i. a.byte (suc i) }))

pub bytes_drop : (n : ℕ) (xs : List ℕ) → AreBytes xs → AreBytes (drop n xs)
bytes_drop n xs a = record { byte = λ i. rw (get_or-drop n xs i 0) (a.byte (n + i)) }

pub part_bytes : (body : List ℕ) (k : ℕ) → AreBytes body → AreBytes (part_carried body k)
unfolding part_carried
part_bytes body k a = bytes_take 4084 (drop (part_start k) body) (bytes_drop (part_start k) body a)

digit_low : (b : Bool) → digit b ≤ 1
unfolding digit
digit_low true = omega arith
digit_low false = omega arith

heading_bytes_lem : (h : Heading) (n : ℕ) → WellFormed h → AreBytes (heading_bytes h n)
heading_bytes_lem h n w =
    let d = digit_low h.current in
    rw (heading_is h n)
    (bytes_cons (omega arith) (bytes_cons (omega arith) (bytes_cons (omega arith) (bytes_cons (omega arith)
    (bytes_cons (omega arith) (bytes_cons (omega arith) (bytes_cons (omega arith) (bytes_cons (omega arith) bytes_none))))))))

pub printed_bytes : (h : Heading) (p : List ℕ) → WellFormed h → AreBytes p → AreBytes (printed h p)
unfolding printed checked
printed_bytes h p w b = bytes_append (heading_bytes h (length p) ++ p) _ (bytes_append _ p (heading_bytes_lem h (length p) w) b) (big_endian_bytes 4 _)
