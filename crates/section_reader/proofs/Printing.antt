-- Laws of the good section printed: its length, and that it is laid part by part.
use Prim.Native.Nat.{ℕ, ◌+◌, ◌*◌, ◌/◌, ◌%◌, ◌≤◌}
use mathlib.Core.List.{List, [], ◌∷◌, ◌++◌}
use mathlib.Core.Path.{◌≡◌, sym, ◌∙◌}
use native.Mathlib.Omega.{arith}
use lib.ListN.{length, take, length-append}
use Rattle.crc.specs.Crc.{big_endian, crc32_of, digit}
use Rattle.ground_placing.specs.Placed.{placed}
use Rattle.section_reader.specs.Section.{heading_bytes, checked, printed}
use Rattle.section_reader.specs.declared.Heading.{Heading}
use Rattle.ground_placing.proofs.Placing.{placed_next, placed_start, placed_length}
use Rattle.section_reader.proofs.Bytes.{two_bytes, four_bytes}

-- the heading byte by byte, b the bit of current
abbrev pub eight_bytes : Heading → ℕ → ℕ → List ℕ
eight_bytes h n b =
    h.kind ∷ (0xF000 + (n + 9)) / 256 % 256 ∷ (0xF000 + (n + 9)) % 256 ∷ h.extension / 256 % 256 ∷ h.extension % 256
    ∷ (0xC0 + (h.version * 2 + b)) ∷ h.number ∷ h.last ∷ []

pub heading_is : (h : Heading) (n : ℕ) → heading_bytes h n ≡ eight_bytes h n (digit h.current)
unfolding heading_bytes
heading_is h n = rw (two_bytes (0xF000 + (n + 9)), two_bytes h.extension)

pub heading_length : (h : Heading) (n : ℕ) → length (heading_bytes h n) ≡ 8
heading_length h n = rw (heading_is h n)

pub printed_length : (h : Heading) (payload : List ℕ) → length (printed h payload) ≡ length payload + 12
unfolding printed checked
printed_length h payload = simp (length-append, heading_length, four_bytes) (omega arith)

-- ---- laid part by part

module _ (h : Heading) (payload out : List ℕ) (room : length payload + 12 ≤ length out) where
  module _ (a b : List ℕ) (e : a ≡ placed out 0 (heading_bytes h (length payload))) (f : b ≡ placed a 8 payload) where
    -- heading and payload
    laid : b ≡ placed out 0 (heading_bytes h (length payload) ++ payload)
    laid =
        let l = heading_length h (length payload) in
        f ∙ rw e (placed_next out 0 (heading_bytes h (length payload)) (omega arith) payload 8 (omega arith))

    long : length (heading_bytes h (length payload) ++ payload) ≡ 8 + length payload
    long = length-append (heading_bytes h (length payload)) payload ∙ rw heading_length

    pub laid_length : length b ≡ length out
    laid_length = let l = long in rw laid (placed_length out 0 _ (omega arith))

    -- and the check over them
    pub laid_checked : (c : List ℕ) (check : ℕ) → check ≡ crc32_of (take (8 + length payload) b) → c ≡ placed b (8 + length payload) (big_endian 4 check)
        → c ≡ placed out 0 (printed h payload)
    unfolding printed checked
    laid_checked c check p q =
        let l = long in
        q ∙ rw (p, laid, placed_start out _ _ (sym l)) (placed_next out 0 _ (omega arith) _ (8 + length payload) (omega arith))
