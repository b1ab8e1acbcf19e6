-- What a checksum is: a shift register over a string of bits, high bit first, for any width, polynomial and start. Bytes are their eight
-- bits, and a table holds what the register comes to from zero.
use Rattle.std.specs.Prelude.{Bool, true, false, ◌&&◌, List, [], ◌∷◌, ◌++◌, ℕ, zero, suc, ◌+◌, ◌*◌, ◌/◌, ◌%◌, ◌^◌, eqb, length, replicate}
use Rattle.std.specs.Bool.{xor}

-- ---- numbers, bytes and strings of bits, the high one first

unfoldable pub odd : ℕ → Bool
odd n = eqb (n % 2) 1

-- the k low bits of n
unfoldable pub bits_of : ℕ → ℕ → List Bool
bits_of zero n = []
bits_of (suc k) n = odd (n / 2 ^ k) ∷ bits_of k n

unfoldable pub digit : Bool → ℕ
digit true = 1
digit false = 0

-- the number that the bits make
unfoldable pub value : List Bool → ℕ
value [] = 0
value (b ∷ bs) = digit b * 2 ^ length bs + value bs

-- the bits of a string of bytes
unfoldable pub bytes_bits : List ℕ → List Bool
bytes_bits [] = []
bytes_bits (x ∷ xs) = bits_of 8 x ++ bytes_bits xs

-- ---- the register, a list of bits

-- bit by bit, the sum without carry
unfoldable pub plus : List Bool → List Bool → List Bool
plus [] ys = []
plus (x ∷ xs) [] = []
plus (x ∷ xs) (y ∷ ys) = xor x y ∷ plus xs ys

-- what is fed back: the bit b wherever the polynomial has a term
unfoldable pub fed : Bool → List Bool → List Bool
fed b [] = []
fed b (p ∷ ps) = (b && p) ∷ fed b ps

-- one bit in: the register moves up by one, and its old high bit plus the bit is fed back
unfoldable pub step : List Bool → List Bool → Bool → List Bool
step p [] b = []
step p (z ∷ zs) b = plus (fed (xor z b) p) (zs ++ false ∷ [])

unfoldable pub run : List Bool → List Bool → List Bool → List Bool
run p r [] = r
run p r (b ∷ bs) = run p (step p r b) bs

-- the register of w bits after the bits, for a polynomial and a start
unfoldable pub crc : (w poly start : ℕ) → List Bool → ℕ
crc w poly start bits = value (run (bits_of w poly) (bits_of w start) bits)

-- ---- tables

-- what table j has at the n low bits of x: the register of w bits, from zero, after them and n * j zeros
unfoldable pub table_entry : (n w poly j x : ℕ) → ℕ
table_entry n w poly j x = crc w poly 0 (bits_of n x ++ replicate (n * j) false)
