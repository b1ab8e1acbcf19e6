-- What a reader has to believe of printed text: characters by their numbers, numbers in digits, and a refusal's words.
use Rattle.std.specs.Prelude.{ℕ, zero, suc, ◌+◌, ◌/◌, ◌%◌, cond, List, [], ◌∷◌, ◌++◌, ltb}
use Prim.Native.Char.{code}
use Prim.Native.String.{String, [] as nothing, ◌∷◌ as ◌then◌}
use Rattle.ground_refusal.specs.Numbers.{refusal_number}
use Rattle.ground_refusal.specs.declared.Refusal.{Refusal}

-- a text's characters, each by its number
abbrev pub ascii : String → List ℕ
ascii nothing = []
ascii (c then s) = code c ∷ ascii s

-- the character of a digit: 0 to 9, then A to F
unfoldable pub digit_character : ℕ → ℕ
digit_character d = cond (ltb d 10) (48 + d) (55 + d)

-- the last `width` digits of n, the high one first
unfoldable pub digits_of : ℕ → ℕ → ℕ → List ℕ
digits_of base zero n = []
digits_of base (suc width) n = digits_of base width (n / base) ++ (digit_character (n % base) ∷ [])

abbrev pub hex_of : ℕ → ℕ → List ℕ
hex_of width n = digits_of 16 width n

-- one digit below ten, else one more than a tenth has; no number takes more steps than itself
unfoldable pub places_within : ℕ → ℕ → ℕ
places_within zero n = 1
places_within (suc steps) n = cond (ltb n 10) 1 (suc (places_within steps (n / 10)))

unfoldable pub places_of : ℕ → ℕ
places_of n = places_within n n

abbrev pub decimal_of : ℕ → List ℕ
decimal_of n = digits_of 10 (places_of n) n

-- "the word refused, the number"
unfoldable pub refused_text : Refusal → List ℕ
refused_text r = ascii "refused " ++ decimal_of (refusal_number r)
