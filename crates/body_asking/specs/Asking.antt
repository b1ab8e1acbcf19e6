-- What a reader has to believe of fields asked for: they stand in a part of the body that the caller tells, or they are not there.
use Rattle.std.specs.Prelude.{ℕ, ◌+◌, List, ◌&&◌, length, ltb, leb, Result, Err}
use Rattle.ground_refusal.specs.declared.Refusal.{Refusal}
use Rattle.ground_refusal.specs.declared.Refusal.TheVariants.{OutsideSet}
use Rattle.body_formats.specs.Reading.{Reading, found, refused, need}
use Rattle.body_formats.specs.Format.{Format, bytes, ◌▷◌, repeat, opaque}

-- ---- a part, told by where it begins and its length

-- "one that isn't there is 19, place 0": a part that does not lie in the body
abbrev pub in_body : {A : Type 0} → List ℕ → ℕ → ℕ → (ℕ → Reading A) → Reading A
in_body s at n k = need (leb (at + n) (length s)) (OutsideSet 0) (k (at + n))

-- the field k bytes into the part
abbrev pub field_in : {A : Type 0} → Format A → ℕ → List ℕ → ℕ → ℕ → Reading A
field_in F k s at n = in_body s at n (λ l. F.parse s l (at + k))

-- a number asked for at the position found
abbrev pub asked_at : {A : Type 0} → Reading A → (ℕ → Result (ℕ × ℕ) Refusal) → Result (ℕ × ℕ) Refusal
asked_at (found a p) k = k p
asked_at (refused r) k = Err r

-- ---- a thing of several that fill a part, told by where it begins and how many bytes the part has from there on

-- "one that isn't there is 19, place 0": these bytes do not lie in the body, or are none
abbrev pub in_part : {A : Type 0} → List ℕ → ℕ → ℕ → (ℕ → Reading A) → Reading A
in_part s at n k = need (ltb 0 n && leb (at + n) (length s)) (OutsideSet 0) (k (at + n))

-- ---- one of several

-- h bytes, and then opaque bytes after a length of w bytes
abbrev pub headed_part : ℕ → ℕ → Format (List ℕ × List ℕ)
headed_part h w = bytes h ▷ opaque w

-- past the things before the i-th of n: "one that isn't there is 19, place 0"
unfoldable pub nth_of : {A : Type 0} → Format A → ℕ → ℕ → List ℕ → ℕ → ℕ → Reading (List A)
nth_of F n i s l p = need (ltb i n) (OutsideSet 0) (repeat (F.parse s l) i p)
