-- What a reader has to believe of a part that is answered: what stands in it.
use Rattle.std.specs.Prelude.{ℕ, ◌+◌, ◌≤◌, ◌≡◌, List, length, take, drop, Result, Ok}
use Rattle.ground_refusal.specs.declared.Refusal.{Refusal}
use Rattle.body_formats.specs.Reading.{found}
use Rattle.body_formats.specs.Format.{Format}

-- "opaque bytes as the part of the body they fill": the part is answered, lies in the body s, and its bytes are xs
abbrev pub Fills : List ℕ → Result (ℕ × ℕ) Refusal → List ℕ → Type 0
Fills s part xs = (at size : ℕ) × (part ≡ Ok (at, size)) × (at + size ≤ length s) × (take size (drop at s) ≡ xs)

-- the part answered ends at q, in the body s, and F reads x in it, from its first byte to its last
pub record PartHolds {A : Type 0} (F : Format A) (s : List ℕ) (part : Result (ℕ × ℕ) Refusal) (x : A) (q : ℕ) : Type 0 where
  pub at : ℕ
  pub size : ℕ
  pub is : part ≡ Ok (at, size)
  pub ends : at + size ≡ q
  pub in_body_lem : q ≤ length s
  pub inner : F.parse s q at ≡ found x q
