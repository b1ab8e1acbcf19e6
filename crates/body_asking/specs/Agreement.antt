-- What a reader has to believe of fields that are asked for of an accepted body: things stand one after the other, and a part is what fills it.
use Rattle.std.specs.Prelude.{ℕ, suc, ◌+◌, ◌-◌, ◌≤◌, ◌≡◌, List, [], ◌∷◌, length, take, drop, Result, Ok, Err}
use Rattle.ground_refusal.specs.declared.Refusal.{Refusal}
use Rattle.ground_refusal.specs.declared.Refusal.TheVariants.{OutsideSet}

-- "one that isn't there is 19, place 0"
abbrev pub NoNumberThere : Result (ℕ × ℕ) Refusal → Type 0
NoNumberThere answer = answer ≡ Err (OutsideSet 0)

abbrev pub NoPartThere : Result (ℕ × ℕ) Refusal → Type 0
NoPartThere answer = answer ≡ Err (OutsideSet 0)

-- "opaque bytes as the part of the body they fill": the part answered begins at p, lies in the body s, and its bytes are xs
pub record FillsAt (s : List ℕ) (p : ℕ) (part : Result (ℕ × ℕ) Refusal) (xs : List ℕ) : Type 0 where
  pub is : part ≡ Ok (p, length xs)
  pub in_body_lem : p + length xs ≤ length s
  pub bytes : take (length xs) (drop p s) ≡ xs

-- a length of w bytes stands at p; the part answered, of `size` bytes, follows it and ends at q, in the body s; their bytes together are xs
pub record FollowsLength (w : ℕ) (s : List ℕ) (part : Result (ℕ × ℕ) Refusal) (xs : List ℕ) (p size q : ℕ) : Type 0 where
  pub is : part ≡ Ok (p + w, size)
  pub ends : p + w + size ≡ q
  pub in_body_lem : q ≤ length s
  pub bytes : take (w + size) (drop p s) ≡ xs

-- things stand one after the other, the first at p, each next one where the last ended, and the last one ends at q. They are numbered from
-- i on: `Stands k x a b` says that the thing x, number k, stands from a to b.
unfoldable pub InTurn : {A : Type 0} → (ℕ → A → ℕ → ℕ → Type 0) → ℕ → List A → ℕ → ℕ → Type 0
InTurn Stands i [] p q = p ≡ q
InTurn Stands i (x ∷ xs) p q = (r : ℕ) × Stands i x p r × InTurn Stands (suc i) xs r q

-- "repeat to the end of their part": the part answered goes from p to q in the body s, and the things xs fill it one after the other
pub record HoldsInTurn {A : Type 0} (Stands : ℕ → A → ℕ → ℕ → Type 0) (s : List ℕ) (part : Result (ℕ × ℕ) Refusal) (p : ℕ) (xs : List A) (q : ℕ) : Type 0 where
  pub is : part ≡ Ok (p, q - p)
  pub ordered : p ≤ q
  pub in_body_lem : q ≤ length s
  pub in_turn : InTurn Stands 0 xs p q
