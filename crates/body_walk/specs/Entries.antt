-- What a reader has to believe of entries that a step lays on a tape: where they stand, and which entries a number or a part has.
use Rattle.std.specs.Prelude.{ℕ, ◌+◌, ◌-◌, ◌≤◌, ◌<◌, ◌≡◌, List, [], ◌∷◌, Bool, true, false, length, Result, Ok, Err}
use Rattle.ground_refusal.specs.declared.Refusal.{Refusal}
use Rattle.ground_placing.specs.Placed.{placed}
use Rattle.body_walk.specs.Walked.{walk_of, beside}

-- xs laid on a tape that has this room: nothing by a dry walk; by a wet one, where they fit, all of them
pub record Laid (tape : List ℕ) (room : ℕ) (wet : Bool) (xs tape' : List ℕ) : Type 0 where
  pub dry : wet ≡ false → tape' ≡ tape
  pub there : wet ≡ true → length xs < room → room ≤ length tape + 1 → tape' ≡ placed tape (length tape + 1 - room) xs

-- a step that goes to `to` and lays xs
pub record Stepped (to : Result (ℕ × ℕ) Refusal) (xs tape : List ℕ) (room : ℕ) (wet : Bool) (r : Result (ℕ × ℕ) Refusal) (tape' : List ℕ) : Type 0 where
  pub said : r ≡ to
  pub laid : Laid tape room wet xs tape'

-- ---- a number has one entry

abbrev pub entry_of : Result (ℕ × ℕ) Refusal → List ℕ
entry_of (Ok (v, q)) = v ∷ []
entry_of (Err r) = []

abbrev pub past_number : ℕ → Result (ℕ × ℕ) Refusal → Result (ℕ × ℕ) Refusal
past_number room (Ok (v, q)) = Ok (q, room - 1)
past_number room (Err r) = Err r

abbrev pub number_worth : Result (ℕ × ℕ) Refusal → ℕ
number_worth (Ok (v, q)) = v
number_worth (Err r) = 0

-- a number walked past, and told
pub record Told (x : Result (ℕ × ℕ) Refusal) (tape : List ℕ) (room : ℕ) (wet : Bool) (r : Result ((ℕ × ℕ) × ℕ) Refusal) (tape' : List ℕ) : Type 0 where
  pub past : Stepped (past_number room x) (entry_of x) tape room wet (walk_of r) tape'
  pub value : beside r ≡ number_worth x

-- ---- a part has two, where it starts and how long it is

abbrev pub span_of : Result (ℕ × ℕ) Refusal → List ℕ
span_of (Ok (a, n)) = a ∷ n ∷ []
span_of (Err r) = []

abbrev pub past_part : ℕ → Result (ℕ × ℕ) Refusal → Result (ℕ × ℕ) Refusal
past_part room (Ok (a, n)) = Ok (a + n, room - 2)
past_part room (Err r) = Err r

abbrev pub end_of : Result (ℕ × ℕ) Refusal → ℕ
end_of (Ok (a, n)) = a + n
end_of (Err r) = 0
