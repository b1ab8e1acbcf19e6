-- What a reader has to believe of a form that was judged: it lays out a value, its bytes have room, and written they stand in the output.
use Rattle.std.specs.Prelude.{ℕ, ◌+◌, ◌≤◌, ◌≡◌, List, length}
use Rattle.ground_numbers.specs.Sizes.{body_most}
use Rattle.ground_placing.specs.Placed.{placed}
use Rattle.body_formats.specs.Reading.{found}
use Rattle.body_formats.specs.Format.{Format}

-- The form lays out a value from the entry k on, and an output of so much room has room for its bytes from `at` on, where they are not too
-- many for a body.
pub record Ready {A : Type 0} (F : Format A) (pool tape : List ℕ) (at k room : ℕ) : Type 0 where
  pub value : A
  pub next : ℕ
  pub laid : F.form pool tape k ≡ found value next
  pub fits : at + length (F.print value) ≤ room
  pub short : at + length (F.print value) ≤ body_most

-- The bytes of what the form lays out from the entry k on stand in the output from `at` on, and all others stay: at' is where they end, k'
-- the entry after theirs.
pub record Inked {A : Type 0} (F : Format A) (pool tape : List ℕ) (at k : ℕ) (out : List ℕ) (at' k' : ℕ) (out' : List ℕ) : Type 0 where
  pub written : (a : A) (j : ℕ) → F.form pool tape k ≡ found a j → at + length (F.print a) ≤ length out
      → (at' ≡ at + length (F.print a)) × (k' ≡ j) × (out' ≡ placed out at (F.print a))

-- a whole form, from the start of the tape and of the output on
pub record Whole {A : Type 0} (F : Format A) (pool tape out out' : List ℕ) : Type 0 where
  pub end : ℕ
  pub next : ℕ
  pub inked : Inked F pool tape 0 0 out end next out'
