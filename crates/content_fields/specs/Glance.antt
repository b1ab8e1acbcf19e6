-- What a glance at a language says of its auxiliary files: where it finds one, the file begins there; where it does not, it says nothing.
use Rattle.std.specs.Prelude.{ℕ, ◌+◌, ◌≤◌, ◌<◌, ◌≡◌, List, length}
use Rattle.body_formats.specs.Format.{among, reserved}
use Rattle.body_formats.specs.Answers.{number_of, number_read}
use Rattle.content_fields.specs.Asked.{auxiliary_count, auxiliary_type}

-- the auxiliary count stands at r in the language of n bytes at `at`
pub record CountAt (s : List ℕ) (at n r : ℕ) : Type 0 where
  pub inside : at + n ≤ length s
  pub lies : r < at + n
  pub is : number_of ((among 0 2 (reserved 4 0)).parse s (at + n) r) ≡ auxiliary_count s at n

-- the i-th auxiliary file begins at r with its type
pub record FileAt (w : ℕ) (s : List ℕ) (at n i r : ℕ) : Type 0 where
  pub inside : at + n ≤ length s
  pub lies : r < at + n
  pub is : number_read 1 s (at + n) r ≡ auxiliary_type w s at n i
