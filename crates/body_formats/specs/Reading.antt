-- What a reader has to believe of a step of reading: it finds a value and the position after it, or it refuses.
use Rattle.std.specs.Prelude.{ℕ, Bool, true, false, List, length, leb}
use Rattle.ground_refusal.specs.declared.Refusal.{Refusal}
use Rattle.ground_refusal.specs.declared.Refusal.TheVariants.{PastBody, PastPart}

pub data Reading (A : Type 0) : Type 0 where
  found : A → ℕ → Reading A
  refused : Refusal → Reading A

-- the first refusal stands
abbrev pub and_then : {A B : Type 0} → Reading A → (A → ℕ → Reading B) → Reading B
and_then (found a q) k = k a q
and_then (refused r) k = refused r

abbrev pub need : {A : Type 0} → Bool → Refusal → Reading A → Reading A
need true r x = x
need false r x = refused r

-- the number that was found, 0 for none
abbrev pub value_of : Reading ℕ → ℕ
value_of (found n q) = n
value_of (refused r) = 0

-- what is wrong with a value, if anything
pub data Fault : Type 0 where
  fine : Fault
  faulty : Refusal → Fault

abbrev pub unless : Bool → Refusal → Fault
unless true r = fine
unless false r = faulty r

abbrev pub is_fine : Fault → Bool
is_fine fine = true
is_fine (faulty r) = false

abbrev pub judged : {A : Type 0} → Fault → Reading A → Reading A
judged fine x = x
judged (faulty r) x = refused r

-- "14: the body ends inside a field, or a counted part passes the body's end", "15: a field or inner part passes the end of its
-- counted part": what begins at `at` ends at `end`, in the body s, whose innermost counted part ends at l. Both true: 14.
abbrev pub within : {A : Type 0} → List ℕ → ℕ → ℕ → ℕ → Reading A → Reading A
within s l at end x = need (leb end (length s)) (PastBody at) (need (leb end l) (PastPart at) x)
