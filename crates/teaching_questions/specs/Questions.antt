-- What a reader has to believe of the questions that the slow gathering asks of its kept strings: each is one of the account of these strings.
use Rattle.std.specs.Prelude.{ℕ, zero, suc, ◌+◌, ◌≤◌, ◌≡◌, Bool, false, List, [], ◌∷◌, length, take, drop, if◌then◌else◌, Option, Some, None}
use Rattle.section_reader.specs.declared.Heading.{Heading}
use Rattle.gathering_account.specs.Account.{Heard, nothing, good_current, heard, Section as Carried}
use Rattle.gathering_account.specs.Latest.{section_of_table, sections_of_table}
use Rattle.teaching_rows.specs.Rows.{strings_in}
use Rattle.teaching_questions.specs.declared.Section.{Section}
use Rattle.teaching_questions.specs.declared.Sections.{Sections}
use Rattle.gathering_account.specs.Answering.{present, differs, undisputed}

-- ---- one byte string

-- what is heard, without the contents
unfoldable pub said : Heard → Option Heading
said nothing = None
said (good_current h p) = Some h

abbrev pub section : ℕ → List ℕ → Carried
section k p = record { number = k; contents = p }

-- a section that the code holds
abbrev pub carried : Section → Carried
carried x = section x.number x.payload.now

-- does it contradict one of the others?
unfoldable pub clashes_with : List Carried → List Carried → Bool
clashes_with [] S = false
clashes_with (x ∷ X) S = differs x S

unfoldable pub clashes : Heading → List ℕ → List (List ℕ) → Bool
clashes t s others = clashes_with (section_of_table t (heard s)) (sections_of_table t others)

-- ---- the sections of a table that a walk along rows has left

abbrev pub sections_left : Sections → List Carried
sections_left walk = sections_of_table walk.table (strings_in walk.rows.now)

-- ---- the first contradiction

-- where the first string stands that contradicts one of those before it, or where the rows end: what stands before it are the undisputed sections
pub record Undisputed (bytes : List ℕ) (t : Heading) (end : ℕ) : Type 0 where
  pub within : end ≤ length bytes
  pub are : sections_of_table t (strings_in (take end bytes)) ≡ undisputed (sections_of_table t (strings_in bytes))

-- ---- missing numbers

-- "the smallest missing number": the first of n numbers from k on that is not there, and the number after them if all are
unfoldable pub absent_from : ℕ → ℕ → List Carried → ℕ
absent_from k zero S = k
absent_from k (suc n) S = if present k S then absent_from (suc k) n S else k

-- how many of the numbers below n are missing
unfoldable pub absent_count : ℕ → List Carried → ℕ
absent_count zero S = 0
absent_count (suc n) S = absent_count n S + (if present n S then 0 else 1)

-- ---- contents

-- these bytes stand in the rows, from the place `at` on
pub record StandsIn (rows part : List ℕ) : Type 0 where
  pub at : ℕ
  pub within : at + length part ≤ length rows
  pub are : take (length part) (drop at rows) ≡ part
