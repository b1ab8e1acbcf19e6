-- What a reader has to believe of the answers of a run of feeds: each is told by the account of what was fed before it, with no state and no store.
use Rattle.std.specs.Prelude.{ℕ, Bool, true, false, not, ◌&&◌, ◌||◌, List, [], ◌∷◌, ◌++◌, eqb, if◌then◌else◌, Result, Ok, Err}
use Rattle.ground_refusal.specs.declared.Refusal.{Refusal}
use Rattle.ground_refusal.specs.declared.Refusal.TheVariants.{NotCurrent, OtherHeading, StoreTooShort, Contradiction}
use Rattle.ground_equal.specs.Same.{same_bytes}
use Rattle.section_reader.specs.Section.{payload_of, read_section}
use Rattle.section_reader.specs.declared.Heading.{Heading}
use Rattle.gathering_tables.specs.Tables.{same_table, is_newer}
use Rattle.gathering_feed.specs.declared.Answer.{Answer}
use Rattle.gathering_feed.specs.declared.Answer.TheVariants.{Taken, HeldAlready}
use Rattle.gathering_account.specs.Account.{heard, Section, Account, idle, table, account_after}

-- ---- `Present` and `Agree`, as tests

-- is there a section of number k?
unfoldable pub present : ℕ → List Section → Bool
present k [] = false
present k (s ∷ S) = eqb s.number k || present k S

-- "same heading and number, other payload": two sections of one table
unfoldable pub contradicts : Section → Section → Bool
contradicts s t = eqb s.number t.number && not (same_bytes s.contents t.contents)

-- does s contradict one of S?
unfoldable pub differs : Section → List Section → Bool
differs s [] = false
differs s (t ∷ S) = contradicts s t || differs s S

-- "no two of one number differ"
unfoldable pub agreeing : List Section → Bool
agreeing [] = true
agreeing (s ∷ S) = not (differs s S) && agreeing S

-- ---- the sections before the first contradiction

-- `before` agree; of those after them, in the order of their feeding, as many as contradict none that came before
unfoldable pub calm_from : List Section → List Section → List Section
calm_from before [] = before
calm_from before (s ∷ after) = if differs s before then before else calm_from (before ++ s ∷ []) after

-- "a contradiction spoils": what was fed of the table before it
unfoldable pub undisputed : List Section → List Section
undisputed S = calm_from [] S

-- ---- the answer to one feed

-- a section of the fixed table. 11: "same heading and number, other payload; or the gathering is spoiled already", since two of its sections differ.
-- "A repeat with the same payload is answered 'held already'".
unfoldable pub answer_of_table : List Section → Section → Result Answer Refusal
answer_of_table S s =
    if differs s S || not (agreeing S) then Err Contradiction else
    if present s.number S then (Ok HeldAlready) else
    Ok Taken

-- a section that begins a table: "no 9 or 11"; a newer one's, that finds room, is taken whatever the older table has.
-- `room last` says whether there is room for a table with this last number.
unfoldable pub answer_of_first : (ℕ → Bool) → Heading → Result Answer Refusal
answer_of_first room h = if not (room h.last) then Err StoreTooShort else (Ok Taken)

-- a good, current section: 9, 10, 11. The fixed table found room for its last number, so its own sections get no 10.
unfoldable pub answer_of_good : (ℕ → Bool) → Account → Heading → List ℕ → Result Answer Refusal
answer_of_good room idle h p = answer_of_first room h
answer_of_good room (table t S) h p =
    if is_newer t h then answer_of_first room h else
    if not (same_table t h) then Err OtherHeading else
    answer_of_table S (record { number = h.number; contents = p })

-- 1 to 7, then 8, then the rest
unfoldable pub answer_of_read : (ℕ → Bool) → Account → List ℕ → Result (Heading × ℕ) Refusal → Result Answer Refusal
answer_of_read room a s (Err r) = Err r
answer_of_read room a s (Ok (h, n)) = if not h.current then Err NotCurrent else answer_of_good room a h (payload_of s)

-- "Feeding: 12, 1 to 7, 8, 9, 10, 11": the byte string s is fed after what the account tells. What a run leaves is a possible state, so no 12.
unfoldable pub answer_to : (ℕ → Bool) → Account → List ℕ → Result Answer Refusal
answer_to room a s = answer_of_read room a s (read_section s)

-- ---- the answers to a run of feeds, in its order

unfoldable pub answers_to : (ℕ → Bool) → Account → List (List ℕ) → List (Result Answer Refusal)
answers_to room a [] = []
answers_to room a (s ∷ fed) = answer_to room a s ∷ answers_to room (account_after room a (heard s)) fed
