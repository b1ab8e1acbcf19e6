-- What a reader has to believe of a run of feeds: what it gathers, told by the byte strings alone, with no state and no store.
use Rattle.std.specs.Prelude.{ℕ, zero, suc, ◌+◌, ◌≤◌, ◌≡◌, Bool, eqb, if◌then◌else◌, Result, Ok, Err}
use Rattle.ground_refusal.specs.declared.Refusal.{Refusal}
use mathlib.Core.List.{List, [], ◌∷◌, ◌++◌, Memᴰ as In}
use Rattle.section_reader.specs.Section.{payload_of, read_section}
use Rattle.section_reader.specs.declared.Heading.{Heading}
use Rattle.gathering_tables.specs.Tables.{same_table, is_newer}

-- ---- what is heard

-- a byte string is a good, current section with its heading and contents; or nothing is heard of it
pub data Heard : Type 0 where
  nothing : Heard
  good_current : Heading → List ℕ → Heard

-- "A section is good if none of 1 to 7 applies (feeding takes all four kinds), and current if 8 doesn't"
unfoldable pub heard_as : List ℕ → Result (Heading × ℕ) Refusal → Heard
heard_as s (Err r) = nothing
heard_as s (Ok (h, n)) = if h.current then good_current h (payload_of s) else nothing

unfoldable pub heard : List ℕ → Heard
heard s = heard_as s (read_section s)

-- ---- the fixed table

-- one of a table's sections
pub record Section : Type 0 where
  pub number : ℕ
  pub contents : List ℕ

-- no table is fixed; or one is, by this heading, and these are its sections so far, in the order of their feeding
pub data Account : Type 0 where
  idle : Account
  table : Heading → List Section → Account

-- a section begins its table if there is room for it; if not, all is as before.
-- `room last` says whether there is room for a table with this last number.
unfoldable pub begun : (ℕ → Bool) → Account → Heading → List ℕ → Account
begun room a h p = if room h.last then table h (record { number = h.number; contents = p } ∷ []) else a

-- "Nothing begun: no 9 or 11, and 10 begins nothing": the first section that finds room fixes the table. Later ones count if their heading is the same;
-- one of a newer version starts over: "Demand 3 then reads from the latest takeover", and "10 leaves the old gathering".
unfoldable pub account_after : (ℕ → Bool) → Account → Heard → Account
account_after room a nothing = a
account_after room idle (good_current h p) = begun room idle h p
account_after room (table t S) (good_current h p) =
    if is_newer t h then begun room (table t S) h p else
    if same_table t h then table t (S ++ record { number = h.number; contents = p } ∷ []) else
    table t S

-- the account of all that is fed, in its order
unfoldable pub account : (ℕ → Bool) → Account → List (List ℕ) → Account
account room a [] = a
account room a (s ∷ fed) = account room (account_after room a (heard s)) fed

-- ---- complete, and the body (`In s S` is the library's: s stands somewhere in S)

-- "no two of one number differ"
unfoldable pub Agree : List Section → Type 0
Agree S = (s t : Section) → In s S → In t S → s.number ≡ t.number → s.contents ≡ t.contents

-- there is a section of number k
unfoldable pub Present : ℕ → List Section → Type 0
Present k S = (s : Section) × In s S × (s.number ≡ k)

-- "cover every number"
unfoldable pub Covered : ℕ → List Section → Type 0
Covered last S = (k : ℕ) → k ≤ last → Present k S

-- "the good, current sections of the fixed table cover every number and no two of one number differ"
unfoldable pub Complete : Account → Type 0
Complete idle = ⊥
Complete (table h S) = Covered h.last S × Agree S

-- the contents of number k: of the first such section, where two differ
unfoldable pub contents_of : ℕ → List Section → List ℕ
contents_of k [] = []
contents_of k (s ∷ S) = if eqb s.number k then s.contents else contents_of k S

-- those of the numbers below n, "in number order"
unfoldable pub in_order : ℕ → List Section → List ℕ
in_order zero S = []
in_order (suc n) S = in_order n S ++ contents_of n S

-- "their contents in number order"
unfoldable pub body_of : Account → List ℕ
body_of idle = []
body_of (table h S) = in_order (h.last + 1) S
