-- What a reader has to believe of a table that arrives whole: how it is cut, and what is fed with it.
use Rattle.std.specs.Prelude.{ℕ, zero, suc, ◌≤◌, ◌≡◌, Bool, true, false, get_or}
use mathlib.Core.List.{List, [], ◌∷◌, ◌++◌, Memᴰ as In}
use Rattle.section_reader.specs.Section.{payload_of, printed}
use Rattle.section_reader.specs.declared.Heading.{Heading}
use Rattle.gathering_tables.specs.Tables.{same_table, is_newer}
use Rattle.gathering_account.specs.Account.{good_current, heard, idle, account}
use Rattle.gathering_account.specs.Latest.{begins_after}

-- the heading of section k of a table with the heading h: it is current, and differs in nothing but the number
unfoldable pub heading_at : Heading → ℕ → Heading
heading_at h k = record { kind = h.kind; extension = h.extension; version = h.version; current = true; number = k; last = h.last }

-- a table cut anywhere: of each number from 0 to last a good, current section, all with one heading
unfoldable pub CutInto : Heading → (ℕ → List ℕ) → Type 0
CutInto h sections = (k : ℕ) → k ≤ h.last → heard (sections k) ≡ good_current (heading_at h k) (payload_of (sections k))

-- the sections that carry these payloads, printed with one heading
unfoldable pub sections_of : Heading → List (List ℕ) → ℕ → List ℕ
sections_of h payloads k = printed (heading_at h k) (get_or payloads k [])

-- how a table's sections are fed; `room last` says whether there is room for a table with this last number
pub record Arrives (room : ℕ → Bool) (h : Heading) (sections : ℕ → List ℕ) (fed : List (List ℕ)) : Type 0 where
  pub roomy : room h.last ≡ true
  -- one of them begins the table: what was fed before it left none, or an older version, whole or not, spoiled or not;
  pub before : List (List ℕ)
  pub first : ℕ
  pub after : List (List ℕ)
  pub of_table : first ≤ h.last
  pub fed_is : fed ≡ before ++ sections first ∷ after
  pub begins : begins_after (account room idle before) h ≡ true
  -- from it on all of them are fed, in any order, with repeats;
  pub all : (k : ℕ) → k ≤ h.last → In (sections k) (sections first ∷ after)
  -- after it no stranger has the same heading: any good, current section with it is the table's;
  pub no_stranger : (s : List ℕ) → In s after → (h' : Heading) (p : List ℕ) → heard s ≡ good_current h' p → same_table h h' ≡ true
      → (k : ℕ) × (k ≤ h.last) × (s ≡ sections k)
  -- and none is ahead of it: no good, current section of a newer table finds room
  pub none_ahead : (s : List ℕ) → In s after → (h' : Heading) (p : List ℕ) → heard s ≡ good_current h' p → is_newer h h' ≡ true → room h'.last ≡ false

-- a run without a takeover: the table is the first that finds room
pub record ArrivesFirst (room : ℕ → Bool) (h : Heading) (sections : ℕ → List ℕ) (fed : List (List ℕ)) : Type 0 where
  pub roomy : room h.last ≡ true
  -- all of its sections are fed, in any order, with repeats;
  pub all : (k : ℕ) → k ≤ h.last → In (sections k) fed
  -- no stranger has the same heading, nor is one ahead of it,
  pub no_stranger : (s : List ℕ) → In s fed → (h' : Heading) (p : List ℕ) → heard s ≡ good_current h' p → same_table h h' ≡ true
      → (k : ℕ) × (k ≤ h.last) × (s ≡ sections k)
  pub none_ahead : (s : List ℕ) → In s fed → (h' : Heading) (p : List ℕ) → heard s ≡ good_current h' p → is_newer h h' ≡ true → room h'.last ≡ false
  -- and none is first: no good, current section before the table's first one finds room
  pub before : List (List ℕ)
  pub first : ℕ
  pub after : List (List ℕ)
  pub of_table : first ≤ h.last
  pub fed_is : fed ≡ before ++ sections first ∷ after
  pub none_first : (s : List ℕ) → In s before → (h' : Heading) (p : List ℕ) → heard s ≡ good_current h' p → room h'.last ≡ false

-- the plainest such feed: the n sections from number k on, one after the other
unfoldable pub sections_listed : (ℕ → List ℕ) → ℕ → ℕ → List (List ℕ)
sections_listed sections k zero = []
sections_listed sections k (suc n) = sections k ∷ sections_listed sections (suc k) n
