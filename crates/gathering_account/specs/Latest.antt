-- What a reader has to believe of a takeover: where the table that a run leaves began, and which of what was fed after it counts.
use Rattle.std.specs.Prelude.{ℕ, ◌≡◌, Bool, true, false, if◌then◌else◌}
use mathlib.Core.List.{List, [], ◌∷◌, ◌++◌, Memᴰ as In}
use Rattle.section_reader.specs.declared.Heading.{Heading}
use Rattle.gathering_tables.specs.Tables.{same_table, is_newer}
use Rattle.gathering_account.specs.Account.{Heard, nothing, good_current, heard, Section, Account, idle, table, account}

-- a section with this heading begins its table: none is fixed, or an older version of it is
unfoldable pub begins_after : Account → Heading → Bool
begins_after idle h = true
begins_after (table t S) h = is_newer t h

-- what is heard, if it is a section of t's table
unfoldable pub section_of_table : Heading → Heard → List Section
section_of_table t nothing = []
section_of_table t (good_current h p) = if same_table t h then record { number = h.number; contents = p } ∷ [] else []

-- the sections of t's table among what is fed, in the order of their feeding
unfoldable pub sections_of_table : Heading → List (List ℕ) → List Section
sections_of_table t [] = []
sections_of_table t (s ∷ fed) = section_of_table t (heard s) ++ sections_of_table t fed

-- "Demand 3 then reads from the latest takeover"
pub data Latest (room : ℕ → Bool) (fed : List (List ℕ)) : Account → Type 0 where
  -- no good, current section found room;
  none_begun : ((s : List ℕ) → In s fed → (h : Heading) (p : List ℕ) → heard s ≡ good_current h p → room h.last ≡ false) → Latest room fed idle
  -- or one, s, began a table, and after it no newer one found room: what counts is s, and what has its heading after it
  begun_with : (before after : List (List ℕ)) (s : List ℕ) → fed ≡ before ++ s ∷ after
      → (t : Heading) (p : List ℕ) → heard s ≡ good_current t p → room t.last ≡ true → begins_after (account room idle before) t ≡ true
      → ((r : List ℕ) → In r after → (h : Heading) (q : List ℕ) → heard r ≡ good_current h q → is_newer t h ≡ true → room h.last ≡ false)
      → Latest room fed (table t (record { number = t.number; contents = p } ∷ sections_of_table t after))

-- a run without a takeover: of its good, current sections none is newer than another
unfoldable pub NoneNewer : List (List ℕ) → Type 0
NoneNewer fed =
    (s s' : List ℕ) → In s fed → In s' fed → (h h' : Heading) (p p' : List ℕ) → heard s ≡ good_current h p → heard s' ≡ good_current h' p' → is_newer h h' ≡ false
