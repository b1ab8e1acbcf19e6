-- Laws of where contents stand: those of a number are a piece of the rows that keep the strings.
use Prim.Native.Nat.{ℕ, zero, suc, ◌+◌, ◌-◌, ◌≤◌}
use mathlib.Core.Bool.{Bool, true, false}
use mathlib.Core.List.{List, [], ◌++◌}
use mathlib.Core.Path.{◌≡◌, refl, sym, ap, ◌∙◌}
use native.Mathlib.Omega.{arith}
use lib.Dec.{eqb}
use lib.ListN.{length, take, drop, length-drop}
use lib.Seq.{drop-drop, length-take-le}
use Rattle.std.specs.Prelude.{Option, Some, None, if◌then◌else◌}
use Rattle.section_reader.specs.Section.{payload_of}
use Rattle.section_reader.specs.declared.Heading.{Heading}
use Rattle.gathering_tables.specs.Tables.{same_table}
use Rattle.gathering_account.specs.Account.{heard, Section as Carried, contents_of}
use Rattle.gathering_account.specs.Latest.{section_of_table}
use Rattle.teaching_rows.specs.Rows.{length_bytes, length_in, row_begins, FirstRow}
use Rattle.teaching_rows.proofs.Rows.{begins_long, begins_not, first_string, after_first}
use Rattle.teaching_rows.proofs.Fronts.{part_of_part}
use Rattle.teaching_questions.specs.Questions.{said, StandsIn}
use Rattle.teaching_questions.proofs.Saying.{Current, said_section, nothing_section, other_section, own_section}
use Rattle.teaching_questions.proofs.Walking.{sections_in, sections_here, sections_end}

-- ---- pieces

-- so many bytes from a place on
stands_part : (b : List ℕ) (at n : ℕ) → at + n ≤ length b → StandsIn b (take n (drop at b))
stands_part b at n h =
    let size : length (take n (drop at b)) ≡ n = length-take-le n (drop at b) (omega (arith, length-drop at b)) in
    record { at = at; within = omega (arith, size); are = ap (λ m. take m (drop at b)) size }

stands_none : (b : List ℕ) → StandsIn b []
stands_none b = record { at = 0; within = omega arith; are = refl }

-- what stands in the bytes from a place on stands in all of them
stands_after : (n : ℕ) (b part : List ℕ) → n ≤ length b → StandsIn (drop n b) part → StandsIn b part
stands_after n b part h s =
    record {
      at = n + s.at;
      within = omega (arith, s.within, length-drop n b);
      are = ap (take (length part)) (sym (drop-drop s.at n b)) ∙ s.are;
    }

-- the payload of the first string
module _ (b : List ℕ) (e : row_begins b ≡ true) (l : 12 ≤ length (first_string b)) where
  first_size : length (first_string b) ≡ length_in b
  first_size = length-take-le (length_in b) (drop length_bytes b) (omega (arith, begins_long b e, length-drop length_bytes b))

  payload_is : take (length (first_string b) - 12) (drop (length_bytes + 8) b) ≡ payload_of (first_string b)
  unfolding payload_of
  payload_is =
      let n = length (first_string b) - 12 in
      sym (part_of_part 8 n (length_in b) (drop length_bytes b)
      (omega (arith, first_size)) (omega (arith, begins_long b e, length-drop length_bytes b))
      ∙ ap (take n) (drop-drop 8 length_bytes b))

  payload_stands : StandsIn b (payload_of (first_string b))
  payload_stands =
      rw payload_is at (stands_part b (length_bytes + 8) (length (first_string b) - 12) (omega (arith, first_size, begins_long b e)))

-- ---- the contents of a number

module _ (t : Heading) (k : ℕ) where
  abbrev Stands : List ℕ → Type 0
  Stands b = StandsIn b (contents_of k (sections_in t b))

  -- they are those of the first string, or stand in the rows after it
  module _ (b : List ℕ) (e : row_begins b ≡ true) (more : Stands (after_first b)) where
    abbrev s : List ℕ
    s = first_string b

    abbrev S : List Carried
    S = sections_in t (after_first b)

    later : StandsIn b (contents_of k S)
    later = stands_after (length_bytes + length_in b) b (contents_of k S) (begins_long b e) more

    first_or_later : StandsIn b (contents_of k (section_of_table t (heard s) ++ S))
    unfolding contents_of
    first_or_later = go (said (heard s)) refl
      where
        none : section_of_table t (heard s) ≡ [] → StandsIn b (contents_of k (section_of_table t (heard s) ++ S))
        none q = rw q later

        go : (x : Option Heading) → said (heard s) ≡ x → StandsIn b (contents_of k (section_of_table t (heard s) ++ S))
        go None q = none (nothing_section t s q)
        go (Some u) q = by (same_table t u) refl (said_section s u q)
          where
            by : (x : Bool) → same_table t u ≡ x → Current s u → StandsIn b (contents_of k (section_of_table t (heard s) ++ S))
            by false x c = none (other_section t s u c x)
            by true x c = rw (own_section t s u c x) (pick (eqb u.number k) (payload_stands b e c.long))
              where
                pick : (y : Bool) → StandsIn b (payload_of s) → StandsIn b (if y then payload_of s else contents_of k S)
                pick true p = p
                pick false p = later

  stands_end : (b : List ℕ) → row_begins b ≡ false → Stands b
  unfolding contents_of
  stands_end b e = rw (sections_end t b e) (stands_none b)

  stands_row : (b : List ℕ) → row_begins b ≡ true → Stands (after_first b) → Stands b
  stands_row b e more =
      let r : FirstRow b (first_string b) (after_first b) = record { begins = e; string_is = refl; after_is = refl } in
      rw (sections_here t r) (first_or_later b e more)

  stands_more : (n : ℕ) → ((b : List ℕ) → length b ≤ n → Stands b) → (b : List ℕ) → length b ≤ suc n → (x : Bool) → row_begins b ≡ x → Stands b
  stands_more n more b h false e = stands_end b e
  stands_more n more b h true e =
      stands_row b e (more (after_first b) (omega (arith, begins_long b e, length-drop (length_bytes + length_in b) b)))

  stands_upto : (n : ℕ) (b : List ℕ) → length b ≤ n → Stands b
  stands_upto zero b h = stands_end b (begins_not b (omega arith))
  stands_upto (suc n) b h = stands_more n (stands_upto n) b h (row_begins b) refl

  pub contents_stand : (b part : List ℕ) → part ≡ contents_of k (sections_in t b) → StandsIn b part
  contents_stand b part e = rw e (stands_upto (length b) b (omega arith))
