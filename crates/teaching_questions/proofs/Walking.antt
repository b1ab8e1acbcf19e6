-- Laws of a walk along rows: the sections of a table among them, one string at a time, and what is told of them all.
use Prim.Native.Nat.{ℕ, ◌-◌, ◌≤◌}
use mathlib.Core.Bool.{Bool, true, false, not, ◌&&◌, cond}
use mathlib.Core.List.{List, [], ◌∷◌, ◌++◌, append-nil}
use mathlib.Core.Path.{◌≡◌, refl, sym, ap, ◌∙◌}
use native.Mathlib.Omega.{arith}
use lib.Dec.{eqb}
use lib.ListN.{length, take, drop, length-drop}
use lib.Seq.{take_all}
use Rattle.std.specs.Prelude.{Option, Some, None, if◌then◌else◌}
use Rattle.std.specs.List.{list_any, find}
use Rattle.ground_numbers.specs.Sizes.{payload_most}
use Rattle.section_reader.specs.Section.{payload_of}
use Rattle.section_reader.specs.declared.Heading.{Heading}
use Rattle.gathering_tables.specs.Tables.{same_table}
use Rattle.gathering_account.specs.Account.{heard, Section as Carried, contents_of}
use Rattle.gathering_account.specs.Latest.{section_of_table, sections_of_table}
use Rattle.gathering_account.specs.Answering.{present, contradicts, differs, agreeing}
use Rattle.gathering_account.proofs.Latest.{sections_append}
use Rattle.teaching_rows.specs.Rows.{row_begins, strings_in, FirstRow}
use Rattle.teaching_rows.proofs.Rows.{row_strings, strings_none}
use Rattle.teaching_questions.specs.Questions.{said}
use Rattle.teaching_questions.proofs.Saying.{Current, said_section, nothing_section, other_section, own_section, payload_short}

-- ---- one row

abbrev pub sections_in : Heading → List ℕ → List Carried
sections_in t b = sections_of_table t (strings_in b)

module _ (t : Heading) {b s after : List ℕ} (r : FirstRow b s after) where
  pub sections_here : sections_in t b ≡ section_of_table t (heard s) ++ sections_in t after
  unfolding sections_of_table
  sections_here = ap (sections_of_table t) (row_strings r)

  pub sections_past : section_of_table t (heard s) ≡ [] → sections_in t after ≡ sections_in t b
  sections_past e = sym (sections_here ∙ ap (λ X. X ++ sections_in t after) e)

  pub sections_next : (x : Carried) → section_of_table t (heard s) ≡ x ∷ [] → sections_in t b ≡ x ∷ sections_in t after
  sections_next x e = sections_here ∙ ap (λ X. X ++ sections_in t after) e

pub sections_end : (t : Heading) (b : List ℕ) → row_begins b ≡ false → sections_in t b ≡ []
unfolding sections_of_table
sections_end t b e = ap (sections_of_table t) (strings_none b e)

pub sections_more : (t : Heading) (xs : List (List ℕ)) (s : List ℕ) → sections_of_table t (xs ++ s ∷ []) ≡ sections_of_table t xs ++ section_of_table t (heard s)
unfolding sections_of_table
sections_more t xs s = sections_append t xs (s ∷ []) ∙ ap (λ S. sections_of_table t xs ++ S) (append-nil (section_of_table t (heard s)))

-- the rest of the bytes, as the code cuts it off
pub to_end : (b : List ℕ) (at : ℕ) → take (length b - at) (drop at b) ≡ drop at b
to_end b at = take_all (length b - at) (drop at b) (omega (arith, length-drop at b))

-- ---- questions of all sections, as std asks them

pub present_any : (k : ℕ) (S : List Carried) → list_any (λ x. eqb x.number k) S ≡ present k S
unfolding present
present_any k [] = refl
present_any k (x ∷ S) = rw (present_any k S)

pub differs_any : (x : Carried) (S : List Carried) → list_any (contradicts x) S ≡ differs x S
unfolding differs
differs_any x [] = refl
differs_any x (y ∷ S) = rw (differs_any x S)

abbrev pub contents_held : Option Carried → List ℕ
contents_held None = []
contents_held (Some x) = x.contents

pub contents_find : (k : ℕ) (S : List Carried) → contents_held (find (λ x. eqb x.number k) S) ≡ contents_of k S
unfolding contents_of
contents_find k [] = refl
contents_find k (x ∷ S) = go (eqb x.number k) (contents_find k S)
  where
    go : (b : Bool) → contents_held (find (λ y. eqb y.number k) S) ≡ contents_of k S
        → contents_held (cond b (Some x) (find (λ y. eqb y.number k) S)) ≡ (if b then x.contents else contents_of k S)
    go true e = refl
    go false e = e

-- ---- contents are short

module _ (t : Heading) (k : ℕ) where
  short_one : (s : List ℕ) (S : List Carried) → length (contents_of k S) ≤ payload_most
      → length (contents_of k (section_of_table t (heard s) ++ S)) ≤ payload_most
  unfolding contents_of
  short_one s S h = go (said (heard s)) refl
    where
      none : section_of_table t (heard s) ≡ [] → length (contents_of k (section_of_table t (heard s) ++ S)) ≤ payload_most
      none e = rw e h

      go : (x : Option Heading) → said (heard s) ≡ x → length (contents_of k (section_of_table t (heard s) ++ S)) ≤ payload_most
      go None q = none (nothing_section t s q)
      go (Some u) q = by (same_table t u) refl (said_section s u q)
        where
          by : (b : Bool) → same_table t u ≡ b → Current s u → length (contents_of k (section_of_table t (heard s) ++ S)) ≤ payload_most
          by false b c = none (other_section t s u c b)
          by true b c = rw (own_section t s u c b) (pick (eqb u.number k) (payload_short s c.long c.short))
            where
              pick : (y : Bool) → length (payload_of s) ≤ payload_most → length (if y then payload_of s else contents_of k S) ≤ payload_most
              pick true l = l
              pick false l = h

  pub contents_short : (kept : List (List ℕ)) → length (contents_of k (sections_of_table t kept)) ≤ payload_most
  unfolding contents_of sections_of_table
  contents_short [] = omega arith
  contents_short (s ∷ kept) = short_one s (sections_of_table t kept) (contents_short kept)

-- ---- whether no two of one number differ

-- by the first of them, and whether it differs from one of the others
module _ (x : Carried) (S T : List Carried) (d a : Bool) (e : T ≡ x ∷ S) (q : d ≡ differs x S) (inv : agreeing T ≡ a) where
  here : not d && agreeing S ≡ a
  unfolding agreeing
  here = ap (λ y. not y && agreeing S) q ∙ sym (ap agreeing e) ∙ inv

  pub agree_clash : d ≡ true → false ≡ a
  agree_clash f = ap (λ y. not y && agreeing S) (sym f) ∙ here

  pub agree_on : d ≡ false → agreeing S ≡ a
  agree_on f = ap (λ y. not y && agreeing S) (sym f) ∙ here

pub agree_end : (S : List Carried) (a : Bool) → S ≡ [] → agreeing S ≡ a → true ≡ a
unfolding agreeing
agree_end S a e inv = sym (ap agreeing e) ∙ inv
