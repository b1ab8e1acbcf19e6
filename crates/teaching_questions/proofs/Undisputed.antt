-- Laws of the walk to the first contradiction: each string is held against those before it, which contradict each other nowhere.
use Prim.Native.Nat.{ℕ}
use mathlib.Core.Bool.{Bool, true, false}
use mathlib.Core.List.{List, [], ◌∷◌, ◌++◌, append-nil}
use native.Mathlib.Omega.{arith}
use mathlib.Core.Path.{◌≡◌, refl, sym, ap, ◌∙◌}
use lib.ListN.{take}
use Rattle.std.specs.Prelude.{if◌then◌else◌}
use Rattle.section_reader.specs.declared.Heading.{Heading}
use Rattle.gathering_tables.specs.Tables.{same_table}
use Rattle.gathering_account.specs.Account.{Heard, nothing, good_current, heard, Section as Carried}
use Rattle.gathering_account.specs.Latest.{section_of_table, sections_of_table}
use Rattle.gathering_account.specs.Answering.{differs, calm_from, undisputed}
use Rattle.teaching_rows.specs.Rows.{row_begins, strings_in, FirstRow}
use Rattle.teaching_rows.proofs.Rows.{Left, left_all, place, begins_here, end_here, string_here, left_on}
use Rattle.teaching_rows.proofs.Fronts.{Front, front_none, front_start, front_row, front_next}
use Rattle.teaching_questions.specs.Questions.{section, clashes_with, clashes, Undisputed}
use Rattle.teaching_questions.proofs.Walking.{sections_in, sections_here, sections_end, sections_more}

-- the sections of t's table among the rows up to a place
abbrev pub sections_before : Heading → List ℕ → ℕ → List Carried
sections_before t b at = sections_of_table t (strings_in (take at b))

-- ---- one string

module _ (t : Heading) (s : List ℕ) (others : List (List ℕ)) where
  pub clash_none : section_of_table t (heard s) ≡ [] → false ≡ clashes t s others
  unfolding clashes clashes_with
  clash_none e = rw e

  pub clash_one : (x : Carried) → section_of_table t (heard s) ≡ x ∷ [] → differs x (sections_of_table t others) ≡ clashes t s others
  unfolding clashes clashes_with
  clash_one x e = rw e

-- it is no section of the table, or one that is held against those before it
calm_one : (t : Heading) (x : Heard) (B S : List Carried)
    → calm_from B (section_of_table t x ++ S) ≡ (if clashes_with (section_of_table t x) B then B else calm_from (B ++ section_of_table t x) S)
unfolding section_of_table calm_from clashes_with
calm_one t nothing B S = ap (λ C. calm_from C S) (sym (append-nil B))
calm_one t (good_current h p) B S = go (same_table t h)
  where
    first : Bool → List Carried
    first b = if b then section h.number p ∷ [] else []

    go : (b : Bool) → calm_from B (first b ++ S) ≡ (if clashes_with (first b) B then B else calm_from (B ++ first b) S)
    go true = refl
    go false = ap (λ C. calm_from C S) (sym (append-nil B))

-- ---- the walk

module _ (t : Heading) (b : List ℕ) where
  none_before : sections_before t b 0 ≡ []
  unfolding sections_of_table
  none_before = ap (sections_of_table t) (front_none b)

  calm_start : calm_from (sections_before t b 0) (sections_in t b) ≡ undisputed (sections_in t b)
  unfolding undisputed
  calm_start = ap (λ B. calm_from B (sections_in t b)) none_before

-- how the walk stands that has so much left: those before contradict each other nowhere
pub record Calm (t : Heading) (b rest : List ℕ) : Type 0 where
  pub left : Left b rest
  pub front : Front b (place b rest)
  pub calm : calm_from (sections_before t b (place b rest)) (sections_in t rest) ≡ undisputed (sections_in t b)

pub calm_begin : (t : Heading) (b : List ℕ) → Calm t b b
calm_begin t b =
    let z : place b b ≡ 0 = omega arith in
    record { left = left_all b; front = rw z (front_start b); calm = rw z (calm_start t b) }

module _ (t : Heading) (b rest : List ℕ) (inv : Calm t b rest) where
  abbrev B : List Carried
  B = sections_before t b (place b rest)

  pub calm_end : row_begins rest ≡ false → Undisputed b t (place b rest)
  unfolding calm_from
  calm_end e = record { within = omega arith; are = ap (calm_from B) (sym (sections_end t rest e)) ∙ inv.calm }

  module _ (s after : List ℕ) (r : FirstRow rest s after) (x : Bool) (q : x ≡ clashes t s (strings_in (take (place b rest) b))) where
    abbrev X : List Carried
    X = section_of_table t (heard s)

    abbrev by : Bool → List Carried
    by y = if y then B else calm_from (B ++ X) (sections_in t after)

    here : by x ≡ undisputed (sections_in t b)
    unfolding clashes
    here = ap by q ∙ sym (calm_one t (heard s) B (sections_in t after)) ∙ ap (calm_from B) (sym (sections_here t r)) ∙ inv.calm

    pub calm_found : x ≡ true → Undisputed b t (place b rest)
    calm_found f = record { within = omega arith; are = ap by (sym f) ∙ here }

    more : sections_before t b (place b after) ≡ B ++ X
    more =
        ap (sections_of_table t) (front_row b (place b rest) inv.front (begins_here inv.left r) (place b after) (end_here inv.left r))
        ∙ sections_more t (strings_in (take (place b rest) b)) _ ∙ ap (λ y. B ++ section_of_table t (heard y)) (sym (string_here inv.left r))

    pub calm_on : x ≡ false → Calm t b after
    calm_on f =
        record {
          left = left_on inv.left r;
          front = front_next b (place b rest) inv.front (begins_here inv.left r) (place b after) (end_here inv.left r);
          calm = ap (λ C. calm_from C (sections_in t after)) more ∙ ap by (sym f) ∙ here;
        }
