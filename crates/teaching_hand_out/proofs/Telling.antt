-- What leads to each answer: a law for each way out of the code.
use Prim.Native.Nat.{ℕ, ◌+◌, ◌-◌, ◌≤◌, ◌<◌}
use Rattle.std.specs.Prelude.{Result, Ok, Err}
use Rattle.ground_refusal.specs.declared.Refusal.{Refusal}
use mathlib.Core.Path.{◌≡◌, refl, sym, ap, ap₂, ◌∙◌}
use mathlib.Core.Bool.{true, false}
use mathlib.Core.List.{List}
use borrow.Author.Tests.{le-leb, lt-leb, lt-ltb, le-ltb, leb-true}
use lib.Dec.{leb}
use lib.ListN.{length, take, drop}
use Rattle.ground_choices.proofs.Tests.{both}
use Rattle.ground_placing.specs.Placed.{placed}
use Rattle.ground_refusal.specs.declared.Refusal.TheVariants.{Contradiction, ImpossibleState, Missing, OutputTooSmall}
use Rattle.section_reader.specs.declared.Heading.{Heading}
use Rattle.gathering_hand_out.specs.Handing.{handed_if_room, out_by}
use Rattle.gathering_account.specs.Account.{Section, idle, table, in_order, body_of}
use Rattle.gathering_account.specs.Latest.{sections_of_table}
use Rattle.gathering_account.specs.Answering.{agreeing, undisputed}
use Rattle.teaching_rows.specs.Rows.{strings_in, whole_rows, whole_in_use}
use Rattle.teaching_questions.specs.Questions.{absent_from, absent_count}
use Rattle.teaching_questions.proofs.Walking.{to_end}
use Rattle.teaching_table.specs.Table.{account_in}
use Rattle.teaching_table.proofs.Fixing.{Found}
use Rattle.teaching_hand_out.specs.Asking.{headed_to, lacking_table, lacking_to, handed_table, handed_to, heading_of, lacking_of, handed_of, out_after, Begun, Unbegun}

-- ---- the body of a table

module _ (t : Heading) (S : List Section) (out : List ℕ) where
  abbrev pub body : List ℕ
  body = in_order (t.last + 1) S

  abbrev pub Hands : Result ℕ Refusal → List ℕ → Type 0
  Hands r after = (r ≡ handed_table t S (length out)) × (after ≡ out_by body out r)

  pub table_11 : agreeing S ≡ false → Hands (Err Contradiction) out
  unfolding handed_table out_by
  table_11 a = (rw a, refl)

  module _ (a : agreeing S ≡ true) (k : ℕ) (e : k ≡ absent_from 0 (t.last + 1) S) where
    pub table_13 : k ≤ t.last → Hands (Err (Missing k)) out
    unfolding handed_table out_by
    table_13 h = (rw (a, ← e, le-leb k t.last h), refl)

    module _ (h : t.last < k) (n : ℕ) (f : n ≡ length body) where
      pub table_21 : length out < n → Hands (Err OutputTooSmall) out
      unfolding handed_table out_by handed_if_room
      table_21 l = (rw (a, ← e, lt-leb k t.last h, ← f, lt-ltb (length out) n l), refl)

      pub table_body : n ≤ length out → (after : List ℕ) → after ≡ placed out 0 body → Hands (Ok n) after
      unfolding handed_table out_by handed_if_room
      table_body l after g = (rw (a, ← e, lt-leb k t.last h, ← f, le-ltb (length out) n l), g)

-- both numbers are those of the undisputed sections
pub lacking_is : (t : Heading) (S U : List Section) → U ≡ undisputed S → (n k : ℕ) → n ≡ absent_count (t.last + 1) U → k ≡ absent_from 0 (t.last + 1) U
    → Ok (n, k) ≡ lacking_table t S
unfolding lacking_table
lacking_is t S U u n k e f =
    ap₂ (λ a b. Ok (a, b)) (e ∙ ap (absent_count (t.last + 1)) u) (f ∙ ap (absent_from 0 (t.last + 1)) u)

-- ---- of a buffer

module _ (buffer : List ℕ) (used store : ℕ) where
  pub within_buffer : whole_in_use buffer used ≡ true → used ≤ length buffer
  unfolding whole_in_use
  within_buffer w = leb-true _ _ (both (leb used (length buffer)) (whole_rows (take used buffer)) w).0

  pub unbegun_12 : whole_in_use buffer used ≡ false → Unbegun buffer used store ImpossibleState
  unfolding heading_of lacking_of handed_of
  unbegun_12 w = record { heading = rw w; lacking = rw w; handed = λ out. rw w }

  module _ (w : whole_in_use buffer used ≡ true) where
    pub unbegun_13 : account_in store (take used buffer) ≡ idle → Unbegun buffer used store (Missing 0)
    unfolding heading_of lacking_of handed_of headed_to lacking_to handed_to
    unbegun_13 i = record { heading = rw (w, i); lacking = rw (w, i); handed = λ out. rw (w, i) }

    pub begun_from : (t : Heading) (from : ℕ) → Found store (take used buffer) t from
        → Begun buffer used store t (take (length (take used buffer) - from) (drop from (take used buffer)))
    begun_from t from x =
        record { whole = w; is = x.is ∙ ap (λ y. table t (sections_of_table t (strings_in y))) (sym (to_end (take used buffer) from)) }

  -- the output stays, where nothing is handed out
  pub handed_unbegun : (r : Refusal) (x : Result ℕ Refusal) (out : List ℕ) → Unbegun buffer used store r → x ≡ Err r
      → (x ≡ handed_of buffer used store out) × (out ≡ out_after buffer used store out)
  unfolding out_after out_by
  handed_unbegun r x out u e = (e ∙ u.handed out, ap (out_by (body_of (account_in store (take used buffer))) out) (u.handed out))

  module _ (t : Heading) (kept : List ℕ) (g : Begun buffer used store t kept) where
    pub heading_begun : Ok t ≡ heading_of buffer used store
    unfolding heading_of headed_to
    heading_begun = rw (g.whole, g.is)

    pub lacking_begun : (r : Result (ℕ × ℕ) Refusal) → r ≡ lacking_table t (sections_of_table t (strings_in kept)) → r ≡ lacking_of buffer used store
    unfolding lacking_of lacking_to
    lacking_begun r e = rw (g.whole, g.is) e

    module _ (out : List ℕ) (r : Result ℕ Refusal) (after : List ℕ) (h : Hands t (sections_of_table t (strings_in kept)) out r after) where
      handed_is : r ≡ handed_of buffer used store out
      unfolding handed_of handed_to
      handed_is = rw (g.whole, g.is) h.0

      pub handed_begun : (r ≡ handed_of buffer used store out) × (after ≡ out_after buffer used store out)
      unfolding out_after body_of
      handed_begun =
          (handed_is, h.1 ∙ ap (λ a. out_by (body_of a) out r) (sym g.is) ∙ ap (out_by (body_of (account_in store (take used buffer))) out) handed_is)
