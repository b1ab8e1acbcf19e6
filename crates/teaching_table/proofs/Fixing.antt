-- The walk that fixes a table: what it has found so far, with the strings still to come, makes the account of all.
use Prim.Native.Nat.{ℕ, ◌≤◌, ◌<◌}
use Rattle.std.specs.Prelude.{Option, Some, None}
use mathlib.Core.Path.{◌≡◌, refl, sym, ap, ◌∙◌}
use mathlib.Core.Bool.{Bool, true, false}
use mathlib.Core.List.{List, [], ◌∷◌, ◌++◌, append-nil, append_assoc}
use native.Mathlib.Omega.{arith}
use lib.ListN.{length, drop}
use Rattle.section_reader.specs.declared.Heading.{Heading}
use Rattle.gathering_state.specs.State.{has_room}
use Rattle.gathering_tables.specs.Tables.{same_table, is_newer}
use Rattle.gathering_tables.proofs.Tables.{same_test}
use Rattle.gathering_account.specs.Account.{nothing, good_current, heard, Section as Carried, Account, idle, table, account_after, account}
use Rattle.gathering_account.specs.Latest.{begins_after, section_of_table, sections_of_table}
use Rattle.gathering_account.proofs.Hearing.{counted_nothing, counted_first, counted_none, counted_same, counted_other}
use Rattle.gathering_account.proofs.Latest.{own_section, no_section, newer_other}
use Rattle.gathering_account.proofs.Growing.{HeardIs, hears_nothing, hears, heard_is}
use Rattle.teaching_rows.specs.Rows.{row_begins, strings_in, FirstRow}
use Rattle.teaching_rows.proofs.Rows.{Left, place, left_all, left_on, after_here, row_strings, strings_none}
use Rattle.teaching_questions.specs.Questions.{said, section}
use Rattle.teaching_questions.proofs.Saying.{said_section}
use Rattle.teaching_questions.proofs.Walking.{sections_more}
use Rattle.teaching_table.specs.Table.{account_in, told, begins_in, fixed_after, Among, Versioned, FixedIn}

-- ---- sections of a table

same_self : (t : Heading) → same_table t t ≡ true
same_self t = sym (same_test t t (record { kind = refl; extension = refl; version = refl; last = refl }))

silent_section : (t : Heading) → section_of_table t nothing ≡ []
unfolding section_of_table
silent_section t = refl

-- ---- how the walk stands at a place

pub data Standing (room : ℕ → Bool) (b : List ℕ) (at : ℕ) : Option (Heading × ℕ) → Type 0 where
  -- nothing is begun by the strings passed
  none_yet : account room idle (strings_in b) ≡ account room idle (strings_in (drop at b)) → Standing room b at None
  -- a table is; these strings were passed since its first section
  since : (t : Heading) (from : ℕ) (passed : List (List ℕ)) → from ≤ length b → t.version < 256
      → strings_in (drop from b) ≡ passed ++ strings_in (drop at b)
      → account room idle (strings_in b) ≡ account room (table t (sections_of_table t passed)) (strings_in (drop at b)) → Standing room b at (Some (t, from))

pub standing_versioned : {room : ℕ → Bool} {b : List ℕ} {at : ℕ} {f : Option (Heading × ℕ)} → Standing room b at f → Versioned f
unfolding Versioned
standing_versioned (none_yet q) = tt
standing_versioned (since t from passed h v x q) = v

-- ---- a turn

module _ (room : ℕ → Bool) (b left : List ℕ) (l : Left b left) (s after : List ℕ) (r : FirstRow left s after) where
  abbrev at : ℕ
  at = place b left

  abbrev end : ℕ
  end = place b after

  abbrev rest : List (List ℕ)
  rest = strings_in (drop end b)

  row_strings_here : strings_in (drop at b) ≡ s ∷ rest
  row_strings_here = ap strings_in (sym l.is) ∙ row_strings r ∙ ap (λ y. s ∷ strings_in y) (after_here l r)

  next : (a : Account) → account room a (strings_in (drop at b)) ≡ account room (account_after room a (heard s)) rest
  unfolding account
  next a = ap (account room a) (row_strings_here)

  module _ (before : Account) (q : account room idle (strings_in b) ≡ account room before (strings_in (drop at b))) where
    moved : (a : Account) → account_after room before (heard s) ≡ a → account room idle (strings_in b) ≡ account room a rest
    moved a x = q ∙ next before ∙ ap (λ y. account room y rest) x

    -- the string begins its table
    begun : (h : Heading) (p : List ℕ) → heard s ≡ good_current h p → h.version < 256 → room h.last ≡ true → begins_after before h ≡ true
        → Standing room b end (Some (h, at))
    unfolding sections_of_table
    begun h p f v m n =
        let one : sections_of_table h (s ∷ []) ≡ section h.number p ∷ [] =
        append-nil (section_of_table h (heard s)) ∙ ap (section_of_table h) f ∙ own_section h h p (same_self h) in
        since h at (s ∷ []) (omega arith) v (row_strings_here)
        (moved (table h (sections_of_table h (s ∷ []))) (ap (account_after room before) f ∙ counted_first room h p m before n ∙ ap (table h) (sym one)))

  -- nothing was begun, and nothing is
  still_none : account room idle (strings_in b) ≡ account room idle (strings_in (drop at b)) → account_after room idle (heard s) ≡ idle
      → Standing room b end None
  still_none q x = none_yet (moved idle q idle x)

  -- a table stays: it has one section more, or none
  module _ (t : Heading) (from : ℕ) (passed : List (List ℕ)) (h : from ≤ length b) (v : t.version < 256)
      (x : strings_in (drop from b) ≡ passed ++ strings_in (drop at b))
      (q : account room idle (strings_in b) ≡ account room (table t (sections_of_table t passed)) (strings_in (drop at b))) where
    abbrev S : List Carried
    S = sections_of_table t passed

    stays : (X : List Carried) → section_of_table t (heard s) ≡ X → account_after room (table t S) (heard s) ≡ table t (S ++ X)
        → Standing room b end (Some (t, from))
    stays X y z =
        let more : sections_of_table t (passed ++ s ∷ []) ≡ S ++ X = sections_more t passed s ∙ ap (λ Y. S ++ Y) y in
        since t from (passed ++ s ∷ []) h v (x ∙ ap (λ y. passed ++ y) (row_strings_here) ∙ sym (append_assoc passed (s ∷ []) rest))
        (moved (table t S) q (table t (sections_of_table t (passed ++ s ∷ []))) (z ∙ ap (table t) (sym more)))

    unmoved : section_of_table t (heard s) ≡ [] → account_after room (table t S) (heard s) ≡ table t S → Standing room b end (Some (t, from))
    unmoved y z = stays [] y (z ∙ ap (table t) (sym (append-nil S)))

  -- ---- by what is heard

  versioned : (h : Heading) (p : List ℕ) → heard s ≡ good_current h p → h.version < 256
  unfolding said
  versioned h p f = (said_section s h (ap said f)).versioned

  turn_heard : {f : Option (Heading × ℕ)} → Standing room b at f → HeardIs s → Standing room b end (fixed_after room f at (heard s))
  unfolding fixed_after begins_in begins_after
  turn_heard (none_yet q) (hears_nothing g) = rw g (still_none q (ap (account_after room idle) g ∙ counted_nothing room idle))
  turn_heard (none_yet q) (hears h p g) = go (room h.last) refl
    where
      go : (m : Bool) → room h.last ≡ m → Standing room b end (fixed_after room None at (heard s))
      go true m = rw (g, m) (begun idle q h p g (versioned h p g) m refl)
      go false m = rw (g, m) (still_none q (ap (account_after room idle) g ∙ counted_none room h p m idle refl))
  turn_heard (since t from passed l v x q) (hears_nothing g) =
      rw g (unmoved t from passed l v x q (ap (section_of_table t) g ∙ silent_section t) (ap (account_after room _) g ∙ counted_nothing room _))
  turn_heard (since t from passed l v x q) (hears h p g) = go (is_newer t h) refl (room h.last) refl (same_table t h) refl
    where
      go : (n : Bool) → is_newer t h ≡ n → (m : Bool) → room h.last ≡ m → (k : Bool) → same_table t h ≡ k
          → Standing room b end (fixed_after room (Some (t, from)) at (heard s))
      go true n true m k o = rw (g, n, m) (begun (table t (sections_of_table t passed)) q h p g (versioned h p g) m n)
      go true n false m k o =
          rw (g, n, m)
          (unmoved t from passed l v x q (ap (section_of_table t) g ∙ no_section t h p (newer_other t h p n))
          (ap (account_after room (table t (sections_of_table t passed))) g ∙ counted_none room h p m (table t (sections_of_table t passed)) n))
      go false n m r true o =
          rw (g, n)
          (stays t from passed l v x q _ (ap (section_of_table t) g ∙ own_section t h p o)
          (ap (account_after room (table t (sections_of_table t passed))) g ∙ counted_same room h p t (sections_of_table t passed) o))
      go false n m r false o =
          rw (g, n)
          (unmoved t from passed l v x q (ap (section_of_table t) g ∙ no_section t h p o)
          (ap (account_after room (table t (sections_of_table t passed))) g ∙ counted_other room h p t (sections_of_table t passed) n o))

  standing_turn : {f : Option (Heading × ℕ)} → Standing room b at f → Standing room b end (fixed_after room f at (heard s))
  standing_turn st = turn_heard st (heard_is s)

-- ---- the walk: what is left, and what is found before it

pub record Walked (room : ℕ → Bool) (b left : List ℕ) (f : Option (Heading × ℕ)) : Type 0 where
  pub left_is : Left b left
  pub standing : Standing room b (place b left) f

pub walk_start : (room : ℕ → Bool) (b : List ℕ) → Walked room b b None
walk_start room b = record { left_is = left_all b; standing = none_yet (ap (λ y. account room idle (strings_in y)) (left_all b).is) }

pub walk_on : {room : ℕ → Bool} {b left s after : List ℕ} {f : Option (Heading × ℕ)} → Walked room b left f → FirstRow left s after
    → (g : Option (Heading × ℕ)) → g ≡ fixed_after room f (place b left) (heard s) → Walked room b after g
walk_on {room} {b} {left} {s} {after} v r g e =
    record { left_is = left_on v.left_is r; standing = rw e (standing_turn room b left v.left_is s after r v.standing) }

standing_end : (store : ℕ) (b : List ℕ) (at : ℕ) {f : Option (Heading × ℕ)} → row_begins (drop at b) ≡ false → Standing (has_room store) b at f → FixedIn store b f
unfolding account_in told Among Versioned account
standing_end store b at e (none_yet q) = record { is = sym (q ∙ ap (account (has_room store) idle) (strings_none (drop at b) e)); among = tt; versioned = tt }
standing_end store b at e (since t from passed h v x q) =
    let none = strings_none (drop at b) e in
    let all : strings_in (drop from b) ≡ passed = x ∙ ap (λ y. passed ++ y) none ∙ append-nil passed in
    record {
      is = ap (λ y. table t (sections_of_table t y)) all ∙ sym (q ∙ ap (account (has_room store) (table t (sections_of_table t passed))) none);
      among = h;
      versioned = v;
    }

pub walk_end : {store : ℕ} {b left : List ℕ} {f : Option (Heading × ℕ)} → Walked (has_room store) b left f → row_begins left ≡ false → FixedIn store b f
walk_end {store} {b} {left} v e = standing_end store b (place b left) (ap row_begins (sym v.left_is.is) ∙ e) v.standing

-- ---- for callers: a table that was found

pub record Found (store : ℕ) (b : List ℕ) (t : Heading) (from : ℕ) : Type 0 where
  pub is : account_in store b ≡ table t (sections_of_table t (strings_in (drop from b)))
  pub among : from ≤ length b
  pub versioned : t.version < 256

module _ {store : ℕ} {b : List ℕ} {f : Option (Heading × ℕ)} (x : FixedIn store b f) where
  pub found_table : (t : Heading) (from : ℕ) → f ≡ Some (t, from) → Found store b t from
  unfolding told Among Versioned
  found_table t from e = record { is = sym (rw e at x.is); among = rw e at x.among; versioned = rw e at x.versioned }

  pub found_nothing : f ≡ None → account_in store b ≡ idle
  unfolding told
  found_nothing e = sym (rw e at x.is)
