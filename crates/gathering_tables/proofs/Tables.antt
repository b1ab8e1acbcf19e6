-- Laws of the tables that two headings name: the steps between any two versions, and what the tests say of the fields.
use Rattle.std.proofs.Common.{◌≡◌, ℕ, ◌+◌, ◌-◌, ◌%◌, ◌<◌, ◌≤◌, Bool, true, false, not, ◌&&◌, ◌||◌, eqb, leb, sym, refl, ap, ◌∙◌, arith, eq-eqb, ne_eqb, eqb-true, le-leb, leb-false, leb-true}
use borrow.Author.Tests.{eqb-false, lt-leb}
use Rattle.ground_choices.proofs.Tests.{both, refuted}
use Rattle.section_reader.specs.declared.Heading.{Heading}
use Rattle.gathering_tables.specs.Tables.{steps_ahead, same_table, is_newer, is_other}

-- ---- the ring of 32 versions

-- no version is ahead of itself
pub steps_same : (v : ℕ) → steps_ahead v v ≡ 0
unfolding steps_ahead
steps_same v = omega arith

-- every pair of versions
module _ (held new : ℕ) (h : held ≤ 31) (n : new ≤ 31) where
  pub steps_up : held ≤ new → steps_ahead held new ≡ new - held
  unfolding steps_ahead
  steps_up l = omega arith

  pub steps_round : new < held → steps_ahead held new ≡ 32 - (held - new)
  unfolding steps_ahead
  steps_round l = omega arith

  -- from the held version so many steps on comes the new one
  pub steps_lead : (held + steps_ahead held new) % 32 ≡ new
  unfolding steps_ahead
  steps_lead = omega arith

  pub steps_none : steps_ahead held new ≡ 0 → held ≡ new
  unfolding steps_ahead
  steps_none e = omega arith

-- ---- one table

pub record SameTable (held new : Heading) : Type 0 where
  pub kind : held.kind ≡ new.kind
  pub extension : held.extension ≡ new.extension
  pub version : held.version ≡ new.version
  pub last : held.last ≡ new.last

module _ (held new : Heading) where
  pub same_fields : same_table held new ≡ true → SameTable held new
  unfolding same_table
  same_fields e =
      let l = both _ (eqb held.last new.last) e in
      let v = both _ (eqb held.version new.version) l.0 in
      let x = both (eqb held.kind new.kind) (eqb held.extension new.extension) v.0 in
      record { kind = eqb-true _ _ x.0; extension = eqb-true _ _ x.1; version = eqb-true _ _ v.1; last = eqb-true _ _ l.1 }

  pub same_test : SameTable held new → true ≡ same_table held new
  unfolding same_table
  same_test s = simp (eq-eqb _ _ s.kind, eq-eqb _ _ s.extension, eq-eqb _ _ s.version, eq-eqb _ _ s.last)

-- ---- a newer table

pub record Newer (held new : Heading) : Type 0 where
  pub kind : held.kind ≡ new.kind
  pub extension : held.extension ≡ new.extension
  pub some : 1 ≤ steps_ahead held.version new.version
  pub few : steps_ahead held.version new.version ≤ 15

module _ (held new : Heading) where
  abbrev steps : ℕ
  steps = steps_ahead held.version new.version

  newer_fields : is_newer held new ≡ true → Newer held new
  unfolding is_newer
  newer_fields e =
      let f = both _ (leb steps 15) e in
      let s = both _ (leb 1 steps) f.0 in
      let x = both (eqb held.kind new.kind) (eqb held.extension new.extension) s.0 in
      record { kind = eqb-true _ _ x.0; extension = eqb-true _ _ x.1; some = leb-true _ _ s.1; few = leb-true _ _ f.1 }

  pub newer_not : (Newer held new → ⊥) → false ≡ is_newer held new
  newer_not f = refuted (is_newer held new) (λ e. f (newer_fields e))

  -- a table is not newer than itself
  pub same_not_newer : same_table held new ≡ true → is_newer held new ≡ false
  same_not_newer e =
      sym (newer_not (λ n.
      let z = ap (steps_ahead held.version) (sym (same_fields held new e).version) ∙ steps_same held.version in
      let s = n.some in
      omega arith))

  -- ---- another table

  abbrev Neither : Type 0
  Neither = is_other held new ≡ not (is_newer held new || same_table held new)

  by_steps : (one few zero far equal : Bool) → leb 1 steps ≡ one → leb steps 15 ≡ few → eqb steps 0 ≡ zero → leb 16 steps ≡ far
      → eqb held.version new.version ≡ equal
      → ((k x l : Bool) → not k || not x || zero && not l || far ≡ not (k && x && one && few || k && x && equal && l)) → Neither
  unfolding is_other is_newer same_table
  by_steps one few zero far equal a b c d e f =
      rw (a, b, c, d, e) (f (eqb held.kind new.kind) (eqb held.extension new.extension) (eqb held.last new.last))

  module _ (h : held.version ≤ 31) (n : new.version ≤ 31) where
    differ : (steps ≡ 0 → ⊥) → eqb held.version new.version ≡ false
    differ z = ne_eqb _ _ (λ e. z (ap (steps_ahead held.version) (sym e) ∙ steps_same held.version))

    none_ahead : steps ≡ 0 → Neither
    none_ahead z =
        by_steps false true true false true (lt-leb 1 steps (omega arith)) (le-leb steps 15 (omega arith)) (eq-eqb _ _ z) (lt-leb 16 steps (omega arith))
        (eq-eqb _ _ (steps_none _ _ h n z)) same
      where
        same : (k x l : Bool) → not k || not x || true && not l || false ≡ not (k && x && false && true || k && x && true && l)
        same true true true = refl
        same true true false = refl
        same true false l = refl
        same false x l = refl

    some_ahead : 1 ≤ steps → steps ≤ 15 → Neither
    some_ahead o f =
        by_steps true true false false false (le-leb 1 steps o) (le-leb steps 15 f) (ne_eqb steps 0 (omega arith)) (lt-leb 16 steps (omega arith))
        (differ (omega arith)) same
      where
        same : (k x l : Bool) → not k || not x || false && not l || false ≡ not (k && x && true && true || k && x && false && l)
        same true true l = refl
        same true false l = refl
        same false x l = refl

    far_ahead : 16 ≤ steps → Neither
    far_ahead f =
        by_steps true false false true false (le-leb 1 steps (omega arith)) (lt-leb steps 15 (omega arith)) (ne_eqb steps 0 (omega arith)) (le-leb 16 steps f)
        (differ (omega arith)) same
      where
        same : (k x l : Bool) → not k || not x || false && not l || true ≡ not (k && x && true && false || k && x && false && l)
        same true true l = refl
        same true false l = refl
        same false x l = refl

    -- "another kind or extension, [..] 0 steps with another last number, [..] 16 to 31 steps": what is neither newer nor the same
    pub other_exactly : Neither
    other_exactly = go (eqb steps 0) refl (leb 16 steps) refl
      where
        go : (zero : Bool) → eqb steps 0 ≡ zero → (far : Bool) → leb 16 steps ≡ far → Neither
        go true z far f = none_ahead (eqb-true _ _ z)
        go false z true f = far_ahead (leb-true _ _ f)
        go false z false f = let a = eqb-false steps 0 z in let b = leb-false 16 steps f in some_ahead (omega arith) (omega arith)
