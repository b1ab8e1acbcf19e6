-- The message that leads after all were looked at is the one to show: none that may be shown comes before it.
use Prim.Native.Nat.{ℕ, zero, suc, ◌+◌, ◌≤◌, ◌<◌}
use mathlib.Core.Path.{◌≡◌, refl, sym, ap, ap₂, ◌∙◌, subst}
use mathlib.Core.Bool.{Bool, true, false, cond, false≢true}
use mathlib.Core.List.{List, [], ◌∷◌}
use native.Mathlib.Omega.{arith}
use borrow.Author.Tests.{eqb-true, eqb-false}
use lib.Dec.{eqb}
use lib.ListN.{length, drop}
use Rattle.time_fields.specs.declared.Moment.{Moment}
use Rattle.index.specs.Index.{Message}
use Rattle.screen_order.specs.Order.{comes_first, rank_by}
use Rattle.screen_order.proofs.Order as order
use Rattle.screen_choice.specs.Choice.{eligible, rank, Numbered, Shown, Leader, nobody, leads, passed_by, leader}

-- ---- messages by their numbers

numbered_one : (ms : List Message) (i : ℕ) (a b : Message) → Numbered ms i a → Numbered ms i b → a ≡ b
unfolding Numbered
numbered_one [] i a b p q = absurd p
numbered_one (x ∷ xs) zero a b p q = sym p ∙ q
numbered_one (x ∷ xs) (suc i) a b p q = numbered_one xs i a b p q

numbered_below : (ms : List Message) (i : ℕ) (a : Message) → Numbered ms i a → i < length ms
unfolding Numbered
numbered_below [] i a p = absurd p
numbered_below (x ∷ xs) zero a p = omega arith
numbered_below (x ∷ xs) (suc i) a p = let h = numbered_below xs i a p in omega arith

-- the first that is left has the number of those before it
numbered_next : (ms : List Message) (i : ℕ) (x : Message) (xs : List Message) → drop i ms ≡ x ∷ xs → Numbered ms i x × (drop (suc i) ms ≡ xs)
unfolding Numbered
numbered_next [] zero x xs e = absurd (let z : ◌≡◌ {A = ℕ} 0 1 = cc in omega arith)
numbered_next [] (suc i) x xs e = absurd (let z : ◌≡◌ {A = ℕ} 0 1 = cc in omega arith)
numbered_next (y ∷ ys) zero x xs e = (cc, cc)
numbered_next (y ∷ ys) (suc i) x xs e = numbered_next ys i x xs e

numbered_end : (ms : List Message) (i : ℕ) → drop i ms ≡ [] → length ms ≤ i
numbered_end [] i e = omega arith
numbered_end (y ∷ ys) zero e = absurd (let z : ◌≡◌ {A = ℕ} 0 1 = cc in omega arith)
numbered_end (y ∷ ys) (suc i) e = let h = numbered_end ys i e in omega arith

-- ---- two ranks

rank_long : (i : ℕ) (a : Message) → length (rank i a) ≡ 4
unfolding rank rank_by
rank_long i a = refl

rank_apart : (i j : ℕ) (a b : Message) → (i ≡ j → ⊥) → rank i a ≡ rank j b → ⊥
unfolding rank rank_by
rank_apart i j a b n e = n (cc)

rank_either : (i j : ℕ) (a b : Message) → (i ≡ j → ⊥) → comes_first (rank i a) (rank j b) ≡ false → comes_first (rank j b) (rank i a) ≡ true
rank_either i j a b n e = order.either_way (rank i a) (rank j b) (rank_long i a ∙ sym (rank_long j b)) (rank_apart i j a b n) e

-- ---- the one that leads

-- message j was looked at, being one of the first n, and may be shown
pub record Seen (code : List ℕ) (present : Moment) (all : List Message) (n j : ℕ) (m : Message) : Type 0 where
  pub is_there : Numbered all j m
  pub may : eligible code present m ≡ true
  pub below : j < n

-- of the first n messages this one is to be shown
abbrev pub LeadsOf : List ℕ → Moment → List Message → ℕ → Leader → Type 0
LeadsOf code present all n nobody = (j : ℕ) (m : Message) → Seen code present all n j m → ⊥
LeadsOf code present all n (leads i m) =
    Seen code present all n i m
    × ((j : ℕ) (other : Message) → Seen code present all n j other → (j ≡ i → ⊥) → comes_first (rank i m) (rank j other) ≡ true)

module _ (code : List ℕ) (present : Moment) (all : List Message) where
  up : (n j : ℕ) (m : Message) → Seen code present all n j m → Seen code present all (suc n) j m
  up n j m s = let b = s.below in record { is_there = s.is_there; may = s.may; below = omega arith }

  down : (n j : ℕ) (m : Message) → Seen code present all (suc n) j m → (j ≡ n → ⊥) → Seen code present all n j m
  down n j m s ne = let b = s.below in record { is_there = s.is_there; may = s.may; below = omega arith }

  module _ (n : ℕ) (x : Message) (here : Numbered all n x) where
    same : (j : ℕ) (m : Message) → Seen code present all (suc n) j m → j ≡ n → m ≡ x
    same j m s e = numbered_one all n m x (subst (λ (k : ℕ). Numbered all k m) e s.is_there) here

    -- one that may not be shown is passed over
    over : eligible code present x ≡ false → (l : Leader) → LeadsOf code present all n l → LeadsOf code present all (suc n) l
    over barred nobody b = λ j m s. go j m s (eqb j n) refl
      where
        go : (j : ℕ) (m : Message) → Seen code present all (suc n) j m → (t : Bool) → eqb j n ≡ t → ⊥
        go j m s true e = false≢true (sym barred ∙ ap (eligible code present) (sym (same j m s (eqb-true j n e))) ∙ s.may)
        go j m s false e = b j m (down n j m s (eqb-false j n e))
    over barred (leads i held) b = (up n i held b.0, λ j m s ne. go j m s ne (eqb j n) refl)
      where
        go : (j : ℕ) (m : Message) → Seen code present all (suc n) j m → (j ≡ i → ⊥) → (t : Bool) → eqb j n ≡ t → comes_first (rank i held) (rank j m) ≡ true
        go j m s ne true e = absurd (false≢true (sym barred ∙ ap (eligible code present) (sym (same j m s (eqb-true j n e))) ∙ s.may))
        go j m s ne false e = b.1 j m (down n j m s (eqb-false j n e)) ne

    -- one that may be shown is compared
    against : eligible code present x ≡ true → (l : Leader) → LeadsOf code present all n l → LeadsOf code present all (suc n) (passed_by l n x)
    against may nobody b =
        (record { is_there = here; may = may; below = omega arith }, λ j m s ne. absurd (b j m (down n j m s ne)))
    against may (leads i held) b = compared (comes_first (rank n x) (rank i held)) refl
      where
        later : (j : ℕ) (m : Message) → Seen code present all n j m → comes_first (rank n x) (rank i held) ≡ true → (t : Bool) → eqb j i ≡ t
            → comes_first (rank n x) (rank j m) ≡ true
        later j m s f true e =
            let z = eqb-true j i e in
            let w = numbered_one all i m held (subst (λ (k : ℕ). Numbered all k m) z s.is_there) b.0.is_there in
            ap (comes_first (rank n x)) (ap₂ rank z w) ∙ f
        later j m s f false e = order.first_through (rank n x) (rank i held) (rank j m) f (b.1 j m s (eqb-false j i e))

        stays : (j : ℕ) (m : Message) → Seen code present all (suc n) j m → (j ≡ i → ⊥) → comes_first (rank n x) (rank i held) ≡ false → (t : Bool) → eqb j n ≡ t
            → comes_first (rank i held) (rank j m) ≡ true
        stays j m s ne f true e =
            let z = eqb-true j n e in
            let below = b.0.below in
            let apart : n ≡ i → ⊥ = λ w. omega arith in
            ap (comes_first (rank i held)) (ap₂ rank z (same j m s z)) ∙ rank_either n i x held apart f
        stays j m s ne f false e = b.1 j m (down n j m s (eqb-false j n e)) ne

        compared : (t : Bool) → comes_first (rank n x) (rank i held) ≡ t → LeadsOf code present all (suc n) (cond t (leads n x) (leads i held))
        compared true f = (record { is_there = here; may = may; below = omega arith }, λ j m s ne. later j m (down n j m s ne) f (eqb j i) refl)
        compared false f = (up n i held b.0, λ j m s ne. stays j m s ne f (eqb j n) refl)

    step : (l : Leader) → LeadsOf code present all n l → LeadsOf code present all (suc n) (cond (eligible code present x) (passed_by l n x) l)
    step l b = go (eligible code present x) refl
      where
        go : (t : Bool) → eligible code present x ≡ t → LeadsOf code present all (suc n) (cond t (passed_by l n x) l)
        go true e = against e l b
        go false e = over e l b

  -- past the last message nothing changes
  past : (n : ℕ) → length all ≤ n → (l : Leader) → LeadsOf code present all n l → LeadsOf code present all (length all) l
  past n h nobody b = λ j m s. let k = s.below in b j m (record { is_there = s.is_there; may = s.may; below = omega arith })
  past n h (leads i held) b = (
    record { is_there = b.0.is_there; may = b.0.may; below = numbered_below all i held b.0.is_there },
    λ j m s ne. let k = s.below in b.1 j m (record { is_there = s.is_there; may = s.may; below = omega arith }) ne,
  )

  leads_on : (rest : List Message) (n : ℕ) (l : Leader) → drop n all ≡ rest → LeadsOf code present all n l
      → LeadsOf code present all (length all) (leader code present l n rest)
  unfolding leader
  leads_on [] n l e b = past n (numbered_end all n e) l b
  leads_on (x ∷ xs) n l e b =
      let f = numbered_next all n x xs e in
      leads_on xs (suc n) (cond (eligible code present x) (passed_by l n x) l) f.1 (step n x f.0 l b)

  pub leads_all : LeadsOf code present all (length all) (leader code present nobody 0 all)
  leads_all = leads_on all 0 nobody refl (λ j m s. let k = s.below in omega arith)

  pub seen : (j : ℕ) (m : Message) → Numbered all j m → eligible code present m ≡ true → Seen code present all (length all) j m
  seen j m p e = record { is_there = p; may = e; below = numbered_below all j m p }

  pub leads_shown : (i : ℕ) (m : Message) → LeadsOf code present all (length all) (leads i m) → Shown code present all i
  leads_shown i m b =
      record { message = m; is_there = b.0.is_there; may = b.0.may; least = λ j other p e ne. b.1 j other (seen j other p e) ne }

  pub only_one : (i j : ℕ) → Shown code present all i → Shown code present all j → i ≡ j
  only_one i j a b = go (eqb i j) refl
    where
      go : (t : Bool) → eqb i j ≡ t → i ≡ j
      go true e = eqb-true i j e
      go false e =
          let ne = eqb-false i j e in
          absurd
          (order.one_way (rank i a.message) (rank j b.message) (a.least j b.message b.is_there b.may (λ z. ne (sym z)))
          (b.least i a.message a.is_there a.may ne))
