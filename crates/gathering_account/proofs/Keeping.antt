-- A state and a store keep a list of sections: each is held with its contents, and nothing else is held. Each section more keeps this so, or contradicts.
use Prim.Native.Nat.{ℕ, ◌+◌, ◌≤◌, ◌<◌}
use mathlib.Core.Path.{◌≡◌, refl, sym, ◌∙◌, ap}
use mathlib.Core.Bool.{Bool, true, false}
use mathlib.Core.List.Memᴰ
use mathlib.Core.List.{List, [], ◌∷◌, ◌++◌, Memᴰ as In}
use mathlib.Core.Logic.{◌⊎◌, inl, inr}
use native.Mathlib.Omega.{arith}
use borrow.Author.Tests.{eqb-true, eqb-false}
use lib.Dec.{eqb}
use lib.ListN.{length, get_or}
use lib.Seq.{get_or-set_same, get_or-set_other}
use Rattle.ground_placing.specs.Placed.{placed}
use Rattle.gathering_state.specs.Lists.{greatest}
use Rattle.gathering_state.specs.State.{place, held_payload, with_section}
use Rattle.gathering_state.specs.declared.Gathering.{Gathering}
use Rattle.gathering_state.proofs.Lists.{greatest_at}
use Rattle.gathering_account.specs.Account.{Section, Agree, Present}
use Rattle.gathering_account.proofs.Taking.{held_new, held_other}

pub record Kept (g : Gathering) (store : List ℕ) (S : List Section) : Type 0 where
  -- the number of each is held,
  pub held : (s : Section) → In s S → get_or g.held s.number 0 ≡ 0 → ⊥
  -- with its contents,
  pub stored : (s : Section) → In s S → held_payload g store s.number ≡ s.contents
  -- and no other number is
  pub only : (k : ℕ) → (get_or g.held k 0 ≡ 0 → ⊥) → Present k S

-- ---- sections that agree

pub kept_agree : {g : Gathering} {store : List ℕ} {S : List Section} → Kept g store S → Agree S
unfolding Agree
kept_agree {g} {store} kept s t i j e = sym (kept.stored s i) ∙ ap (held_payload g store) e ∙ kept.stored t j

pub agree_front : (S U : List Section) → Agree (S ++ U) → Agree S
unfolding Agree
agree_front S U a s t i j = a s t (Memᴰ.append_left U i) (Memᴰ.append_left U j)

pub present_front : (k : ℕ) (S U : List Section) → Present k S → Present k (S ++ U)
unfolding Present
present_front k S U x = (x.0, Memᴰ.append_left U x.1, x.2)

pub present_last : (S : List Section) (s : Section) (k : ℕ) → s.number ≡ k → Present k (S ++ s ∷ [])
unfolding Present
present_last S s k e = (s, Memᴰ.append_right S (In.head refl), e)

-- what holds of all, and of one more
pub all_more : {A : Type 0} (P : A → Type 0) (S : List A) (s : A) → ((t : A) → In t S → P t) → P s → (t : A) → In t (S ++ s ∷ []) → P t
all_more P S s f e t i = go (Memᴰ.append_cases S i)
  where
    go : In t S ⊎ In t (s ∷ []) → P t
    go (inl j) = f t j
    go (inr j) = rw (Memᴰ.eq_of_singleton j) e

-- ---- a section more

module _ (g : Gathering) (store : List ℕ) (S : List Section) (kept : Kept g store S) (s : Section) where
  -- it is held already, with the same contents
  pub kept_again : (get_or g.held s.number 0 ≡ 0 → ⊥) → held_payload g store s.number ≡ s.contents → Kept g store (S ++ s ∷ [])
  kept_again held stored =
      record {
        held = all_more (λ (t : Section). get_or g.held t.number 0 ≡ 0 → ⊥) S s kept.held held;
        stored = all_more (λ (t : Section). held_payload g store t.number ≡ t.contents) S s kept.stored stored;
        only = λ k n. present_front k S (s ∷ []) (kept.only k n);
      }

  -- it is held already, with other contents
  pub kept_clash : (get_or g.held s.number 0 ≡ 0 → ⊥) → (held_payload g store s.number ≡ s.contents → ⊥) → Agree (S ++ s ∷ []) → ⊥
  unfolding Agree Present
  kept_clash held other agree =
      let x = kept.only s.number held in
      let e = agree x.0 s (Memᴰ.append_left (s ∷ []) x.1) (Memᴰ.append_right S (In.head refl)) x.2 in
      other (ap (held_payload g store) (sym x.2) ∙ kept.stored x.0 x.1 ∙ e)

-- it is taken
module _ (g : Gathering) (store : List ℕ) (S : List Section) (kept : Kept g store S) (k : ℕ) (p : List ℕ) (new : get_or g.held k 0 ≡ 0)
    (listed : k < length g.held) (most : greatest g.held ≤ 4085) (within : place k + 4084 ≤ length store) (short : length p ≤ 4084) where
  abbrev g' : Gathering
  g' = with_section g k (length p)

  abbrev store' : List ℕ
  store' = placed store (place k) p

  abbrev s : Section
  s = record { number = k; contents = p }

  -- the sections so far have other numbers
  other : (t : Section) → In t S → t.number ≡ k → ⊥
  other t i e = kept.held t i (ap (λ (j : ℕ). get_or g.held j 0) e ∙ new)

  held_is : get_or g'.held k 0 ≡ length p + 1
  unfolding with_section
  held_is = get_or-set_same g.held k (length p + 1) 0 listed

  held_beside : (j : ℕ) → (j ≡ k → ⊥) → get_or g'.held j 0 ≡ get_or g.held j 0
  unfolding with_section
  held_beside j ne = get_or-set_other g.held k j (length p + 1) 0 ne

  held_still : (t : Section) → In t S → get_or g'.held t.number 0 ≡ 0 → ⊥
  held_still t i e = kept.held t i (sym (held_beside t.number (other t i)) ∙ e)

  stored_still : (t : Section) → In t S → held_payload g' store' t.number ≡ t.contents
  stored_still t i =
      let m = greatest_at g.held t.number in
      held_other g store k p within short t.number (other t i) (omega arith) ∙ kept.stored t i

  only_these : (j : ℕ) → (b : Bool) → eqb j k ≡ b → (get_or g'.held j 0 ≡ 0 → ⊥) → Present j (S ++ s ∷ [])
  only_these j true e n = present_last S s j (sym (eqb-true j k e))
  only_these j false e n = present_front j S (s ∷ []) (kept.only j (λ z. n (held_beside j (eqb-false j k e) ∙ z)))

  pub kept_more : Kept g' store' (S ++ s ∷ [])
  kept_more =
      record {
        held = all_more (λ (t : Section). get_or g'.held t.number 0 ≡ 0 → ⊥) S s held_still (λ e. let l = held_is in omega arith);
        stored = all_more (λ (t : Section). held_payload g' store' t.number ≡ t.contents) S s stored_still (held_new g store k p within short listed);
        only = λ j n. only_these j (eqb j k) refl n;
      }

-- nothing is kept where nothing is held
pub kept_none : (g : Gathering) (store : List ℕ) → ((k : ℕ) → get_or g.held k 0 ≡ 0) → Kept g store []
kept_none g store none =
    record {
      held = λ s i. absurd (Memᴰ.not-nil i);
      stored = λ s i. absurd (Memᴰ.not-nil i);
      only = λ k n. absurd (n (none k));
    }
