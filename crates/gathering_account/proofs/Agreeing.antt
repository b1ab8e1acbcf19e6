-- The tests of an account's sections are what the account says: `present` is `Present`, and `agreeing` is `Agree`.
use Prim.Native.Nat.{ℕ}
use mathlib.Core.Path.{◌≡◌, refl, sym, ◌∙◌, ap}
use mathlib.Core.Bool.{Bool, true, false, not, ◌&&◌, ◌||◌, or-true, false≢true}
use mathlib.Core.List.Memᴰ
use mathlib.Core.List.{List, [], ◌∷◌, Memᴰ as In}
use mathlib.Core.Logic.{◌⊎◌, inl, inr}
use borrow.Author.Tests.{eq-eqb, eqb-true}
use lib.Dec.{eqb}
use Rattle.ground_choices.proofs.Tests.{both, met, unmet}
use Rattle.ground_equal.specs.Same.{same_bytes}
use Rattle.ground_equal.proofs.Same.{same_refl, same_is}
use Rattle.gathering_account.specs.Account.{Section, Agree, Present}
use Rattle.gathering_account.specs.Answering.{present, contradicts, differs, agreeing}

-- ---- present

pub present_is : (k : ℕ) (S : List Section) → present k S ≡ true → Present k S
unfolding present Present
present_is k [] e = absurd (false≢true e)
present_is k (s ∷ S) e = go (eqb s.number k) refl e (λ f. present_is k S f)
  where
    go : (b : Bool) → eqb s.number k ≡ b → b || present k S ≡ true → (present k S ≡ true → Present k S) → Present k (s ∷ S)
    go true f e next = (s, In.head refl, eqb-true _ _ f)
    go false f e next = let x = next e in (x.0, In.tail x.1, x.2)

pub is_present : (k : ℕ) (S : List Section) → Present k S → present k S ≡ true
unfolding present Present
is_present k [] x = absurd (Memᴰ.not-nil x.1)
is_present k (s ∷ S) x = go (Memᴰ.cases_cons x.1) (λ i. is_present k S (x.0, i, x.2))
  where
    go : (x.0 ≡ s) ⊎ In x.0 S → (In x.0 S → present k S ≡ true) → present k (s ∷ S) ≡ true
    go (inl e) next = rw (eq-eqb s.number k (ap (λ (t : Section). t.number) (sym e) ∙ x.2))
    go (inr i) next = rw (next i) (or-true (eqb s.number k))

-- ---- contradicts

-- the two have other numbers, or the same contents
abbrev pub Alike : Section → Section → Type 0
Alike s t = s.number ≡ t.number → s.contents ≡ t.contents

module _ (s t : Section) where
  contradicts_not : contradicts s t ≡ false → Alike s t
  unfolding contradicts
  contradicts_not e n = same_is _ _ (met (same_bytes s.contents t.contents) refl (rw (eq-eqb _ _ n) at e))

  alike_contradicts : Alike s t → contradicts s t ≡ false
  unfolding contradicts
  alike_contradicts f = go (eqb s.number t.number) refl
    where
      go : (b : Bool) → eqb s.number t.number ≡ b → b && not (same_bytes s.contents t.contents) ≡ false
      go true e = rw (f (eqb-true _ _ e), same_refl t.contents)
      go false e = refl

-- ---- differs

neither : (a b : Bool) → a || b ≡ false → (a ≡ false) × (b ≡ false)
neither true b e = (e, cc)
neither false b e = (refl, e)

-- what holds of one, and of others
all_cons : (P : Section → Type 0) (s : Section) (S : List Section) → P s → ((t : Section) → In t S → P t) → (t : Section) → In t (s ∷ S) → P t
all_cons P s S p f t i = go (Memᴰ.cases_cons i)
  where
    go : (t ≡ s) ⊎ In t S → P t
    go (inl e) = rw e p
    go (inr j) = f t j

pub differs_not : (s : Section) (S : List Section) → differs s S ≡ false → (t : Section) → In t S → Alike s t
unfolding differs
differs_not s [] e = λ t i. absurd (Memᴰ.not-nil i)
differs_not s (u ∷ S) e =
    let n = neither (contradicts s u) (differs s S) e in
    all_cons (Alike s) u S (contradicts_not s u n.0) (differs_not s S n.1)

pub alike_differs : (s : Section) (S : List Section) → ((t : Section) → In t S → Alike s t) → differs s S ≡ false
unfolding differs
alike_differs s [] f = refl
alike_differs s (t ∷ S) f = rw (alike_contradicts s t (f t (In.head refl))) (alike_differs s S (λ u i. f u (In.tail i)))

-- ---- agreeing

pub agreeing_is : (S : List Section) → agreeing S ≡ true → Agree S
unfolding agreeing Agree
agreeing_is [] e = λ s t i. absurd (Memᴰ.not-nil i)
agreeing_is (x ∷ S) e =
    let b = both (not (differs x S)) (agreeing S) e in
    let f = differs_not x S (unmet (differs x S) refl b.0) in
    let a = agreeing_is S b.1 in
    λ s t i j.
    all_cons (λ (u : Section). (v : Section) → In v (x ∷ S) → Alike u v) x S
    (all_cons (Alike x) x S (λ n. refl) f)
    (λ u k. all_cons (Alike u) x S (λ n. sym (f u k (sym n))) (λ v l. a u v k l))
    s i t j

pub agree_agreeing : (S : List Section) → Agree S → agreeing S ≡ true
unfolding agreeing Agree
agree_agreeing [] a = refl
agree_agreeing (s ∷ S) a =
    rw (alike_differs s S (λ t i. a s t (In.head refl) (In.tail i)))
    (agree_agreeing S (λ t u i j. a t u (In.tail i) (In.tail j)))
