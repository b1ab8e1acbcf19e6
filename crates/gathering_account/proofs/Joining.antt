-- The payloads that a store joins are the sections' contents in number order.
use Prim.Native.Nat.{ℕ, suc, ◌+◌, ◌-◌, ◌<◌}
use mathlib.Core.Path.{◌≡◌, refl, sym, ◌∙◌, ap}
use mathlib.Core.Bool.{Bool, true, false}
use mathlib.Core.List.Memᴰ
use mathlib.Core.List.{List, [], ◌∷◌, ◌++◌, append-nil, append_assoc, Memᴰ as In}
use mathlib.Core.Logic.{◌⊎◌, inl, inr}
use native.Mathlib.Nat.{add-zero, zero-add}
use native.Mathlib.Omega.{arith}
use borrow.Author.Tests.{eq-eqb, ne_eqb, eqb-true, eqb-false}
use lib.Dec.{eqb}
use lib.ListN.{length, get_or}
use Rattle.gathering_state.specs.Lists.{part}
use Rattle.gathering_hand_out.specs.Handing.{joined}
use Rattle.gathering_account.specs.Account.{Section, Present, contents_of, in_order}

-- ---- the contents of a number

module _ (k : ℕ) (s : Section) (S : List Section) where
  contents_first : s.number ≡ k → contents_of k (s ∷ S) ≡ s.contents
  unfolding contents_of
  contents_first e = rw (eq-eqb s.number k e)

  contents_later : (s.number ≡ k → ⊥) → contents_of k (s ∷ S) ≡ contents_of k S
  unfolding contents_of
  contents_later e = rw (ne_eqb s.number k e)

-- a number that is present, whose sections all have the contents p
pub contents_are : (k : ℕ) (p : List ℕ) (S : List Section) → ((s : Section) → In s S → s.number ≡ k → s.contents ≡ p) → Present k S → contents_of k S ≡ p
unfolding Present
contents_are k p [] f x = absurd (Memᴰ.not-nil x.1)
contents_are k p (s ∷ S) f x = go (eqb s.number k) refl (Memᴰ.cases_cons x.1) (λ y. contents_are k p S (λ t i. f t (In.tail i)) y)
  where
    go : (b : Bool) → eqb s.number k ≡ b → (x.0 ≡ s) ⊎ In x.0 S → (Present k S → contents_of k S ≡ p) → contents_of k (s ∷ S) ≡ p
    go true e i next = let q = eqb-true s.number k e in contents_first k s S q ∙ f s (In.head refl) q
    go false e (inl i) next = absurd (eqb-false s.number k e (ap (λ (t : Section). t.number) (sym i) ∙ x.2))
    go false e (inr i) next = contents_later k s S (eqb-false s.number k e) ∙ next (x.0, i, x.2)

-- ---- joined

module _ (at : ℕ → ℕ) (store : List ℕ) where
  -- from number k on, after the contents of those below it
  joined_after : (S : List Section) (k : ℕ) (ns : List ℕ) → ((i : ℕ) → i < length ns → part store (at (k + i)) (get_or ns i 0 - 1) ≡ contents_of (k + i) S)
      → in_order k S ++ joined at k ns store ≡ in_order (k + length ns) S
  unfolding joined in_order
  joined_after S k [] f = append-nil (in_order k S) ∙ rw (add-zero k)
  joined_after S k (n ∷ ns) f =
      let a : part store (at k) (n - 1) ≡ contents_of k S = rw (add-zero k) at (f 0 (omega arith)) in
      let b = joined_after S (suc k) ns (λ i l. let e : k + suc i ≡ suc k + i = omega arith in rw e at (f (suc i) (omega arith))) in
      let c : suc k + length ns ≡ k + suc (length ns) = omega arith in
      rw a (sym (append_assoc (in_order k S) (contents_of k S) (joined at (suc k) ns store))) ∙ b ∙ ap (λ (m : ℕ). in_order m S) c

  pub joined_order : (S : List Section) (ns : List ℕ) → ((i : ℕ) → i < length ns → part store (at i) (get_or ns i 0 - 1) ≡ contents_of i S)
      → joined at 0 ns store ≡ in_order (length ns) S
  unfolding in_order
  joined_order S ns f = joined_after S 0 ns (λ i l. rw (zero-add i) (f i l)) ∙ rw (zero-add (length ns))
