-- Laws of the order: how rows are compared from their first number on, and that of rows of one length one comes first, and only one.
use Prim.Native.Nat.{ℕ, suc, ◌<◌}
use Rattle.std.specs.Prelude.{Option, Some, None}
use Rattle.std.proofs.Common.{Ordering, Less, Equal, Greater}
use Rattle.std.specs.Ordering.{is_lt, is_some_and, nat_cmp, partial_ordering_then}
use mathlib.Core.Path.{◌≡◌, refl, sym, ap, ◌∙◌}
use mathlib.Core.Bool.{Bool, true, false, cond, false≢true}
use mathlib.Core.List.{List, [], ◌∷◌}
use native.Mathlib.Omega.{arith}
use borrow.Author.Tests.{eq-eqb, ne_eqb, eqb-true, eqb-false, ltb-true, ltb-false, lt-ltb, le-ltb}
use lib.Dec.{ltb, eqb}
use lib.ListN.{length}
use Rattle.screen_order.specs.declared.Candidate.{Candidate}
use Rattle.screen_order.specs.Order.{comes_first, rank_by, rank_of, better_of}

-- ---- from the first number on

pub differs : (x y : ℕ) (xs ys : List ℕ) → (x ≡ y → ⊥) → ltb x y ≡ comes_first (x ∷ xs) (y ∷ ys)
unfolding comes_first
differs x y xs ys h = rw (ne_eqb x y h)

pub agrees : (x y : ℕ) (xs ys : List ℕ) → x ≡ y → comes_first xs ys ≡ comes_first (x ∷ xs) (y ∷ ys)
unfolding comes_first
agrees x y xs ys e = rw (eq-eqb x y e)

pub last : (x y : ℕ) → ltb x y ≡ comes_first (x ∷ []) (y ∷ [])
unfolding comes_first
last x y = go (eqb x y) refl
  where
    go : (t : Bool) → eqb x y ≡ t → ltb x y ≡ cond t false (ltb x y)
    go true e = let z : x ≡ y = eqb-true x y e in le-ltb x y (omega arith)
    go false e = refl

-- ---- a strict order

-- what it says that a row comes first
data First : List ℕ → List ℕ → Type 0 where
  smaller : {x y : ℕ} {xs ys : List ℕ} → x < y → First (x ∷ xs) (y ∷ ys)
  later : {x y : ℕ} {xs ys : List ℕ} → x ≡ y → First xs ys → First (x ∷ xs) (y ∷ ys)

says : (xs ys : List ℕ) → comes_first xs ys ≡ true → First xs ys
unfolding comes_first
says [] ys e = absurd (false≢true e)
says (x ∷ xs) [] e = absurd (false≢true e)
says (x ∷ xs) (y ∷ ys) e = go (says xs ys) (eqb x y) refl e
  where
    go : (comes_first xs ys ≡ true → First xs ys) → (t : Bool) → eqb x y ≡ t → cond t (comes_first xs ys) (ltb x y) ≡ true → First (x ∷ xs) (y ∷ ys)
    go f true p e = later (eqb-true x y p) (f e)
    go f false p e = smaller (ltb-true x y e)

said : {xs ys : List ℕ} → First xs ys → comes_first xs ys ≡ true
said (smaller {x} {y} {xs} {ys} h) = sym (differs x y xs ys (λ e. omega arith)) ∙ lt-ltb x y h
said (later {x} {y} {xs} {ys} e f) = sym (agrees x y xs ys e) ∙ said f

through : {xs ys zs : List ℕ} → First xs ys → First ys zs → First xs zs
through (smaller {x} {y} g) (smaller {y = z} h) = let s : x < z = omega arith in smaller s
through (smaller {x} {y} g) (later {y = z} e h) = let s : x < z = omega arith in smaller s
through (later {x} {y} e g) (smaller {y = z} h) = let s : x < z = omega arith in smaller s
through (later e g) (later f h) = later (e ∙ f) (through g h)

pub first_through : (xs ys zs : List ℕ) → comes_first xs ys ≡ true → comes_first ys zs ≡ true → comes_first xs zs ≡ true
first_through xs ys zs g h = said (through (says xs ys g) (says ys zs h))

never_itself : {xs : List ℕ} → First xs xs → ⊥
never_itself (smaller h) = omega arith
never_itself (later e f) = never_itself f

pub one_way : (xs ys : List ℕ) → comes_first xs ys ≡ true → comes_first ys xs ≡ true → ⊥
one_way xs ys g h = never_itself (through (says xs ys g) (says ys xs h))

-- of two rows of one length that are not the same, one comes first
pub either_way : (xs ys : List ℕ) → length xs ≡ length ys → (xs ≡ ys → ⊥) → comes_first xs ys ≡ false → comes_first ys xs ≡ true
unfolding comes_first
either_way [] [] l n e = absurd (n refl)
either_way [] (y ∷ ys) l n e = absurd (omega arith)
either_way (x ∷ xs) [] l n e = absurd (omega arith)
either_way (x ∷ xs) (y ∷ ys) l n e = go (either_way xs ys) (eqb x y) refl e
  where
    go : (length xs ≡ length ys → (xs ≡ ys → ⊥) → comes_first xs ys ≡ false → comes_first ys xs ≡ true)
        → (t : Bool) → eqb x y ≡ t → cond t (comes_first xs ys) (ltb x y) ≡ false → comes_first (y ∷ ys) (x ∷ xs) ≡ true
    go f true p e =
        let z = eqb-true x y p in
        sym (agrees y x ys xs (sym z)) ∙ f (omega arith) (λ w. n (ap (λ l. x ∷ l) w ∙ ap (λ (k : ℕ). k ∷ ys) z)) e
    go f false p e =
        let z = eqb-false x y p in
        let w = ltb-false x y e in
        let u : x ≡ y → ⊥ = z in
        sym (differs y x ys xs (λ v. z (sym v))) ∙ lt-ltb y x (less x y w z)
      where
        less : (x y : ℕ) → Prim.Native.Nat.◌≤◌ y x → (x ≡ y → ⊥) → y < x
        less x y w z = omega arith

-- ---- two candidates, as std compares numbers in a row

then_later : (o p q : Option Ordering) → partial_ordering_then (partial_ordering_then o p) q ≡ partial_ordering_then o (partial_ordering_then p q)
then_later None p q = refl
then_later (Some Less) p q = refl
then_later (Some Equal) p q = refl
then_later (Some Greater) p q = refl

abbrev before : Option Ordering → Bool
before o = is_some_and is_lt o

-- one number before others
one_more : (x y : ℕ) (xs ys : List ℕ) (o : Option Ordering) → before o ≡ comes_first xs ys
    → before (partial_ordering_then (Some (nat_cmp x y)) o) ≡ comes_first (x ∷ xs) (y ∷ ys)
unfolding comes_first
one_more x y xs ys o h = go (ltb x y) refl (eqb x y) refl
  where
    go : (l : Bool) → ltb x y ≡ l → (e : Bool) → eqb x y ≡ e
        → before (partial_ordering_then (Some (cond l Less (cond e Equal Greater))) o) ≡ cond e (comes_first xs ys) l
    go true p true q = let g = ltb-true x y p in let e = eqb-true x y q in absurd (omega arith)
    go true p false q = refl
    go false p true q = h
    go false p false q = refl

-- the last number
one_only : (x y : ℕ) → before (Some (nat_cmp x y)) ≡ comes_first (x ∷ []) (y ∷ [])
one_only x y = go (ltb x y) refl (eqb x y) ∙ last x y
  where
    go : (l : Bool) → ltb x y ≡ l → (e : Bool) → is_lt (cond l Less (cond e Equal Greater)) ≡ ltb x y
    go true p e = sym p
    go false p true = sym p
    go false p false = sym p

pub by_rank : (l l' d d' s s' n n' : ℕ)
    → before (partial_ordering_then (partial_ordering_then (partial_ordering_then (Some (nat_cmp l l')) (Some (nat_cmp d d'))) (Some (nat_cmp s s'))) (Some (nat_cmp n n')))
    ≡ comes_first (rank_by l d s n) (rank_by l' d' s' n')
unfolding rank_by
by_rank l l' d d' s s' n n' =
    ap before
    (then_later (partial_ordering_then (Some (nat_cmp l l')) (Some (nat_cmp d d'))) (Some (nat_cmp s s')) (Some (nat_cmp n n'))
    ∙ then_later (Some (nat_cmp l l')) (Some (nat_cmp d d')) (partial_ordering_then (Some (nat_cmp s s')) (Some (nat_cmp n n'))))
    ∙ one_more l l' _ _ _ (one_more d d' _ _ _ (one_more s s' _ _ _ (one_only n n')))

-- ---- the better one

pub better_first : (best : Option Candidate) (next : Candidate) → best ≡ None → Some next ≡ better_of best next
unfolding better_of
better_first best next e = rw e

module _ (best : Option Candidate) (held next : Candidate) (e : best ≡ Some held) where
  pub better_next : comes_first (rank_of next) (rank_of held) ≡ true → Some next ≡ better_of best next
  unfolding better_of
  better_next f = rw (e, f)

  pub better_held : comes_first (rank_of next) (rank_of held) ≡ false → Some held ≡ better_of best next
  unfolding better_of
  better_held f = rw (e, f)
