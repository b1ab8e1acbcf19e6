-- Laws of things one after the other, as loops pass them: so many, or to the end of their part.
use Prim.Native.Nat.{ℕ, zero, suc, ◌+◌, ◌-◌, ◌≤◌, ◌<◌}
use mathlib.Core.Path.{◌≡◌, refl, ◌∙◌}
use mathlib.Core.List.{List, [], ◌∷◌}
use mathlib.Core.Bool.{Bool, true, false}
use native.Mathlib.Omega.{arith}
use native.Mathlib.Nat.{le_refl}
use lib.ListN.{length}
use lib.Dec.{leb}
use borrow.Author.Tests.{le-leb, lt-leb}
use Rattle.std.specs.Prelude.{if◌then◌else◌}
use Rattle.body_formats.specs.Reading.{found, and_then}
use Rattle.body_formats.specs.Format.{Format, repeat, times, list_of, parse_many, many}
use Rattle.body_formats.proofs.Outcomes.{and_then_found, need_found}
use Rattle.body_glance.specs.Glance.{Reads, Fills}

-- ---- so many

pub reads_none : {A : Type 0} (F : Format A) (s : List ℕ) (p : ℕ) → Reads (times 0 F) s p [] p
unfolding times repeat
reads_none F s p = record { forward = le_refl _; here = λ l h k. refl }

pub reads_more : {A : Type 0} {F : Format A} {s : List ℕ} {p : ℕ} {a : A} {q : ℕ} (n : ℕ) {xs : List A} {t : ℕ} → Reads F s p a q → Reads (times n F) s q xs t
    → Reads (times (suc n) F) s p (a ∷ xs) t
unfolding times repeat
reads_more n r g =
    record { forward = omega (arith, r.forward, g.forward); here = λ l h k. rw (r.here l (omega (arith, g.forward)) k, g.here l h k) }

-- after their count
pub reads_list : {A : Type 0} {C : Format ℕ} (F : Format A) {s : List ℕ} {p n q : ℕ} {xs : List A} {t : ℕ} → Reads C s p n q → Reads (times n F) s q xs t
    → Reads (list_of C F) s p xs t
unfolding list_of times
reads_list F r g =
    record { forward = omega (arith, r.forward, g.forward); here = λ l h k. rw (r.here l (omega (arith, g.forward)) k) (g.here l h k) }

-- A loop under way: of n things from p on, `left` are still to come, from `at` on. Whatever these are, they make the whole.
abbrev pub Coming : {A : Type 0} → Format A → List ℕ → ℕ → ℕ → ℕ → ℕ → Type 0
Coming {A} F s n p left at = (xs : List A) (q : ℕ) → Reads (times left F) s at xs q → (ys : List A) × Reads (times n F) s p ys q

pub coming_start : {A : Type 0} (F : Format A) (n : ℕ) {s : List ℕ} {p : ℕ} → Coming F s n p (n - 0) p
coming_start F n xs q r = let z : n - 0 ≡ n = omega arith in (xs, rw z at r)

module _ {A : Type 0} (F : Format A) {s : List ℕ} (n : ℕ) {p : ℕ} (i at : ℕ) (c : Coming F s n p (n - i) at) where
  pub coming_turn : {q : ℕ} → i < n → (a : A) × Reads F s at a q → Coming F s n p (n - (i + 1)) q
  coming_turn h g xs t r =
      let e : suc (n - (i + 1)) ≡ n - i = omega arith in
      c (g.0 ∷ xs) t (rw e at (reads_more (n - (i + 1)) g.1 r))

  pub coming_done : n ≤ i → (ys : List A) × Reads (times n F) s p ys at
  coming_done h = let e : n - i ≡ 0 = omega arith in c [] at (rw e (reads_none F s at))

-- ---- to the end of their part

pub fills_none : {A : Type 0} (F : Format A) (s : List ℕ) (l : ℕ) → Fills (many F) s l l []
unfolding many parse_many
fills_none F s l = record { whole = go (l - l) }
  where
    go : (k : ℕ) → parse_many F k s l l ≡ found [] l
    go zero = rw (le-leb l l (le_refl l))
    go (suc k) = rw (le-leb l l (le_refl l))

-- more turns than were needed find the same
further : {A : Type 0} (F : Format A) (s : List ℕ) (l : ℕ) (k j p : ℕ) (xs : List A) (q : ℕ) → k ≤ j → parse_many F k s l p ≡ found xs q
    → parse_many F j s l p ≡ found xs q
unfolding parse_many
further F s l zero zero p xs q h e = e
further F s l zero (suc j) p xs q h e =
    let n = need_found (leb l p) _ _ xs q e in
    rw n.0 n.1
further {A} F s l (suc k) (suc j) p xs q h e = go (λ r ys t g. further F s l k j r ys t (omega arith) g) (leb l p) e
  where
    go : ((r : ℕ) (ys : List A) (t : ℕ) → parse_many F k s l r ≡ found ys t → parse_many F j s l r ≡ found ys t) → (t : Bool)
        → (if t then found [] p else and_then (F.parse s l p) (λ a q. and_then (parse_many F k s l q) (λ xs r. found (a ∷ xs) r))) ≡ found xs q
        → (if t then found [] p else and_then (F.parse s l p) (λ a q. and_then (parse_many F j s l q) (λ xs r. found (a ∷ xs) r))) ≡ found xs q
    go again true f = f
    go again false f =
        let i = and_then_found (F.parse s l p) _ xs q f in
        let g = and_then_found (parse_many F k s l i.1) _ xs q i.3 in
        rw (i.2, again i.1 g.0 g.1 g.2) g.3
further F s l (suc k) zero p xs q h e = absurd (omega arith)

pub fills_more : {A : Type 0} (F : Format A) {s : List ℕ} {l p : ℕ} {a : A} {q : ℕ} {xs : List A} → p < q → q ≤ l → l ≤ length s → Reads F s p a q
    → Fills (many F) s l q xs → Fills (many F) s l p (a ∷ xs)
unfolding many parse_many
fills_more F {s} {l} {p} {a} {q} {xs} h k m r g =
    let e : l - p ≡ suc (l - (p + 1)) = omega arith in
    record { whole = rw (e, lt-leb l p (omega arith), r.here l k m, further F s l (l - q) (l - (p + 1)) q xs l (omega arith) g.whole) }

-- A loop under way, from p to `at`: whatever fills the rest of the part, with it the whole part is filled.
abbrev pub Filling : {A : Type 0} → Format A → List ℕ → ℕ → ℕ → ℕ → Type 0
Filling {A} F s l p at = (xs : List A) → Fills (many F) s l at xs → (ys : List A) × Fills (many F) s l p ys

module _ {A : Type 0} (F : Format A) {s : List ℕ} {l p : ℕ} (at : ℕ) (f : Filling F s l p at) where
  pub filling_turn : {q : ℕ} → at < q → q ≤ l → l ≤ length s → (a : A) × Reads F s at a q → Filling F s l p q
  filling_turn h k m g xs e = f (g.0 ∷ xs) (fills_more F h k m g.1 e)

  pub filling_done : at ≡ l → (ys : List A) × Fills (many F) s l p ys
  filling_done e = f [] (rw e (fills_none F s l))
