-- Laws of readings: what a value found says of the steps that led to it.
use Prim.Native.Nat.{ℕ, ◌≤◌}
use mathlib.Core.Path.{◌≡◌, refl}
use mathlib.Core.List.{List}
use mathlib.Core.Bool.{Bool, true, false, ◌||◌, false≢true}
use native.Mathlib.Omega.{arith}
use lib.ListN.{length}
use lib.Dec.{leb}
use borrow.Author.Tests.{leb-true, le-leb}
use Rattle.ground_refusal.specs.declared.Refusal.{Refusal}
use Rattle.ground_refusal.specs.declared.Refusal.TheVariants.{PastBody, PastPart}
use Rattle.std.specs.Prelude.{if◌then◌else◌}
use Rattle.body_formats.specs.Reading.{Reading, found, refused, and_then, need, Fault, fine, faulty, is_fine, judged, within}

pub found_inj : {A : Type 0} {a b : A} {p q : ℕ} → found a p ≡ found b q → (a ≡ b) × (p ≡ q)
found_inj h = (cc, cc)

pub not_found : {A : Type 0} {a : A} {q : ℕ} {r : Refusal} → refused r ≡ found a q → ⊥
not_found h = let z : ◌≡◌ {A = ℕ} 0 1 = cc in omega arith

pub and_then_found : {A B : Type 0} (x : Reading A) (k : A → ℕ → Reading B) (b : B) (r : ℕ) → and_then x k ≡ found b r
    → (a : A) × (q : ℕ) × (x ≡ found a q) × (k a q ≡ found b r)
and_then_found (found a q) k b r h = (a, q, refl, h)
and_then_found (refused f) k b r h = absurd (not_found h)

pub need_found : {A : Type 0} (t : Bool) (r : Refusal) (x : Reading A) (a : A) (q : ℕ) → need t r x ≡ found a q
    → (t ≡ true) × (x ≡ found a q)
need_found true r x a q h = (refl, h)
need_found false r x a q h = absurd (not_found h)

pub judged_found : {A : Type 0} (f : Fault) (x : Reading A) (a : A) (q : ℕ) → judged f x ≡ found a q → (f ≡ fine) × (x ≡ found a q)
judged_found fine x a q h = (refl, h)
judged_found (faulty r) x a q h = absurd (not_found h)

pub within_found : {A : Type 0} (s : List ℕ) (l at end : ℕ) (x : Reading A) (a : A) (q : ℕ) → within s l at end x ≡ found a q
    → (end ≤ length s) × (end ≤ l) × (x ≡ found a q)
within_found s l at end x a q h =
    let f = need_found (leb end (length s)) (PastBody at) _ a q h in
    let g = need_found (leb end l) (PastPart at) x a q f.1 in
    (leb-true _ _ f.0, leb-true _ _ g.0, g.1)

pub within_there : {A : Type 0} (s : List ℕ) (l at end : ℕ) (x : Reading A) → end ≤ l → l ≤ length s → within s l at end x ≡ x
within_there s l at end x h k = rw (le-leb end (length s) (omega arith), le-leb end l h)

-- ---- faults

pub fine_of : (f : Fault) → is_fine f ≡ true → f ≡ fine
fine_of fine h = refl
fine_of (faulty r) h = absurd (false≢true h)

-- ---- tests

pub neither : (a b : Bool) → (a || b) ≡ false → (a ≡ false) × (b ≡ false)
neither true b h = (cc, cc)
neither false b h = (refl, h)

pub chosen : {A : Type 0} (t : Bool) (x y : Reading A) (a : A) (q : ℕ) → (if t then x else y) ≡ found a q
    → ((P : Type 0) → (t ≡ true → x ≡ found a q → P) → (t ≡ false → y ≡ found a q → P) → P)
chosen true x y a q h P f g = f refl h
chosen false x y a q h P f g = g refl h
