-- The things of a list, asked for one by one, are the list's; the part that opaque bytes fill holds them.
use Prim.Native.Nat.{ℕ, zero, suc, ◌-◌, ◌≤◌, ◌<◌}
use mathlib.Core.Path.{◌≡◌, refl, sym, ap, ap₂, ◌∙◌}
use mathlib.Core.List.{List}
use native.Mathlib.Omega.{arith}
use lib.ListN.{length, get_or}
use lib.Dec.{leb}
use borrow.Author.Tests.{lt-ltb, le-ltb, leb-true}
use Rattle.ground_refusal.specs.declared.Refusal.{Refusal}
use Rattle.ground_refusal.specs.declared.Refusal.TheVariants.{OutsideSet}
use Rattle.body_formats.specs.Reading.{Reading, found, refused, and_then}
use Rattle.body_formats.specs.Format.{Format, repeat, list_of, followed, ◌▷◌, view, exact, opaque}
use Rattle.body_formats.specs.Answers.{part_of, after, thing_listed}
use Rattle.body_formats.specs.Held.{Fills}
use Rattle.body_formats.proofs.Outcomes.{found_inj, and_then_found, need_found}
use Rattle.body_formats.proofs.Readers.{opaque_found}

-- ---- a reading taken apart

pub repeat_length : {A : Type 0} (f : ℕ → Reading A) (n p : ℕ) (xs : List A) (q : ℕ) → repeat f n p ≡ found xs q → length xs ≡ n
unfolding repeat
repeat_length f zero p xs q e = ap length (sym (found_inj e).0)
repeat_length f (suc n) p xs q e =
    let i = and_then_found (f p) _ xs q e in
    let j = and_then_found (repeat f n i.1) _ xs q i.3 in
    ap length (sym (found_inj j.3).0) ∙ ap suc (repeat_length f n i.1 j.0 j.1 j.2)

pub exact_found : {A : Type 0} (left_over : ℕ → Refusal) (F : Format A) (s : List ℕ) (l p : ℕ) (a : A) (q : ℕ) → (exact left_over F).parse s l p ≡ found a q
    → (F.parse s l p ≡ found a q) × (l ≤ q)
unfolding exact
exact_found left_over F s l p a q e =
    let i = and_then_found (F.parse s l p) _ a q e in
    let j = need_found (leb l i.1) (left_over i.1) _ a q i.3 in
    let g = found_inj j.1 in
    (i.2 ∙ ap₂ found g.0 g.1, omega (arith, leb-true l i.1 j.0, g.1))

pub view_found : {A B : Type 0} (f : A → B) (g : B → A) (F : Format A) (s : List ℕ) (l p : ℕ) (b : B) (q : ℕ) → (view f g F).parse s l p ≡ found b q
    → (a : A) × (F.parse s l p ≡ found a q) × (f a ≡ b)
unfolding view
view_found f g F s l p b q e =
    let i = and_then_found (F.parse s l p) _ b q e in
    let j = found_inj i.3 in
    (i.0, i.2 ∙ ap (found i.0) j.1, j.0)

pub followed_found : {A B : Type 0} (F : Format A) (G : Format B) (s : List ℕ) (l p : ℕ) (x : A × B) (q : ℕ) → (F ▷ G).parse s l p ≡ found x q
    → (r : ℕ) × (F.parse s l p ≡ found x.0 r) × (G.parse s l r ≡ found x.1 q)
unfolding followed
followed_found F G s l p x q e =
    let i = and_then_found (F.parse s l p) _ x q e in
    let j = and_then_found (G.parse s l i.1) _ x q i.3 in
    let g = found_inj j.3 in
    (i.1, i.2 ∙ ap (λ a. found a i.1) (ap (λ y. y.0) g.0), j.2 ∙ ap₂ found (ap (λ y. y.1) g.0) g.1)

pub list_found : {A : Type 0} (C : Format ℕ) (F : Format A) (s : List ℕ) (l p : ℕ) (xs : List A) (q : ℕ) → (list_of C F).parse s l p ≡ found xs q
    → (r : ℕ) × (C.parse s l p ≡ found (length xs) r) × (repeat (F.parse s l) (length xs) r ≡ found xs q)
unfolding list_of
list_found C F s l p xs q e =
    let i = and_then_found (C.parse s l p) _ xs q e in
    let n = repeat_length (F.parse s l) i.0 i.1 xs q i.3 in
    (i.1, i.2 ∙ ap (λ m. found m i.1) (sym n), ap (λ m. repeat (F.parse s l) m i.1) n ∙ i.3)

-- ---- the thing after i others is the list's i-th

pub after_is : {A : Type 0} (F : Format A) (d : A) (n i : ℕ) (s : List ℕ) (l p : ℕ) (xs : List A) (q : ℕ) → repeat (F.parse s l) n p ≡ found xs q → i < n
    → (t r : ℕ) × (after F i s l p ≡ found (get_or xs i d) r) × (F.parse s l t ≡ found (get_or xs i d) r)
unfolding repeat after
after_is F d zero i s l p xs q e h = absurd (omega arith)
after_is F d (suc n) zero s l p xs q e h =
    let a = and_then_found (F.parse s l p) _ xs q e in
    let b = and_then_found (repeat (F.parse s l) n a.1) _ xs q a.3 in
    let here = a.2 ∙ ap (λ x. found x a.1) (ap (λ ys. get_or ys 0 d) (found_inj b.3).0) in
    (p, a.1, here, here)
after_is F d (suc n) (suc i) s l p xs q e h =
    let a = and_then_found (F.parse s l p) _ xs q e in
    let b = and_then_found (repeat (F.parse s l) n a.1) _ xs q a.3 in
    let t = after_is F d n i s l a.1 b.0 b.1 b.2 (omega arith) in
    let same = ap (λ x. found x t.1) (ap (λ ys. get_or ys (suc i) d) (found_inj b.3).0) in
    (t.0, t.1, ap (λ x. and_then x (λ y r. after F i s l r)) a.2 ∙ t.2 ∙ same, t.3 ∙ same)

module _ {A : Type 0} (C : Format ℕ) (F : Format A) (s : List ℕ) (l p : ℕ) (xs : List A) (q : ℕ) (e : (list_of C F).parse s l p ≡ found xs q) where
  pub listed_is : (d : A) (i : ℕ) → i < length xs → (t r : ℕ) × (thing_listed C F i s l p ≡ found (get_or xs i d) r) × (F.parse s l t ≡ found (get_or xs i d) r)
  unfolding thing_listed
  listed_is d i h =
      let f = list_found C F s l p xs q e in
      let a = after_is F d (length xs) i s l f.0 xs q f.2 h in
      (a.0, a.1, rw (f.1, lt-ltb i (length xs) h) a.2, a.3)

  pub listed_past : (i : ℕ) → length xs ≤ i → thing_listed C F i s l p ≡ refused (OutsideSet 0)
  unfolding thing_listed
  listed_past i h =
      let f = list_found C F s l p xs q e in
      rw (f.1, le-ltb i (length xs) h)

-- ---- opaque bytes

pub opaque_fills : (s : List ℕ) (l p w : ℕ) (xs : List ℕ) (q : ℕ) → (opaque w).parse s l p ≡ found xs q → Fills s (part_of (found xs q)) xs
opaque_fills s l p w xs q e =
    let f = opaque_found s l p w xs q e in
    (q - length xs, length xs, refl, omega (arith, f.0, f.1), f.3)
