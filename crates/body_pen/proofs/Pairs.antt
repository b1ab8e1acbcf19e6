-- Laws of a pen through fields one after the other, and through the same fields under other names.
use Prim.Native.Nat.{ℕ, zero, suc, ◌<◌}
use Rattle.std.specs.Prelude.{Result, Ok, Err}
use mathlib.Core.Path.{◌≡◌, refl, sym, subst, ap, ap₂, ◌∙◌}
use mathlib.Core.List.{List}
use mathlib.Core.Bool.{Bool, true, false, ◌||◌}
use native.Mathlib.Omega.{arith}
use lib.ListN.{length, length-append}
use Rattle.ground_refusal.specs.declared.Refusal.{Refusal}
use Rattle.ground_refusal.proofs.Exits.{ok_pair_inj}
use Rattle.body_formats.specs.Reading.{Reading, found, refused, and_then, Fault, fine, faulty, judged}
use Rattle.body_formats.specs.Format.{Format, followed, ◌▷◌, nothing, under, view, exact, only}
use Rattle.body_formats.proofs.Outcomes.{found_inj, and_then_found}
use Rattle.body_pen.specs.Penned.{more, pen_onward, penned, count_onward, counted, gapped}
use Rattle.body_pen.proofs.Leaves.{more_twice}

-- ---- where a pen comes to, by where it starts and what the form lays out

more_none : (size n : ℕ) (over : Bool) → more (more size n over) 0 false ≡ more size n over
unfolding more
more_none size n true = omega arith
more_none size n false = omega arith

module _ {A : Type 0} (F : Format A) (pool tape : List ℕ) (x : Result (ℕ × ℕ) Refusal) where
  pub pen_onward_lem : (size k : ℕ) → x ≡ Ok (size, k) → (y : Reading A) → F.form pool tape k ≡ y → penned F pool tape x ≡ pen_onward F size y
  unfolding penned
  pen_onward_lem size k e y f = rw (e, f)

  -- the bytes so far are at most one more than a body may have: none more changes nothing
  pub pen_small : gapped 0 (penned F pool tape x) ≡ penned F pool tape x
  unfolding penned gapped
  pen_small = go x
    where
      at : (size : ℕ) (y : Reading A) → gapped 0 (pen_onward F size y) ≡ pen_onward F size y
      at size (found a j) = ap (λ n. Ok (n, j)) (more_none size (length (F.print a)) (F.too_large a))
      at size (refused r) = refl

      go : (y : Result (ℕ × ℕ) Refusal) → gapped 0 (penned F pool tape y) ≡ penned F pool tape y
      go (Ok (size, k)) = at size (F.form pool tape k)
      go (Err r) = refl

-- ---- one after the other, where the second may depend on what the first found

module _ {A : Type 0} {B : A → Type 0} (F : Format A) (G : (a : A) → Format (B a)) (pool tape : List ℕ) where
  pub form_parts : (k : ℕ) (x : (a : A) × B a) (i : ℕ) → (followed F G).form pool tape k ≡ found x i
      → (j : ℕ) × (F.form pool tape k ≡ found x.0 j) × ((G x.0).form pool tape j ≡ found x.1 i)
  unfolding followed
  form_parts k x i e =
      let f = and_then_found (F.form pool tape k) _ x i e in
      let g = and_then_found ((G f.0).form pool tape f.1) _ x i f.3 in
      let z = found_inj g.3 in
      subst (λ (y : (a : A) × B a). (j : ℕ) × (F.form pool tape k ≡ found y.0 j) × ((G y.0).form pool tape j ≡ found y.1 i))
      z.0 (f.1, f.2, g.2 ∙ ap (found g.0) z.1)

  onward_both : (size : ℕ) (a : A) (y : Reading (B a))
      → pen_onward (followed F G) size (and_then y (λ b i. let z : (a : A) × B a = (a, b) in found z i))
      ≡ pen_onward (G a) (more size (length (F.print a)) (F.too_large a)) y
  unfolding followed
  onward_both size a (found b i) =
      ap (λ n. Ok (n, i))
      (ap (λ n. more size n (F.too_large a || (G a).too_large b)) (length-append (F.print a) ((G a).print b))
      ∙ sym (more_twice size (length (F.print a)) (length ((G a).print b)) (F.too_large a) ((G a).too_large b)))
  onward_both size a (refused e) = refl

module _ {A B : Type 0} (F : Format A) (G : Format B) (pool tape : List ℕ) where
  pub pair_pen : (x : Result (ℕ × ℕ) Refusal) → penned (F ▷ G) pool tape x ≡ penned G pool tape (penned F pool tape x)
  unfolding penned followed
  pair_pen (Err r) = refl
  pair_pen (Ok (size, k)) = go (F.form pool tape k)
    where
      go : (y : Reading A) → pen_onward (F ▷ G) size (and_then y (λ a j. and_then (G.form pool tape j) (λ b i. let z : A × B = (a, b) in found z i)))
          ≡ penned G pool tape (pen_onward F size y)
      go (found a j) = onward_both F (λ a. G) pool tape size a (G.form pool tape j)
      go (refused r) = refl

-- ---- after a number that is told: a count, a flag, or a tag

module _ (C : Format ℕ) (pool tape : List ℕ) where
  -- the pen past it, as one past a number that is not told
  pub told_pen : (x : Result (ℕ × ℕ) Refusal) (p : ℕ × ℕ) (n : ℕ) → Ok (p, n) ≡ counted C pool tape x → Ok p ≡ penned C pool tape x
  unfolding penned counted
  told_pen (Err r) p n e = absurd (let z : ◌≡◌ {A = ℕ} 0 1 = cc in omega arith)
  told_pen (Ok (size, k)) p n e = go (C.form pool tape k) e
    where
      go : (y : Reading ℕ) → Ok (p, n) ≡ count_onward C size y → Ok p ≡ pen_onward C size y
      go (found m j) f = ap Ok (ok_pair_inj f).0
      go (refused r) f = absurd (let z : ◌≡◌ {A = ℕ} 0 1 = cc in omega arith)

  -- the number is the one that the form lays out, and the pen stands after it
  pub told : (x : Result (ℕ × ℕ) Refusal) (size k : ℕ) → x ≡ Ok (size, k) → (m j : ℕ) → C.form pool tape k ≡ found m j → (p : ℕ × ℕ) (n : ℕ)
      → Ok (p, n) ≡ counted C pool tape x → (p ≡ (more size (length (C.print m)) (C.too_large m), j)) × (m ≡ n)
  unfolding counted
  told x size k e m j f p n q = let z = ok_pair_inj (q ∙ rw (e, f)) in (z.0, sym z.1)

  pub untold_pen : (x : Result (ℕ × ℕ) Refusal) (r : Refusal) → Err r ≡ counted C pool tape x → Err r ≡ penned C pool tape x
  unfolding penned counted
  untold_pen (Err u) r e = ap Err (let z : r ≡ u = cc in z)
  untold_pen (Ok (size, k)) r e = go (C.form pool tape k) e
    where
      go : (y : Reading ℕ) → Err r ≡ count_onward C size y → Err r ≡ pen_onward C size y
      go (found m j) f = absurd (let z : ◌≡◌ {A = ℕ} 0 1 = cc in omega arith)
      go (refused u) f = ap Err (let z : r ≡ u = cc in z)

module _ {B : ℕ → Type 0} (C : Format ℕ) (G : (n : ℕ) → Format (B n)) (pool tape : List ℕ) where
  pub after_number : (x : Result (ℕ × ℕ) Refusal) (p : ℕ × ℕ) (n : ℕ) → Ok (p, n) ≡ counted C pool tape x
      → penned (followed C G) pool tape x ≡ penned (G n) pool tape (Ok p)
  unfolding penned followed counted
  after_number (Err r) p n e = absurd (let z : ◌≡◌ {A = ℕ} 0 1 = cc in omega arith)
  after_number (Ok (size, k)) p n e = go (C.form pool tape k) e
    where
      go : (y : Reading ℕ) → Ok (p, n) ≡ count_onward C size y
          → pen_onward (followed C G) size (and_then y (λ n j. and_then ((G n).form pool tape j) (λ b i. let z : (n : ℕ) × B n = (n, b) in found z i)))
          ≡ penned (G n) pool tape (Ok p)
      go (found m j) f = let q = ok_pair_inj f in rw (q.0, q.1) (onward_both C G pool tape size m ((G m).form pool tape j))
      go (refused r) f = absurd (let z : ◌≡◌ {A = ℕ} 0 1 = cc in omega arith)

  pub number_stopped : (x : Result (ℕ × ℕ) Refusal) (r : Refusal) → Err r ≡ counted C pool tape x → Err r ≡ penned (followed C G) pool tape x
  unfolding penned followed counted
  number_stopped (Err u) r e = ap Err (let z : r ≡ u = cc in z)
  number_stopped (Ok (size, k)) r e = go (C.form pool tape k) e
    where
      go : (y : Reading ℕ) → Err r ≡ count_onward C size y
          → Err r ≡ pen_onward (followed C G) size (and_then y (λ n j. and_then ((G n).form pool tape j) (λ b i. let z : (n : ℕ) × B n = (n, b) in found z i)))
      go (found m j) f = absurd (let z : ◌≡◌ {A = ℕ} 0 1 = cc in omega arith)
      go (refused u) f = ap Err (let z : r ≡ u = cc in z)

-- ---- nothing, and a part under its flag

pub nothing_pen : (pool tape : List ℕ) (x : Result (ℕ × ℕ) Refusal) → penned nothing pool tape x ≡ gapped 0 x
unfolding penned gapped nothing
nothing_pen pool tape (Ok (size, k)) = refl
nothing_pen pool tape (Err r) = refl

module _ {A : Type 0} (G : Format A) (C : Format ℕ) (pool tape : List ℕ) (x : Result (ℕ × ℕ) Refusal) (p : ℕ × ℕ) (n : ℕ) (e : Ok (p, n) ≡ counted C pool tape x) where
  under_none : (m : ℕ) → m ≡ 0 → penned (under G m) pool tape (Ok p) ≡ Ok p
  unfolding under
  under_none zero z = nothing_pen pool tape (Ok p) ∙ rw (told_pen C pool tape x p n e) (pen_small C pool tape x)
  under_none (suc m) z = absurd (omega arith)

  under_some : (m : ℕ) → 0 < m → penned (under G m) pool tape (Ok p) ≡ penned G pool tape (Ok p)
  unfolding under
  under_some zero h = absurd (omega arith)
  under_some (suc m) h = refl

  pub flag_none : n ≡ 0 → penned (followed C (λ flag. under G flag)) pool tape x ≡ Ok p
  flag_none z = after_number C (λ flag. under G flag) pool tape x p n e ∙ under_none n z

  pub flag_some : 0 < n → penned (followed C (λ flag. under G flag)) pool tape x ≡ penned G pool tape (Ok p)
  flag_some h = after_number C (λ flag. under G flag) pool tape x p n e ∙ under_some n h

-- ---- the same fields as a value of another kind

pub as_found : {A : Type 0} (x : Reading A) → x ≡ and_then x (λ a j. found a j)
as_found (found a j) = refl
as_found (refused e) = refl

module _ {A B : Type 0} (F : Format A) (G : Format B) (f : A → B) (pool tape : List ℕ)
    (forms : (k : ℕ) → G.form pool tape k ≡ and_then (F.form pool tape k) (λ a j. found (f a) j))
    (prints : (k : ℕ) (a : A) (j : ℕ) → F.form pool tape k ≡ found a j → (G.print (f a) ≡ F.print a) × (G.too_large (f a) ≡ F.too_large a)) where
  pub same_pen : (x : Result (ℕ × ℕ) Refusal) → penned G pool tape x ≡ penned F pool tape x
  unfolding penned
  same_pen (Err r) = refl
  same_pen (Ok (size, k)) = ap (pen_onward G size) (forms k) ∙ go (F.form pool tape k) refl
    where
      go : (y : Reading A) → F.form pool tape k ≡ y → pen_onward G size (and_then y (λ a j. found (f a) j)) ≡ pen_onward F size y
      go (found a j) h = let s = prints k a j h in ap₂ (λ (l : List ℕ) (o : Bool). Ok (more size (length l) o, j)) s.0 s.1
      go (refused u) h = refl

-- that no field is lost is said of functions, so that `simp` sees it by computing them
pub view_pen : {A B : Type 0} (f : A → B) (g : B → A) (F : Format A) (pool tape : List ℕ) (x : Result (ℕ × ℕ) Refusal) → ◌≡◌ {A = A → A} (λ a. g (f a)) (λ a. a)
    → penned (view f g F) pool tape x ≡ penned F pool tape x
unfolding view
view_pen {A} f g F pool tape x back =
    same_pen F (view f g F) f pool tape (λ k. refl) (λ k a j h. (ap (λ (i : A → A). F.print (i a)) back, ap (λ (i : A → A). F.too_large (i a)) back)) x

pub exact_pen : {A : Type 0} (left_over : ℕ → Refusal) (F : Format A) (pool tape : List ℕ) (x : Result (ℕ × ℕ) Refusal)
    → penned (exact left_over F) pool tape x ≡ penned F pool tape x
unfolding exact
exact_pen left_over F pool tape = same_pen F (exact left_over F) (λ a. a) pool tape (λ k. as_found (F.form pool tape k)) (λ k a j h. (refl, refl))

-- ---- values of a stated set: the pen through F, and what is said of the value that it went through

module _ {A : Type 0} (fault : A → ℕ → Fault) (F : Format A) (pool tape : List ℕ) (x : Result (ℕ × ℕ) Refusal) where
  -- it is in the set
  pub only_fine : ((size k : ℕ) → x ≡ Ok (size, k) → (a : A) (j : ℕ) → F.form pool tape k ≡ found a j → fault a k ≡ fine)
      → penned (only fault F) pool tape x ≡ penned F pool tape x
  unfolding penned only
  only_fine h = go x refl
    where
      at : (size k : ℕ) → x ≡ Ok (size, k) → (y : Reading A) → F.form pool tape k ≡ y
          → pen_onward (only fault F) size (and_then y (λ a j. judged (fault a k) (found a j))) ≡ pen_onward F size y
      at size k e (found a j) f = rw (h size k e a j f)
      at size k e (refused r) f = refl

      go : (y : Result (ℕ × ℕ) Refusal) → x ≡ y → penned (only fault F) pool tape y ≡ penned F pool tape y
      go (Ok (size, k)) e = at size k e (F.form pool tape k) refl
      go (Err r) e = refl

  -- it is not
  pub only_faulty : (u : Refusal) → ((size k : ℕ) → x ≡ Ok (size, k) → (a : A) (j : ℕ) → F.form pool tape k ≡ found a j → fault a k ≡ faulty u)
      → (p : ℕ × ℕ) → Ok p ≡ penned F pool tape x → Err u ≡ penned (only fault F) pool tape x
  unfolding penned only
  only_faulty u h p = go x refl
    where
      at : (size k : ℕ) → x ≡ Ok (size, k) → (y : Reading A) → F.form pool tape k ≡ y → Ok p ≡ pen_onward F size y
          → Err u ≡ pen_onward (only fault F) size (and_then y (λ a j. judged (fault a k) (found a j)))
      at size k e (found a j) f q = rw (h size k e a j f)
      at size k e (refused r) f q = absurd (let z : ◌≡◌ {A = ℕ} 0 1 = cc in omega arith)

      go : (y : Result (ℕ × ℕ) Refusal) → x ≡ y → Ok p ≡ penned F pool tape y → Err u ≡ penned (only fault F) pool tape y
      go (Ok (size, k)) e q = at size k e (F.form pool tape k) refl q
      go (Err r) e q = absurd (let z : ◌≡◌ {A = ℕ} 0 1 = cc in omega arith)

  -- a refusal before it stands
  pub only_stopped : (u : Refusal) → Err u ≡ penned F pool tape x → Err u ≡ penned (only fault F) pool tape x
  unfolding penned only
  only_stopped u = go x
    where
      at : (size k : ℕ) (y : Reading A) → Err u ≡ pen_onward F size y → Err u ≡ pen_onward (only fault F) size (and_then y (λ a j. judged (fault a k) (found a j)))
      at size k (found a j) q = absurd (let z : ◌≡◌ {A = ℕ} 0 1 = cc in omega arith)
      at size k (refused r) q = q

      go : (y : Result (ℕ × ℕ) Refusal) → Err u ≡ penned F pool tape y → Err u ≡ penned (only fault F) pool tape y
      go (Ok (size, k)) q = at size k (F.form pool tape k) q
      go (Err r) q = q
