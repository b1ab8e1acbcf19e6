-- Reading things that repeat to the end of their part: a turn of the loop.
use Prim.Native.Nat.{ℕ, zero, suc, ◌+◌, ◌-◌, ◌≤◌, ◌<◌}
use mathlib.Core.Path.{◌≡◌, refl, ap, ◌∙◌}
use mathlib.Core.List.{List, [], ◌∷◌}
use mathlib.Core.Bool.{Bool, true, false}
use native.Mathlib.Omega.{arith}
use native.Mathlib.Nat.{le_refl}
use lib.ListN.{length}
use lib.Dec.{leb}
use borrow.Author.Tests.{le-leb, lt-leb}
use Rattle.std.specs.Prelude.{if◌then◌else◌, Ok, Err}
use Rattle.ground_refusal.specs.declared.Refusal.{Refusal}
use Rattle.body_formats.specs.Reading.{Reading, found, refused, and_then}
use Rattle.body_formats.specs.Format.{Format, parse_many, many}
use Rattle.body_formats.specs.Answers.{step_of, ended}
use Rattle.body_formats.proofs.Classes.{Bytes, Lawful}
use Rattle.body_formats.proofs.Readers.{step_found, step_refused}

module _ {A : Type 0} (F : Format A) (f : Lawful F) (takes : (a : A) → 0 < length (F.print a)) (s : List ℕ) (b : Bytes s) (l : ℕ) (inb : l ≤ length s) where
  -- a reading goes forward
  pub forward : (p : ℕ) (a : A) (q : ℕ) → p ≤ l → F.parse s l p ≡ found a q → (p < q) × (q ≤ l)
  forward p a q h e =
      let u = f.forth s l p a q b inb h e in
      (omega (arith, u.next, takes a), u.inside)

  -- more turns than there are bytes left change nothing
  fuel : (k j p : ℕ) → p ≤ l → l - p ≤ k → l - p ≤ j → parse_many F k s l p ≡ parse_many F j s l p
  unfolding parse_many
  fuel zero zero p h x y = refl
  fuel zero (suc j) p h x y = rw (le-leb l p (omega arith))
  fuel (suc k) zero p h x y = rw (le-leb l p (omega arith))
  fuel (suc k) (suc j) p h x y = go (λ q w y z. fuel k j q w y z) (leb l p) refl (F.parse s l p) refl
    where
      others : ℕ → Reading A → Reading (List A)
      others i x = and_then x (λ a q. and_then (parse_many F i s l q) (λ xs r. found (a ∷ xs) r))

      go : ((q : ℕ) → q ≤ l → l - q ≤ k → l - q ≤ j → parse_many F k s l q ≡ parse_many F j s l q) → (t : Bool) → leb l p ≡ t → (x : Reading A) → F.parse s l p ≡ x
          → (if t then found [] p else others k x) ≡ (if t then found [] p else others j x)
      go again true et x ex = refl
      go again false et (refused r) ex = refl
      go again false et (found a q) ex =
          let w = forward p a q h ex in
          ap (λ z. and_then z (λ xs r. found (a ∷ xs) r)) (again q w.1 (omega (arith, w.0)) (omega (arith, w.0)))

  unrolled : (p : ℕ) → p < l → parse_many F (l - p) s l p ≡ and_then (F.parse s l p) (λ a q. and_then (parse_many F (l - (p + 1)) s l q) (λ xs r. found (a ∷ xs) r))
  unfolding parse_many
  unrolled p h =
      let e : l - p ≡ suc (l - (p + 1)) = omega arith in
      rw (e, lt-leb l p h)

  pub many_stop : (p : ℕ) (r : Refusal) → p < l → Err r ≡ ended F s l p → Err r ≡ ended (many F) s l p
  unfolding ended many
  many_stop p r h e = rw (unrolled p h, step_refused F s l p r e)

  pub many_go : (p q : ℕ) → p < l → Ok q ≡ ended F s l p → ended (many F) s l p ≡ ended (many F) s l q
  unfolding ended many
  many_go p q h e =
      let g = step_found F s l p q e in
      let w = forward p g.0 q (omega arith) g.1 in
      rw (unrolled p h, g.1) (last g.0 (parse_many F (l - (p + 1)) s l q) ∙ ap step_of (fuel (l - (p + 1)) (l - q) q w.1 (omega (arith, w.0)) (le_refl (l - q))))
    where
      last : (a : A) (x : Reading (List A)) → step_of (and_then x (λ xs r. found (a ∷ xs) r)) ≡ step_of x
      last a (found xs r) = refl
      last a (refused r) = refl
