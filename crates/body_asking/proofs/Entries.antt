-- Laws of the way past entries, and of things one after the other that end alike: of whichever the list is read, it ends, and the i-th begins, at the same place.
use Prim.Native.Nat.{ℕ, zero, suc, ◌+◌, ◌≤◌, ◌<◌}
use Rattle.std.specs.Prelude.{Ok, Err}
use mathlib.Core.Path.{◌≡◌, refl, sym, ap, ◌∙◌}
use mathlib.Core.List.{List, [], ◌∷◌}
use mathlib.Core.Bool.{Bool, true, false}
use native.Mathlib.Omega.{arith}
use native.Mathlib.Nat.{add-zero}
use lib.ListN.{length, get_or, take, drop}
use lib.Dec.{ltb, leb}
use borrow.Author.Tests.{leb-true, leb-false, le-leb, lt-leb, lt-ltb, le-ltb}
use Rattle.ground_refusal.specs.declared.Refusal.{Refusal}
use Rattle.ground_refusal.specs.declared.Refusal.TheVariants.{OutsideSet}
use Rattle.body_formats.specs.Reading.{Reading, found, refused, and_then, need}
use Rattle.body_formats.specs.Format.{Format, count, number, bytes, followed, repeat, length_of, counted, opaque}
use Rattle.body_formats.specs.Answers.{step_of, number_of, ended, ended_all, number_read, part_read, after}
use Rattle.body_formats.proofs.Outcomes.{found_inj, and_then_found, within_found}
use Rattle.body_formats.proofs.Bits.{within_refused}
use Rattle.body_formats.proofs.Readers.{number_found, number_refused, part_found, part_refused}
use Rattle.body_asking.specs.Asking.{headed_part, nth_of}
use Rattle.body_asking.proofs.Sizes.{only_found}

-- ---- an entry: its head ends where the number of as many bytes does

module _ (s : List ℕ) (l p h : ℕ) where
  head_refused : (r : Refusal) → Err r ≡ number_read h s l p → (bytes h).parse s l p ≡ refused r
  unfolding number_read count bytes
  head_refused r e = within_refused s l p (p + h) _ _ r (found (take h (drop p s)) (p + h)) (number_refused ((count h).parse s l p) r e)

  head_found : (v q : ℕ) → Ok (v, q) ≡ number_read h s l p → (bytes h).parse s l p ≡ found (take h (drop p s)) q
  unfolding number_read count bytes
  head_found v q e =
      let f = within_found s l p (p + h) _ v q (number_found ((count h).parse s l p) v q e) in
      rw (le-leb (p + h) (length s) f.0, le-leb (p + h) l f.1) (ap (found (take h (drop p s))) (found_inj f.2).1)

  module _ (w : ℕ) where
    pub head_no : (r : Refusal) → Err r ≡ number_read h s l p → Err r ≡ ended (headed_part h w) s l p
    unfolding ended followed
    head_no r e = rw (head_refused r e)

    module _ (v q : ℕ) (e : Ok (v, q) ≡ number_read h s l p) where
      pub entry_no : (r : Refusal) → Err r ≡ part_read w s l q → Err r ≡ ended (headed_part h w) s l p
      unfolding ended followed
      entry_no r f = rw (head_found v q e, part_refused s l q w r f)

      pub entry_at : (a m : ℕ) → Ok (a, m) ≡ part_read w s l q → Ok (a + m) ≡ ended (headed_part h w) s l p
      unfolding ended followed
      entry_at a m f = rw (head_found v q e, (part_found s l q w a m f).1)

    -- a number of h bytes, and then opaque bytes, are an entry
    pub entry_found : (v r : ℕ) → (number h).parse s l p ≡ found v r → (xs : List ℕ) (q : ℕ) → (opaque w).parse s l r ≡ found xs q → (headed_part h w).parse s l p ≡ found (take h (drop p s), xs) q
    unfolding number number_read followed
    entry_found v r e xs q f = rw (head_found v r (sym (ap number_of (only_found _ (count h) s l p v r e))), f)

-- ---- the i-th of n, by the code's test

module _ {A : Type 0} (F : Format A) (n i : ℕ) (s : List ℕ) (l p : ℕ) where
  pub nth_past : n ≤ i → nth_of F n i s l p ≡ refused (OutsideSet 0)
  unfolding nth_of
  nth_past h = rw (le-ltb i n h)

  pub nth_there : i < n → ended_all F i s l p ≡ step_of (nth_of F n i s l p)
  unfolding nth_of ended_all
  nth_there h = rw (lt-ltb i n h)

-- what is read after i others is read where they end
pub after_all : {A : Type 0} (F : Format A) (s : List ℕ) (l i p : ℕ) (xs : List A) (q : ℕ) → repeat (F.parse s l) i p ≡ found xs q
    → after F i s l p ≡ F.parse s l q
unfolding repeat after
after_all F s l zero p xs q e = ap (F.parse s l) (found_inj e).1
after_all F s l (suc i) p xs q e =
    let a = and_then_found (F.parse s l p) _ xs q e in
    let b = and_then_found (repeat (F.parse s l) i a.1) _ xs q a.3 in
    rw a.2 (after_all F s l i a.1 b.0 b.1 b.2 ∙ ap (F.parse s l) (found_inj b.3).1)

-- ---- things that end alike, whatever is read of them

module _ {A B : Type 0} (F : Format A) (G : Format B) (s : List ℕ) (l : ℕ) (same : (p : ℕ) (a : A) (q : ℕ) → F.parse s l p ≡ found a q → (y : B) × (G.parse s l p ≡ found y q)) where
  pub all_same : (n p : ℕ) (xs : List A) (q : ℕ) → repeat (F.parse s l) n p ≡ found xs q → (ys : List B) × (repeat (G.parse s l) n p ≡ found ys q)
  unfolding repeat
  all_same zero p xs q e = ([], ap (found []) (found_inj e).1)
  all_same (suc n) p xs q e =
      let i = and_then_found (F.parse s l p) _ xs q e in
      let j = and_then_found (repeat (F.parse s l) n i.1) _ xs q i.3 in
      let y = same p i.0 i.1 i.2 in
      let ys = all_same n i.1 j.0 j.1 j.2 in
      (y.0 ∷ ys.0, rw (y.1, ys.1) (ap (found (y.0 ∷ ys.0)) (found_inj j.3).1))

  -- where the i-th begins
  begins_same : (d : A) (n i p : ℕ) (xs : List A) (q : ℕ) → repeat (F.parse s l) n p ≡ found xs q → i < n
      → (ys : List B) × (t r : ℕ) × (repeat (G.parse s l) i p ≡ found ys t) × (F.parse s l t ≡ found (get_or xs i d) r)
  unfolding repeat
  begins_same d zero i p xs q e h = absurd (omega arith)
  begins_same d (suc n) zero p xs q e h =
      let i = and_then_found (F.parse s l p) _ xs q e in
      let j = and_then_found (repeat (F.parse s l) n i.1) _ xs q i.3 in
      ([], p, i.1, refl, i.2 ∙ ap (λ x. found x i.1) (ap (λ ys. get_or ys 0 d) (found_inj j.3).0))
  begins_same d (suc n) (suc k) p xs q e h =
      let i = and_then_found (F.parse s l p) _ xs q e in
      let j = and_then_found (repeat (F.parse s l) n i.1) _ xs q i.3 in
      let y = same p i.0 i.1 i.2 in
      let t = begins_same d n k i.1 j.0 j.1 j.2 (omega arith) in
      (y.0 ∷ t.0, t.1, t.2, rw (y.1, t.3), t.4 ∙ ap (λ x. found x t.2) (ap (λ ys. get_or ys (suc k) d) (found_inj j.3).0))

  pub nth_same : (d : A) (n i p : ℕ) (xs : List A) (q : ℕ) → repeat (F.parse s l) n p ≡ found xs q → i < n
      → (ys : List B) × (t r : ℕ) × (nth_of G n i s l p ≡ found ys t) × (F.parse s l t ≡ found (get_or xs i d) r)
  unfolding nth_of
  nth_same d n i p xs q e h =
      let t = begins_same d n i p xs q e h in
      (t.0, t.1, t.2, rw (lt-ltb i n h) t.3, t.4)

-- ---- parts that nothing stands before

kept : {A B : Type 0} (a : A) (x : Reading B) → step_of {A = A × B} (and_then x (λ b r. found (a, b) r)) ≡ step_of x
kept a (found b r) = refl
kept a (refused r) = refl

added : {A : Type 0} (a : A) (x : Reading (List A)) → step_of (and_then x (λ xs r. found (a ∷ xs) r)) ≡ step_of x
added a (found xs r) = refl
added a (refused r) = refl

-- things that end and are refused alike, however many they are
module _ {A B : Type 0} (F : Format A) (G : Format B) (s : List ℕ) (l : ℕ) (alike : (p : ℕ) → step_of (F.parse s l p) ≡ step_of (G.parse s l p)) where
  abbrev first_of : {C : Type 0} → Format C → ℕ → Reading C → Reading (List C)
  first_of H n x = and_then x (λ a q. and_then (repeat (H.parse s l) n q) (λ xs r. found (a ∷ xs) r))

  first_alike : (n : ℕ) → ((p : ℕ) → step_of (repeat (F.parse s l) n p) ≡ step_of (repeat (G.parse s l) n p)) → (x : Reading A) (y : Reading B) → step_of x ≡ step_of y
      → step_of (first_of F n x) ≡ step_of (first_of G n y)
  first_alike n more (found a q) (found b t) e =
      let z : q ≡ t = cc in
      added a (repeat (F.parse s l) n q) ∙ more q ∙ ap (λ (u : ℕ). step_of (repeat (G.parse s l) n u)) z ∙ sym (added b (repeat (G.parse s l) n t))
  first_alike n more (refused r) (refused u) e = e
  first_alike n more (found a q) (refused r) e = absurd (let z : ◌≡◌ {A = ℕ} 0 1 = cc in omega arith)
  first_alike n more (refused r) (found b t) e = absurd (let z : ◌≡◌ {A = ℕ} 0 1 = cc in omega arith)

  all_alike : (n p : ℕ) → step_of (repeat (F.parse s l) n p) ≡ step_of (repeat (G.parse s l) n p)
  unfolding repeat
  all_alike zero p = refl
  all_alike (suc n) p = first_alike n (all_alike n) (F.parse s l p) (G.parse s l p) (alike p)

module _ (w : ℕ) (s : List ℕ) where
  inside : (p : ℕ) → p ≤ length s → step_of ((headed_part 0 w).parse s (length s) p) ≡ step_of ((opaque w).parse s (length s) p)
  unfolding followed bytes
  inside p h = rw (add-zero p, le-leb p (length s) h) (kept (take 0 (drop p s)) ((opaque w).parse s (length s) p))

  outside : (p : ℕ) → length s < p → step_of ((headed_part 0 w).parse s (length s) p) ≡ step_of ((opaque w).parse s (length s) p)
  unfolding followed bytes counted length_of count
  outside p h = rw (add-zero p, lt-leb p (length s) h, lt-leb (p + w) (length s) (omega arith))

  -- where the part around them is the body
  headless : (p : ℕ) → step_of ((headed_part 0 w).parse s (length s) p) ≡ step_of ((opaque w).parse s (length s) p)
  headless p = go (leb p (length s)) refl
    where
      go : (t : Bool) → leb p (length s) ≡ t → step_of ((headed_part 0 w).parse s (length s) p) ≡ step_of ((opaque w).parse s (length s) p)
      go true e = inside p (leb-true p (length s) e)
      go false e = outside p (leb-false p (length s) e)

  pub all_headless : (n p : ℕ) → ended_all (headed_part 0 w) n s (length s) p ≡ ended_all (opaque w) n s (length s) p
  unfolding ended_all
  all_headless n p = all_alike (headed_part 0 w) (opaque w) s (length s) headless n p

  pub nth_headless : (n i p : ℕ) → step_of (nth_of (headed_part 0 w) n i s (length s) p) ≡ step_of (nth_of (opaque w) n i s (length s) p)
  unfolding nth_of
  nth_headless n i p = go (ltb i n)
    where
      go : (t : Bool) → step_of (need t (OutsideSet 0) (repeat ((headed_part 0 w).parse s (length s)) i p)) ≡ step_of (need t (OutsideSet 0) (repeat ((opaque w).parse s (length s)) i p))
      go true = all_alike (headed_part 0 w) (opaque w) s (length s) headless i p
      go false = refl
