-- Laws of a pen through a list: its things one after the other, after a count or with none in the body.
use Prim.Native.Nat.{ℕ, suc, ◌+◌, ◌-◌, ◌≤◌, ◌<◌}
use Rattle.std.specs.Prelude.{Result, Ok, Err}
use mathlib.Core.Path.{◌≡◌, refl, sym, ap, ◌∙◌}
use mathlib.Core.List.{List, [], ◌∷◌, ◌++◌}
use mathlib.Core.Bool.{false, ◌||◌}
use native.Mathlib.Omega.{arith}
use Rattle.ground_refusal.specs.declared.Refusal.{Refusal}
use Rattle.body_formats.specs.Reading.{Reading, found, refused, and_then}
use Rattle.body_formats.specs.Format.{Format, tape_entry, repeat, print_all, some, followed, ◌▷◌, nothing, times, list_of, many}
use Rattle.body_formats.specs.Answers.{number_of}
use Rattle.body_formats.proofs.Elements.{repeat_length}
use Rattle.body_formats.proofs.Readers.{number_found, number_refused}
use Rattle.body_pen.specs.Penned.{more, penned, counted, gapped, unprinted}
use Rattle.body_pen.proofs.Leaves.{stopped, count_refused, count_passed}
use Rattle.body_pen.proofs.Pairs.{pen_small, pair_pen, form_parts, told_pen, after_number, number_stopped, nothing_pen, as_found, same_pen}

-- ---- n things

module _ {A : Type 0} (F : Format A) (pool tape : List ℕ) where
  times_none : (x : Result (ℕ × ℕ) Refusal) → penned (times 0 F) pool tape x ≡ gapped 0 x
  unfolding nothing times repeat print_all some
  times_none x = same_pen nothing (times 0 F) (λ u. []) pool tape (λ k. refl) (λ k a j h. (refl, refl)) x ∙ nothing_pen pool tape x

  times_form : (n k : ℕ) → (times (suc n) F).form pool tape k ≡ and_then ((F ▷ times n F).form pool tape k) (λ y j. found (y.0 ∷ y.1) j)
  unfolding times repeat followed
  times_form n k = go (F.form pool tape k)
    where
      again : (a : A) (x : Reading (List A)) → and_then x (λ xs r. found (a ∷ xs) r)
          ≡ and_then (and_then x (λ xs r. let z : A × List A = (a, xs) in found z r)) (λ y j. found (y.0 ∷ y.1) j)
      again a (found xs r) = refl
      again a (refused e) = refl

      go : (x : Reading A) → and_then x (λ a q. and_then (repeat (F.form pool tape) n q) (λ xs r. found (a ∷ xs) r))
          ≡ and_then (and_then x (λ a j. and_then (repeat (F.form pool tape) n j) (λ xs i. let z : A × List A =
          (a, xs) in found z i))) (λ y j. found (y.0 ∷ y.1) j)
      go (found a q) = again a (repeat (F.form pool tape) n q)
      go (refused e) = refl

  times_more : (n : ℕ) (x : Result (ℕ × ℕ) Refusal) → penned (times (suc n) F) pool tape x ≡ penned (times n F) pool tape (penned F pool tape x)
  unfolding times followed print_all some
  times_more n x =
      same_pen (F ▷ times n F) (times (suc n) F) (λ y. y.0 ∷ y.1) pool tape (times_form n) (λ k y j h. (refl, refl)) x
      ∙ pair_pen F (times n F) pool tape x

-- ---- after a count, and with none in the body

module _ {A : Type 0} (C : Format ℕ) (F : Format A) (pool tape : List ℕ) where
  list_form : (k : ℕ) → (list_of C F).form pool tape k ≡ and_then ((followed C (λ n. times n F)).form pool tape k) (λ y j. found y.1 j)
  unfolding list_of followed times
  list_form k = go (C.form pool tape k)
    where
      again : (n : ℕ) (x : Reading (List A)) → x ≡ and_then (and_then x (λ xs r. let z : (n : ℕ) × List A = (n, xs) in found z r)) (λ y j. found y.1 j)
      again n (found xs r) = refl
      again n (refused e) = refl

      go : (x : Reading ℕ) → and_then x (λ n j. repeat (F.form pool tape) n j)
          ≡ and_then (and_then x (λ n j. and_then (repeat (F.form pool tape) n j) (λ xs i. let z : (n : ℕ) × List A =
          (n, xs) in found z i))) (λ y j. found y.1 j)
      go (found n j) = again n (repeat (F.form pool tape) n j)
      go (refused e) = refl

  list_bytes : (k : ℕ) (y : (n : ℕ) × List A) (j : ℕ) → (followed C (λ n. times n F)).form pool tape k ≡ found y j
      → ((list_of C F).print y.1 ≡ (followed C (λ n. times n F)).print y) × ((list_of C F).too_large y.1 ≡ (followed C (λ n. times n F)).too_large y)
  unfolding list_of followed times
  list_bytes k y j h =
      let t = form_parts C (λ n. times n F) pool tape k y j h in
      let l = repeat_length (F.form pool tape) y.0 t.0 y.1 j t.2 in
      (ap (λ m. C.print m ++ print_all F.print y.1) l, ap (λ m. C.too_large m || some F.too_large y.1) l)

module _ {A : Type 0} (F : Format A) (pool tape : List ℕ) (x : Result (ℕ × ℕ) Refusal) where
  list_is : (C : Format ℕ) → penned (list_of C F) pool tape x ≡ penned (followed C (λ n. times n F)) pool tape x
  list_is C = same_pen (followed C (λ n. times n F)) (list_of C F) (λ y. y.1) pool tape (list_form C F pool tape) (list_bytes C F pool tape) x

  many_is : penned (many F) pool tape x ≡ penned (list_of unprinted F) pool tape x
  unfolding many list_of unprinted
  many_is = same_pen (list_of unprinted F) (many F) (λ xs. xs) pool tape (λ k. as_found ((many F).form pool tape k)) (λ k a j h. (refl, refl)) x

  module _ (p : ℕ × ℕ) (n : ℕ) where
    pub list_pen : (C : Format ℕ) → Ok (p, n) ≡ counted C pool tape x → penned (list_of C F) pool tape x ≡ penned (times n F) pool tape (Ok p)
    list_pen C e = list_is C ∙ after_number C (λ n. times n F) pool tape x p n e

    pub many_pen : Ok (p, n) ≡ counted unprinted pool tape x → penned (many F) pool tape x ≡ penned (times n F) pool tape (Ok p)
    many_pen e = many_is ∙ list_pen unprinted e

  -- no count, no list
  module _ (r : Refusal) where
    pub list_stop : (C : Format ℕ) → Err r ≡ counted C pool tape x → Err r ≡ penned (list_of C F) pool tape x
    list_stop C e = number_stopped C (λ n. times n F) pool tape x r e ∙ sym (list_is C)

    pub many_stop : Err r ≡ counted unprinted pool tape x → Err r ≡ penned (many F) pool tape x
    many_stop e = list_stop unprinted e ∙ sym many_is

-- ---- things under way: from here on, those that are left make the whole list

pub record Underway {A : Type 0} (F : Format A) (pool tape : List ℕ) (whole : Result (ℕ × ℕ) Refusal) (n i : ℕ) (p : ℕ × ℕ) : Type 0 where
  pub small : gapped 0 (Ok p) ≡ Ok p
  pub rest : penned (times (n - i) F) pool tape (Ok p) ≡ whole

none_past : {A : Type 0} (F : Format A) (pool tape : List ℕ) (p : ℕ × ℕ) (n : ℕ) → penned (times n F) pool tape (Ok p) ≡ penned (times (n - 0) F) pool tape (Ok p)
none_past F pool tape p n = let z : n ≡ n - 0 = omega arith in ap (λ l. penned (times l F) pool tape (Ok p)) z

module _ {A : Type 0} {F : Format A} (pool tape : List ℕ) (x : Result (ℕ × ℕ) Refusal) {p : ℕ × ℕ} {n : ℕ} where
  pub list_start : (C : Format ℕ) → Ok (p, n) ≡ counted C pool tape x → Underway F pool tape (penned (list_of C F) pool tape x) n 0 p
  list_start C e = record { small = rw (told_pen C pool tape x p n e) (pen_small C pool tape x); rest = sym (list_pen F pool tape x p n C e ∙ none_past F pool tape p n) }

  pub many_start : Ok (p, n) ≡ counted unprinted pool tape x → Underway F pool tape (penned (many F) pool tape x) n 0 p
  many_start e = record { small = rw (told_pen unprinted pool tape x p n e) (pen_small unprinted pool tape x); rest = sym (many_pen F pool tape x p n e ∙ none_past F pool tape p n) }

module _ {A : Type 0} {F : Format A} {pool tape : List ℕ} {whole : Result (ℕ × ℕ) Refusal} {n i : ℕ} {p : ℕ × ℕ} (u : Underway F pool tape whole n i p) where
  pub times_done : n ≤ i → Ok p ≡ whole
  times_done h =
      let z : n - i ≡ 0 = omega arith in
      sym u.small ∙ sym (times_none F pool tape (Ok p)) ∙ ap (λ m. penned (times m F) pool tape (Ok p)) (sym z) ∙ u.rest

  module _ (h : i < n) {q : Result (ℕ × ℕ) Refusal} (e : q ≡ penned F pool tape (Ok p)) where
    others : penned (times (n - (i + 1)) F) pool tape q ≡ whole
    others =
        let z : suc (n - (i + 1)) ≡ n - i = omega arith in
        rw e (sym (times_more F pool tape (n - (i + 1)) (Ok p))) ∙ ap (λ m. penned (times m F) pool tape (Ok p)) z ∙ u.rest

    pub times_turn : {r : ℕ × ℕ} → q ≡ Ok r → Underway F pool tape whole n (i + 1) r
    times_turn f = record { small = ap (gapped 0) (sym f ∙ e) ∙ pen_small F pool tape (Ok p) ∙ sym e ∙ f; rest = rw (← f) others }

    -- the first refusal ends it
    pub times_stop : {r : Refusal} → q ≡ Err r → Err r ≡ whole
    times_stop {r} f = stopped (times (n - (i + 1)) F) pool tape q r f ∙ others

-- the count itself: an entry of the tape, and no byte
module _ (pool tape : List ℕ) (x : Result (ℕ × ℕ) Refusal) (size k : ℕ) (e : x ≡ Ok (size, k)) where
  pub untaken : (r : Refusal) → Err r ≡ number_of (tape_entry tape k) → Err r ≡ counted unprinted pool tape x
  unfolding unprinted
  untaken r f = count_refused unprinted pool tape x size k e r (number_refused (tape_entry tape k) r f)

  pub taken : (n j : ℕ) → Ok (n, j) ≡ number_of (tape_entry tape k) → (z : ℕ) → z ≡ more size 0 false → Ok ((z, j), n) ≡ counted unprinted pool tape x
  unfolding unprinted
  taken n j f z g = count_passed unprinted pool tape x size k e n j (number_found (tape_entry tape k) n j f) false refl 0 refl z g
