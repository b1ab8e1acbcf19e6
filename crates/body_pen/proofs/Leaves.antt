-- Laws that all leaves share: what a pen through one field answers, by the entries that its form takes and the bytes that it prints.
use Prim.Native.Nat.{ℕ, ◌+◌, ◌≤◌, ◌<◌}
use Rattle.std.specs.Prelude.{Result, Ok, Err}
use mathlib.Core.Path.{◌≡◌, refl, ap, ◌∙◌}
use mathlib.Core.List.{List}
use mathlib.Core.Bool.{Bool, true, false, ◌||◌, ◌&&◌}
use native.Mathlib.Omega.{arith}
use lib.ListN.{length, get_or, take, drop, length-drop}
use lib.Seq.{length-take-le}
use lib.Dec.{leb, ltb}
use borrow.Author.Tests.{ltb-true, le-leb, lt-leb, lt-ltb, le-ltb}
use Rattle.ground_choices.proofs.Tests.{both}
use Rattle.ground_refusal.specs.declared.Refusal.{Refusal}
use Rattle.ground_refusal.specs.declared.Refusal.TheVariants.{OutsideSet}
use Rattle.ground_refusal.proofs.Exits.{ok_pair_inj}
use Rattle.body_formats.specs.Reading.{Reading, found, refused, and_then, need}
use Rattle.body_formats.specs.Format.{Format, tape_entry, span}
use Rattle.body_formats.specs.Answers.{number_of}
use Rattle.body_formats.proofs.Outcomes.{found_inj, and_then_found, need_found}
use Rattle.body_formats.proofs.Readers.{number_found, number_refused}
use Rattle.ground_numbers.specs.Sizes.{body_most}
use Rattle.body_pen.specs.Penned.{more, penned, counted}

-- ---- the bytes so far

pub more_twice : (size m n : ℕ) (a b : Bool) → more (more size m a) n b ≡ more size (m + n) (a || b)
unfolding more
more_twice size m n true true = refl
more_twice size m n true false = omega arith
more_twice size m n false true = refl
more_twice size m n false false = omega arith

pub more_exact : (size n : ℕ) → size + n ≤ body_most → more size n false ≡ size + n
unfolding more
more_exact size n h = omega arith

-- ---- a field, by what its form lays out

module _ {A : Type 0} (F : Format A) (pool tape : List ℕ) (x : Result (ℕ × ℕ) Refusal) where
  pub stopped : (r : Refusal) → x ≡ Err r → Err r ≡ penned F pool tape x
  unfolding penned
  stopped r e = rw e

  module _ (size k : ℕ) (e : x ≡ Ok (size, k)) where
    pub refused_here : (r : Refusal) → F.form pool tape k ≡ refused r → Err r ≡ penned F pool tape x
    unfolding penned
    refused_here r f = rw (e, f)

    pub passed : (a : A) (j : ℕ) → F.form pool tape k ≡ found a j → (over : Bool) → F.too_large a ≡ over → (n : ℕ) → length (F.print a) ≡ n
        → (z : ℕ) → z ≡ more size n over → Ok (z, j) ≡ penned F pool tape x
    unfolding penned
    passed a j f over o n l z g = rw (e, f, o, l, g)

module _ (F : Format ℕ) (pool tape : List ℕ) (x : Result (ℕ × ℕ) Refusal) where
  pub count_stopped : (r : Refusal) → x ≡ Err r → Err r ≡ counted F pool tape x
  unfolding counted
  count_stopped r e = rw e

  module _ (size k : ℕ) (e : x ≡ Ok (size, k)) where
    pub count_refused : (r : Refusal) → F.form pool tape k ≡ refused r → Err r ≡ counted F pool tape x
    unfolding counted
    count_refused r f = rw (e, f)

    pub count_passed : (v j : ℕ) → F.form pool tape k ≡ found v j → (over : Bool) → F.too_large v ≡ over → (n : ℕ) → length (F.print v) ≡ n
        → (z : ℕ) → z ≡ more size n over → Ok ((z, j), v) ≡ counted F pool tape x
    unfolding counted
    count_passed v j f over o n l z g = rw (e, f, o, l, g)

-- ---- entries of the tape

module _ (tape : List ℕ) (k : ℕ) where
  pub entry_none : length tape ≤ k → Err (OutsideSet k) ≡ number_of (tape_entry tape k)
  unfolding tape_entry
  entry_none h = rw (lt-leb (k + 1) (length tape) (omega arith))

  pub entry_there : k < length tape → Ok (get_or tape k 0, k + 1) ≡ number_of (tape_entry tape k)
  unfolding tape_entry
  entry_there h = rw (le-leb (k + 1) (length tape) (omega arith))

-- a number below a bound and from lo to hi
abbrev pub kept : List ℕ → ℕ → ℕ → ℕ → ℕ → Reading ℕ
kept tape k bound lo hi = and_then (tape_entry tape k) (λ v j. need (ltb v bound && (leb lo v && leb v hi)) (OutsideSet k) (found v j))

module _ (tape : List ℕ) (k bound lo hi : ℕ) where
  pub kept_none : (r : Refusal) → Err r ≡ number_of (tape_entry tape k) → Err r ≡ number_of (kept tape k bound lo hi)
  kept_none r e = rw (number_refused (tape_entry tape k) r e)

  module _ (v j : ℕ) (e : Ok (v, j) ≡ number_of (tape_entry tape k)) where
    pub kept_large : bound ≤ v → Err (OutsideSet k) ≡ number_of (kept tape k bound lo hi)
    kept_large h = rw (number_found (tape_entry tape k) v j e, le-ltb v bound h)

    pub kept_outside : (v < bound) → (leb lo v && leb v hi) ≡ false → Err (OutsideSet k) ≡ number_of (kept tape k bound lo hi)
    kept_outside h f = rw (number_found (tape_entry tape k) v j e, lt-ltb v bound h, f)

    pub kept_is : v < bound → lo ≤ v → v ≤ hi → Ok (v, j) ≡ number_of (kept tape k bound lo hi)
    kept_is h l m = rw (number_found (tape_entry tape k) v j e, lt-ltb v bound h, le-leb lo v l, le-leb v hi m)

  pub kept_below : (v j : ℕ) → kept tape k bound lo hi ≡ found v j → v < bound
  kept_below v j e =
      let i = and_then_found (tape_entry tape k) _ v j e in
      let g = need_found (ltb i.0 bound && (leb lo i.0 && leb i.0 hi)) (OutsideSet k) _ v j i.3 in
      rw (← (found_inj g.1).0) (ltb-true i.0 bound (both _ _ g.0).0)

pub too_low : (lo hi v : ℕ) → v < lo → (leb lo v && leb v hi) ≡ false
too_low lo hi v h = rw (lt-leb lo v h)

pub too_high : (lo hi v : ℕ) → hi < v → (leb lo v && leb v hi) ≡ false
too_high lo hi v h = rw (lt-leb v hi h) (go (leb lo v))
  where
    go : (b : Bool) → (b && false) ≡ false
    go true = refl
    go false = refl

-- what a span's answer says of it
abbrev pub Spanned : List ℕ → List ℕ → ℕ → Result (ℕ × ℕ) Refusal → Type 0
Spanned pool tape k r =
    ((e : Refusal) → r ≡ Err e → span pool tape k ≡ refused e)
    × ((a n : ℕ) → r ≡ Ok (a, n) → (k + 2 ≤ length tape) × (a + n ≤ length pool) × (span pool tape k ≡ found (take n (drop a pool)) (k + 2)))

module _ (pool tape : List ℕ) (k : ℕ) where
  no_span : span pool tape k ≡ refused (OutsideSet k) → Spanned pool tape k (Err (OutsideSet k))
  no_span e =
      (λ r f. e ∙ ap refused (let z : OutsideSet k ≡ r = cc in z), λ a n f. absurd (let z : ◌≡◌ {A = ℕ} 0 1 = cc in omega arith))

  pub span_short : length tape < k + 2 → Spanned pool tape k (Err (OutsideSet k))
  unfolding span
  span_short h = no_span (rw (lt-leb (k + 2) (length tape) h))

  module _ (h : k + 2 ≤ length tape) where
    two_entries : span pool tape k
        ≡ need (leb (get_or tape k 0 + get_or tape (k + 1) 0) (length pool)) (OutsideSet k) (found (take (get_or tape (k + 1) 0) (drop (get_or tape k 0) pool)) (k + 2))
    unfolding span
    two_entries = rw (le-leb (k + 2) (length tape) h)

    pub span_outside : length pool < get_or tape k 0 + get_or tape (k + 1) 0 → Spanned pool tape k (Err (OutsideSet k))
    span_outside g = no_span (rw (two_entries, lt-leb (get_or tape k 0 + get_or tape (k + 1) 0) (length pool) g))

    pub span_there : get_or tape k 0 + get_or tape (k + 1) 0 ≤ length pool → Spanned pool tape k (Ok (get_or tape k 0, get_or tape (k + 1) 0))
    span_there g = (
      λ r f. absurd (let z : ◌≡◌ {A = ℕ} 0 1 = cc in omega arith),
      λ a n f.
          let i = ok_pair_inj f in
          (h, omega (arith, i.0, i.1), rw (two_entries, le-leb (get_or tape k 0 + get_or tape (k + 1) 0) (length pool) g, i.0, i.1)),
    )

pub span_length : (pool : List ℕ) (a n : ℕ) → a + n ≤ length pool → length (take n (drop a pool)) ≡ n
span_length pool a n h = length-take-le n (drop a pool) (simp length-drop (omega arith))
