-- A form measured by a pen, and a writer's answer by what was measured.
use Prim.Native.Nat.{ℕ, ◌≤◌, ◌<◌}
use mathlib.Core.Path.{◌≡◌, refl, sym, ap, ◌∙◌}
use mathlib.Core.List.{List}
use mathlib.Core.Bool.{Bool, true, false, not}
use native.Mathlib.Omega.{arith}
use native.Mathlib.Nat.{zero-add}
use lib.ListN.{length}
use lib.Dec.{leb, ltb}
use borrow.Author.Tests.{leb-true, leb-false, lt-ltb, le-ltb}
use Rattle.std.specs.Prelude.{if◌then◌else◌, Result, Ok, Err}
use Rattle.ground_refusal.specs.declared.Refusal.{Refusal}
use Rattle.ground_refusal.specs.declared.Refusal.TheVariants.{OutsideSet, OutputTooSmall, TooLarge}
use Rattle.body_formats.specs.Reading.{Reading, found, refused, and_then, need}
use Rattle.body_formats.specs.Format.{Format}
use Rattle.body_formats.specs.Answers.{step_of}
use Rattle.ground_numbers.specs.Sizes.{body_most}
use Rattle.body_formats.specs.Body.{measuring, measured, fitting, writing, body_written, output_written}
use Rattle.body_pen.specs.Penned.{above_body, more, pen_onward, penned, form_measured, step_fitting}
use Rattle.body_pen.proofs.Leaves.{more_exact}

-- ---- a form measured

more_past : (n : ℕ) → body_most < n → more 0 n false ≡ above_body
unfolding more
more_past n h = omega arith

more_over : (n : ℕ) → more 0 n true ≡ above_body
unfolding more
more_over n = refl

-- the bytes counted, up to one more than a body may have, tell whether they are too many
sized : {A : Type 0} (a : A) (n : ℕ) (over : Bool)
    → (if ltb body_most (more 0 n over) then Err TooLarge else Ok (more 0 n over))
    ≡ step_of (need (not over) TooLarge (need (leb n body_most) TooLarge (found a n)))
sized a n true = rw (more_over n)
sized a n false = go (leb n body_most) refl
  where
    go : (b : Bool) → leb n body_most ≡ b
        → (if ltb body_most (more 0 n false) then Err TooLarge else Ok (more 0 n false)) ≡ step_of (need b TooLarge (found a n))
    go true e =
        let h = leb-true n body_most e in
        rw (more_exact 0 n (omega arith) ∙ zero-add n, le-ltb body_most n h)
    go false e = rw (more_past n (leb-false n body_most e))

module _ {A : Type 0} (F : Format A) (tape : List ℕ) where
  form_found : (a : A) (k : ℕ) → form_measured (length tape) (pen_onward F 0 (found a k))
      ≡ step_of (need (leb (length tape) k) (OutsideSet k)
      (need (not (F.too_large a)) TooLarge (need (leb (length (F.print a)) body_most) TooLarge (found a (length (F.print a))))))
  unfolding form_measured
  form_found a k = go (leb (length tape) k) refl
    where
      go : (b : Bool) → leb (length tape) k ≡ b
          → (if ltb k (length tape) then Err (OutsideSet k) else
          if ltb body_most (more 0 (length (F.print a)) (F.too_large a)) then Err TooLarge else Ok (more 0 (length (F.print a)) (F.too_large a)))
          ≡ step_of (need b (OutsideSet k)
          (need (not (F.too_large a)) TooLarge (need (leb (length (F.print a)) body_most) TooLarge (found a (length (F.print a))))))
      go true e = rw (le-ltb k (length tape) (leb-true (length tape) k e)) (sized a (length (F.print a)) (F.too_large a))
      go false e = rw (lt-ltb k (length tape) (leb-false (length tape) k e))

  form_refused : (r : Refusal) → form_measured (length tape) (Err r) ≡ Err r
  unfolding form_measured
  form_refused r = refl

  -- a pen past the whole form tells what is measured
  pub measured_is : (pool : List ℕ) → form_measured (length tape) (penned F pool tape (Ok (0, 0))) ≡ measured F pool tape
  unfolding penned measured measuring
  measured_is pool = go (F.form pool tape 0)
    where
      go : (x : Reading A) → form_measured (length tape) (pen_onward F 0 x)
          ≡ step_of (and_then x (λ a k. need (leb (length tape) k) (OutsideSet k)
          (need (not (F.too_large a)) TooLarge (need (leb (length (F.print a)) body_most) TooLarge (found a (length (F.print a)))))))
      go (found a k) = form_found a k
      go (refused r) = form_refused r

-- ---- a form written

-- what a writer answers and leaves
abbrev pub Wrote : {A : Type 0} → Format A → List ℕ → List ℕ → List ℕ → List ℕ → Result ℕ Refusal → Type 0
Wrote F pool tape out out' r = (r ≡ body_written F pool tape (length out)) × (out' ≡ output_written F pool tape out)

fitting_step : {A : Type 0} (room : ℕ) (x : Reading A) → step_fitting room (step_of x) ≡ step_of (fitting room x)
unfolding step_fitting
fitting_step room (found a n) = go (leb n room)
  where
    go : (b : Bool) → (if b then Ok n else Err OutputTooSmall) ≡ step_of (need b OutputTooSmall (found a n))
    go true = refl
    go false = refl
fitting_step room (refused r) = refl

module _ {A : Type 0} (F : Format A) (pool tape out : List ℕ) where
  pub fitted_is : step_fitting (length out) (measured F pool tape) ≡ step_of (writing F pool tape (length out))
  unfolding measured writing
  fitted_is = fitting_step (length out) (measuring F pool tape)

  pub write_refused : (e : Refusal) → step_fitting (length out) (measured F pool tape) ≡ Err e → Wrote F pool tape out out (Err e)
  unfolding body_written output_written
  write_refused e f = let w = go (writing F pool tape (length out)) (sym fitted_is ∙ f) in (rw w, rw w)
    where
      go : (y : Reading A) → step_of y ≡ Err e → y ≡ refused e
      go (found a n) g = absurd (let z : ◌≡◌ {A = ℕ} 0 1 = cc in omega arith)
      go (refused u) g = ap refused (let z : u ≡ e = cc in z)
