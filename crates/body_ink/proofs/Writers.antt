-- A form that was measured and fits is ready to be inked, and inked it is what a writer answers and leaves.
use Prim.Native.Nat.{ℕ}
use Rattle.std.specs.Prelude.{Result, Ok, Err}
use mathlib.Core.Path.{◌≡◌, sym, ap, ◌∙◌}
use mathlib.Core.List.{List}
use native.Mathlib.Omega.{arith}
use lib.ListN.{length}
use Rattle.ground_refusal.specs.declared.Refusal.{Refusal}
use Rattle.body_formats.specs.Reading.{Reading, found, refused}
use Rattle.body_formats.specs.Format.{Format}
use Rattle.body_formats.specs.Answers.{step_of}
use Rattle.body_formats.specs.Body.{measured, writing, body_written, output_written}
use Rattle.body_formats.proofs.RoundTrips.{measured_value, written_measured}
use Rattle.body_pen.specs.Penned.{step_fitting}
use Rattle.body_pen.proofs.Writers.{fitted_is, write_refused, Wrote}
use Rattle.body_ink.specs.Inked.{Ready, Inked, Whole}

pub whole : {A : Type 0} {F : Format A} {pool tape out : List ℕ} {end next : ℕ} {out' : List ℕ} → Inked F pool tape 0 0 out end next out'
    → Whole F pool tape out out'
whole {A} {F} {pool} {tape} {out} {end} {next} i = record { end = end; next = next; inked = i }

module _ {A : Type 0} (F : Format A) (pool tape out : List ℕ) (size : ℕ) (e : step_fitting (length out) (measured F pool tape) ≡ Ok size) where
  told : (a : A) × (writing F pool tape (length out) ≡ found a size)
  told = go (writing F pool tape (length out)) (sym (fitted_is F pool tape out) ∙ e)
    where
      go : (y : Reading A) → step_of y ≡ Ok size → (a : A) × (y ≡ found a size)
      go (found a n) g = (a, ap (found a) (let z : n ≡ size = cc in z))
      go (refused u) g = absurd (let z : ◌≡◌ {A = ℕ} 0 1 = cc in omega arith)

  pub write_ready : Ready F pool tape 0 0 (length out)
  write_ready =
      let w = told in
      let fits = written_measured F pool tape (length out) w.0 size w.1 in
      let v = measured_value F pool tape w.0 size fits.0 in
      record { value = w.0; next = v.0; laid = v.1; fits = omega (arith, v.3, fits.1); short = omega (arith, v.3, v.4) }

  pub write_inked : {out' : List ℕ} → Whole F pool tape out out' → Wrote F pool tape out out' (Ok size)
  unfolding body_written output_written told write_ready
  write_inked i =
      let w = told in
      let g = write_ready in
      (rw w.1, rw w.1 (i.inked.written g.value g.next g.laid g.fits).2)

-- the same by what a writer's code knows: what it measured, what fitted that to the room, and how that came out
module _ {A : Type 0} (F : Format A) (pool tape out : List ℕ) {m x : Result ℕ Refusal} (p : m ≡ measured F pool tape) (q : x ≡ step_fitting (length out) m) where
  pub as_fitted : step_fitting (length out) (measured F pool tape) ≡ x
  as_fitted = sym (q ∙ ap (step_fitting (length out)) p)

  pub none_written : {e : Refusal} {r : Result ℕ Refusal} → x ≡ Err e → r ≡ Err e → Wrote F pool tape out out r
  none_written {e} f g = rw g (write_refused F pool tape out e (as_fitted ∙ f))

  pub ready_to_write : {size : ℕ} → x ≡ Ok size → Ready F pool tape 0 0 (length out)
  ready_to_write {size} f = write_ready F pool tape out size (as_fitted ∙ f)

  pub all_written : {size : ℕ} → x ≡ Ok size → {out' : List ℕ} → Whole F pool tape out out' → Wrote F pool tape out out' (Ok size)
  all_written {size} f i = write_inked F pool tape out size (as_fitted ∙ f) i
