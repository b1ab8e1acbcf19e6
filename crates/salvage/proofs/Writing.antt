-- Laws of a loop that writes: what it has put already and what is left are the whole.
use Prim.Native.Nat.{ℕ, ◌+◌, ◌≤◌}
use mathlib.Core.List.{List, [], ◌++◌, append_assoc, append-nil}
use mathlib.Core.Path.{◌≡◌, refl, sym, ap, ◌∙◌}
use native.Mathlib.Omega.{arith}
use lib.ListN.{length, length-append}
use Rattle.ground_placing.specs.Put.{Put}
use Rattle.ground_placing.proofs.Putting.{put_length, put_none, put_then}

abbrev pub Writing : List ℕ → ℕ → List ℕ → ℕ → List ℕ → List ℕ → Type 0
Writing old at new next rest whole = (done : List ℕ) × Put old at done new next × (done ++ rest ≡ whole)

pub writing_starts : (d : List ℕ) (at : ℕ) (whole : List ℕ) → at ≤ length d → Writing d at d at whole whole
writing_starts d at whole h = ([], put_none d at h, refl)

module _ {d : List ℕ} {at : ℕ} {e : List ℕ} {a : ℕ} {rest whole : List ℕ} where
  -- what comes next has room
  pub writing_room : (xs ys : List ℕ) → Writing d at e a rest whole → rest ≡ xs ++ ys → at + length whole ≤ length d → a + length xs ≤ length e
  writing_room xs ys w k h =
      omega (arith, put_length w.1, w.1.after, ap length w.2, length-append w.0 rest, ap length k, length-append xs ys)

  pub writing_goes : (xs ys : List ℕ) {f : List ℕ} {b : ℕ} → Writing d at e a rest whole → rest ≡ xs ++ ys → Put e a xs f b → Writing d at f b ys whole
  writing_goes xs ys w k p = (w.0 ++ xs, put_then w.1 p, append_assoc w.0 xs ys ∙ ap (λ l. w.0 ++ l) (sym k) ∙ w.2)

  pub writing_ends : Writing d at e a rest whole → rest ≡ [] → Put d at whole e a
  writing_ends w k = rw (sym (append-nil w.0) ∙ sym (ap (λ l. w.0 ++ l) k) ∙ w.2) at w.1

-- how far it has come
pub writing_count : {d : List ℕ} {at : ℕ} {e : List ℕ} {a : ℕ} {whole : List ℕ} (rest : List ℕ) → Writing d at e a rest whole
    → a + length rest ≡ at + length whole
writing_count rest w = omega (arith, w.1.after, ap length w.2, length-append w.0 rest)
