-- A whole body laid onto a tape: the answer, and what the tape then holds.
use Prim.Native.Nat.{ℕ, ◌≤◌, ◌<◌}
use Rattle.std.specs.Prelude.{Result, Ok, Err}
use mathlib.Core.Path.{◌≡◌, ap}
use mathlib.Core.List.{List}
use native.Mathlib.Omega.{arith}
use lib.ListN.{length}
use borrow.Author.Tests.{le-leb, lt-leb}
use Rattle.ground_placing.specs.Placed.{placed}
use Rattle.ground_refusal.specs.declared.Refusal.{Refusal}
use Rattle.ground_refusal.specs.declared.Refusal.TheVariants.{OutputTooSmall}
use Rattle.body_formats.specs.Reading.{Reading, found, refused}
use Rattle.body_formats.specs.Format.{Format}
use Rattle.body_formats.specs.Body.{reading, body_read, laying, body_laid, laid_tape}
use Rattle.body_formats.specs.Answers.{step_of}

-- the table of an accepted body
module _ {A : Type 0} (F : Format A) (own kind : ℕ) (s : List ℕ) (q : ℕ) (e : Ok q ≡ body_read F own kind s) where
  pub table : (a : A) × (reading F own kind s ≡ found a q)
  unfolding body_read
  table = go (reading F own kind s) e
    where
      go : (x : Reading A) → Ok q ≡ step_of x → (a : A) × (x ≡ found a q)
      go (found a r) g = (a, ap (found a) (let z : r ≡ q = cc in z))
      go (refused r) g = absurd (let z : ◌≡◌ {A = ℕ} 0 1 = cc in omega arith)

-- the answer, and what the tape then holds
pub record LaidOut {A : Type 0} (F : Format A) (own kind : ℕ) (s tape now : List ℕ) (r : Result ℕ Refusal) : Type 0 where
  pub said : r ≡ body_laid F own kind s (length tape)
  pub left : now ≡ laid_tape F own kind s tape

module _ {A : Type 0} (F : Format A) (own kind : ℕ) (s tape : List ℕ) where
  pub laid_no : (r : Refusal) → Err r ≡ body_read F own kind s → LaidOut F own kind s tape tape (Err r)
  unfolding body_read body_laid laid_tape laying
  laid_no r e =
      let x : reading F own kind s ≡ refused r = go (reading F own kind s) e in
      record { said = rw x; left = rw x }
    where
      go : (x : Reading A) → Err r ≡ step_of x → x ≡ refused r
      go (refused t) g = let a : t ≡ r = cc in ap refused a
      go (found a q) g = absurd (let z : ◌≡◌ {A = ℕ} 0 1 = cc in omega arith)

  module _ (q : ℕ) (e : Ok q ≡ body_read F own kind s) where
    pub laid_small : (n : ℕ) → n ≡ length (F.tape (table F own kind s q e).0 0) → length tape < n → LaidOut F own kind s tape tape (Err OutputTooSmall)
    unfolding body_laid laid_tape laying
    laid_small n z h =
        let t = lt-leb (length (F.tape (table F own kind s q e).0 0)) (length tape) (omega arith) in
        record { said = rw ((table F own kind s q e).1, t); left = rw ((table F own kind s q e).1, t) }

    pub laid_done : (n : ℕ) → n ≡ length (F.tape (table F own kind s q e).0 0) → n ≤ length tape → (now : List ℕ) → now ≡ placed tape 0 (F.tape (table F own kind s q e).0 0)
        → LaidOut F own kind s tape now (Ok n)
    unfolding body_laid laid_tape laying
    laid_done n z h now u =
        let t = le-leb (length (F.tape (table F own kind s q e).0 0)) (length tape) (omega arith) in
        record { said = rw ((table F own kind s q e).1, t) (ap Ok z); left = rw ((table F own kind s q e).1, t) u }
