-- What is asked of a format: what is printed reads back as itself, what was read prints back to its bytes, and both by its form.
use Prim.Native.Nat.{ℕ, ◌+◌, ◌≤◌, ◌<◌}
use mathlib.Core.Path.{◌≡◌, subst₂}
use mathlib.Core.List.{List}
use mathlib.Core.Bool.{true, false}
use lib.ListN.{length, get_or}
use Rattle.body_formats.specs.Reading.{found}
use Rattle.body_formats.specs.Format.{Format}
use Rattle.body_formats.proofs.Stand.{Stands}

-- every element is a byte
abbrev pub Bytes : List ℕ → Type 0
Bytes s = (i : ℕ) → get_or s i 0 < 256

-- a well-formed value: a writer refuses no field of it, and no count or length is too large
pub record Proper {A : Type 0} (F : Format A) (a : A) : Type 0 where
  pub writable : F.writable a ≡ true
  pub small : F.too_large a ≡ false

-- a is well-formed and its bytes stand at p, up to q, in the part that ends at l
pub record Found {A : Type 0} (F : Format A) (s : List ℕ) (l p : ℕ) (a : A) (q : ℕ) : Type 0 where
  pub ok : Proper F a
  pub stands : Stands s p (F.print a)
  pub next : q ≡ p + length (F.print a)
  pub inside : q ≤ l

-- whatever is read was found
abbrev pub Forth : {A : Type 0} → Format A → Type 0
Forth {A} F =
    (s : List ℕ) (l p : ℕ) (a : A) (q : ℕ) → Bytes s → l ≤ length s → p ≤ l → F.parse s l p ≡ found a q → Found F s l p a q

-- `sound`: a form lays out right values only. `laid`: the tape of a right value is its form, in any pool where its bytes stand.
-- `steady`: how many entries a value has does not depend on where its bytes stand.
pub record Formal {A : Type 0} (F : Format A) : Type 0 where
  pub sound : (pool tape : List ℕ) (k : ℕ) (a : A) (j : ℕ) → F.form pool tape k ≡ found a j → F.writable a ≡ true
  pub laid : (pool : List ℕ) (p : ℕ) (tape : List ℕ) (k : ℕ) (a : A) → F.writable a ≡ true
      → Stands pool p (F.print a) → p + length (F.print a) ≤ length pool
      → Stands tape k (F.tape a p) → k + length (F.tape a p) ≤ length tape
      → F.form pool tape k ≡ found a (k + length (F.tape a p))
  pub steady : (a : A) (p : ℕ) → length (F.tape a p) ≡ length (F.tape a 0)

-- a format that says itself where it ends
pub record Lawful {A : Type 0} (F : Format A) : Type 0 where
  pub back : (s : List ℕ) (l p : ℕ) (a : A) → Proper F a → Stands s p (F.print a) → p + length (F.print a) ≤ l → l ≤ length s
      → F.parse s l p ≡ found a (p + length (F.print a))
  pub forth : Forth F
  pub formal : Formal F

-- a format that reaches to the end of its part
pub record Filling {A : Type 0} (F : Format A) : Type 0 where
  pub back : (s : List ℕ) (l p : ℕ) (a : A) → Proper F a → Stands s p (F.print a) → p + length (F.print a) ≡ l → l ≤ length s
      → F.parse s l p ≡ found a l
  pub forth : Forth F
  pub ends : (s : List ℕ) (l p : ℕ) (a : A) (q : ℕ) → Bytes s → l ≤ length s → p ≤ l → F.parse s l p ≡ found a q → q ≡ l
  pub formal : Formal F

pub moved : {A : Type 0} (F : Format A) (s : List ℕ) (l p : ℕ) {a b : A} {q r : ℕ} → (a ≡ b) × (q ≡ r) → Found F s l p a q → Found F s l p b r
moved {A} F s l p e f = subst₂ (λ (x : A) (k : ℕ). Found F s l p x k) e.0 e.1 f
