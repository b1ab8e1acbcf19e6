-- Laws of things that a form lays out one after the other, as loops pass them.
use Prim.Native.Nat.{ℕ, suc, ◌+◌, ◌-◌, ◌*◌, ◌^◌, ◌≤◌, ◌<◌}
use mathlib.Core.Path.{◌≡◌, refl, ◌∙◌}
use mathlib.Core.List.{List, [], ◌∷◌}
use native.Mathlib.Omega.{arith}
use lib.ListN.{length, get_or, length-append}
use Rattle.body_formats.specs.Format.{Format, repeat, print_all, some, times, list_of}
use Rattle.body_formats.specs.Resource.{resource}
use Rattle.body_formats.proofs.Elements.{repeat_length}
use Rattle.body_form_glance.specs.Lays.{Lays, Listed}
use Rattle.body_form_glance.proofs.Forms.{lays_to, lays_count}

-- ---- so many

pub lays_none : {A : Type 0} (F : Format A) (pool tape : List ℕ) (k : ℕ) → Lays (times 0 F) pool tape k [] k 0
unfolding times repeat print_all some
lays_none F pool tape k = record { laid = refl; long = refl; small = refl }

pub lays_more : {A : Type 0} {F : Format A} {pool tape : List ℕ} {k : ℕ} {a : A} {j m : ℕ} (n : ℕ) {xs : List A} {i l : ℕ} → Lays F pool tape k a j m
    → Lays (times n F) pool tape j xs i l → Lays (times (suc n) F) pool tape k (a ∷ xs) i (m + l)
unfolding times repeat print_all some
lays_more n f g = record { laid = rw (f.laid, g.laid); long = rw (length-append, f.long, g.long); small = rw (f.small, g.small) }

-- after their count
pub lays_list : {A : Type 0} {C : Format ℕ} (F : Format A) {pool tape : List ℕ} {k n j m : ℕ} {xs : List A} {i l : ℕ} → Lays C pool tape k n j m
    → Lays (times n F) pool tape j xs i l → Lays (list_of C F) pool tape k xs i (m + l)
unfolding list_of times
lays_list {A} {C} F {pool} {tape} {k} {n} {j} {m} {xs} {i} {l} c g =
    let e : length xs ≡ n = repeat_length (F.form pool tape) n j xs i g.laid in
    record { laid = rw c.laid g.laid; long = rw (length-append, e, c.long, g.long); small = rw (e, c.small, g.small) }

-- A loop under way: of n things from k on, i are past, and the others are still to come, from `at` on, after so many bytes. Whatever these are, they make the
-- whole.
abbrev pub Coming : {A : Type 0} → Format A → List ℕ → List ℕ → ℕ → ℕ → ℕ → ℕ → ℕ → Type 0
Coming {A} F pool tape n k i at bytes =
    (xs : List A) (j m : ℕ) → Lays (times (n - i) F) pool tape at xs j m → (ys : List A) × Lays (times n F) pool tape k ys j (bytes + m)

pub coming_start : {A : Type 0} (F : Format A) {pool tape : List ℕ} (n : ℕ) {k : ℕ} (at bytes : ℕ) → at ≡ k → bytes ≡ 0 → Coming F pool tape n k 0 at bytes
coming_start F {pool} {tape} n {k} at bytes e f xs j m l =
    let z : n - 0 ≡ n = omega arith in
    let b : m ≡ bytes + m = omega arith in
    (xs, lays_to refl b (rw z at (rw e at l)))

module _ {A : Type 0} (F : Format A) {pool tape : List ℕ} (n : ℕ) {k : ℕ} (i at bytes : ℕ) (c : Coming F pool tape n k i at bytes) where
  pub coming_turn : {j m : ℕ} (at' next : ℕ) → at' ≡ j → next ≡ bytes + m → i < n → (a : A) × Lays F pool tape at a j m → Coming F pool tape n k (i + 1) at' next
  coming_turn {j} {m} at' next s e h g xs t l r =
      let z : suc (n - (i + 1)) ≡ n - i = omega arith in
      let whole = c (g.0 ∷ xs) t (m + l) (rw z at (lays_more (n - (i + 1)) g.1 (rw s at r))) in
      let same : bytes + (m + l) ≡ next + l = omega arith in
      (whole.0, rw same at whole.1)

  pub coming_done : n ≤ i → (ys : List A) × Lays (times n F) pool tape k ys at bytes
  coming_done e =
      let z : n - i ≡ 0 = omega arith in
      let whole = c [] at 0 (rw z (lays_none F pool tape at)) in
      let same : bytes + 0 ≡ bytes = omega arith in
      (whole.0, rw same at whole.1)

-- ---- a list of resources at a glance

pub none_listed : {pool tape : List ℕ} {k : ℕ} → Listed pool tape k 0
none_listed = record { few = omega arith; inside = λ n e. absurd (omega arith); good = λ n e. absurd (omega arith) }

pub all_listed : {pool tape : List ℕ} {k n : ℕ} → n ≡ get_or tape k 0 → k < length tape → n < 256 → k + 1 + n * 2 ≤ length tape
    → (xs : List (List ℕ)) × Lays (times n resource) pool tape (k + 1) xs (k + 1 + n * 2) (n * 12) → Listed pool tape k (n + 1)
all_listed {pool} {tape} {k} {n} e h s l g =
    record {
      few = omega arith;
      inside = λ m f. omega arith;
      good = λ m f. let z : n ≡ m = omega arith in (g.0, rw z at (lays_list resource (lays_count e h 1 s) g.1));
    }
