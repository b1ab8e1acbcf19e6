-- The table's rule: one computed test, that each entry is the one before it and that month's length, carried to every entry.
use mathlib.Core.Path.{◌≡◌, sym, ap, ◌∙◌}
use mathlib.Core.Bool.{Bool, true, ◌&&◌}
use mathlib.Core.List.{List, [], ◌∷◌}
use Prim.Native.Nat.{ℕ, zero, suc, ◌+◌, ◌<◌}
use native.Mathlib.Nat.{not-suc-le-zero, le_of_suc-le-suc, add-zero, add-suc, suc-add, zero-add}
use lib.Dec.{T, eqb, eqb→eq}
use lib.ListN.{length, get_or}
use Rattle.time_days.specs.Calendar.{days_of, month_start, IsMonths}
use Rattle.ground_choices.proofs.Tests.{both_hold}
use Rattle.time_days.proofs.Months.{start_first, start_next}

-- the entries from month i on, of which the first is to be x
abbrev pub chain : ℕ → ℕ → List ℕ → Bool
chain i x [] = true
chain i x (y ∷ ys) = eqb y x && chain (suc i) (y + days_of i) ys

from : (ys : List ℕ) (i x : ℕ) → x ≡ month_start i → T (chain i x ys) → (k : ℕ) → k < length ys → get_or ys k 0 ≡ month_start (i + k)
from [] i x e t k h = absurd (not-suc-le-zero h)
from (y ∷ ys) i x e t zero h =
    let p = both_hold (eqb y x) (chain (suc i) (y + days_of i) ys) t in
    eqb→eq y x p.0 ∙ e ∙ ap month_start (sym (add-zero i))
from (y ∷ ys) i x e t (suc k) h =
    let p = both_hold (eqb y x) (chain (suc i) (y + days_of i) ys) t in
    let next = ap (λ (z : ℕ). z + days_of i) (eqb→eq y x p.0 ∙ e) ∙ sym (start_next i) in
    from ys (suc i) (y + days_of i) next p.1 k (le_of_suc-le-suc h) ∙ ap month_start (suc-add i k ∙ sym (add-suc i k))

pub equals : (ts : List ℕ) → T (chain 0 15079 ts) → length ts ≡ 1658 → IsMonths ts
equals ts t e = record { entry = λ k h. from ts 0 15079 (sym start_first) t k (rw e h) ∙ ap month_start (zero-add k) }
