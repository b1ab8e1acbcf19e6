-- `month_of` meets its contract: the starts increase, so the months that start no later than the day come first, and its month is the last of them.
use mathlib.Core.Path.{◌≡◌}
use mathlib.Core.Bool.{true, false}
use mathlib.Core.List.{List}
use Prim.Native.Nat.{ℕ, suc, ◌-◌, ◌≤◌, ◌<◌}
use native.Mathlib.Decide.{dec_lt}
use native.Mathlib.Omega.{arith}
use lib.Dec.{leb}
use lib.ListN.{length}
use borrow.Author.Rules.{rules}
use borrow.Author.Tests.{leb-true, leb-false}
use Rattle.std.specs.List.Sorted.{IsPartitionPoint, IsNonDecreasingBy}
use Rattle.std.proofs.lemmas.List.Sorted.{IsPartitionPoint-from_clause, IsPartitionedBy-leb, IsNonDecreasingBy-from_default}
use Rattle.time_days.specs.Calendar.{month_start, IsMonths}
use Rattle.time_days.proofs.Months.{InMonth, start_first, start_end, start_le}
use Rattle.time_days.proofs.month_of.Goals as goal

rise : (ts : List ℕ) → IsMonths ts → length ts ≡ 1658 → IsNonDecreasingBy (λ s. s) ts
rise ts m e = IsNonDecreasingBy-from_default (λ s. s) ts 0 (λ i j h k. omega (arith, m.entry i (omega arith), m.entry j (omega arith), start_le i j h))

-- r months start no later than day n
month_at : (ts : List ℕ) (n r : ℕ) → IsMonths ts → length ts ≡ 1658 → 15079 ≤ n → n ≤ 65535 → r ≤ 1658
    → IsPartitionPoint (λ s. leb s n ≡ true) (λ s. leb s n ≡ false) ts r → (1 ≤ r) × InMonth n (r - 1)
month_at ts n r m e from until bound point = (some, record { from = here; until = before })
  where
    first : r ≡ 0 → ⊥
    first z = omega (arith, m.entry 0 (omega arith), start_first, leb-false _ _ (point.1 0 0 (omega arith) (omega arith)))

    some : 1 ≤ r
    some = elim (dec_lt 0 r) [ yes h ↦ h | no h ↦ absurd (first (omega arith)) ]

    here : month_start (r - 1) ≤ n
    here = omega (arith, m.entry (r - 1) (omega (arith, some)), leb-true _ _ (point.0 (r - 1) 0 (omega arith) (omega (arith, some))))

    before : n < month_start (suc (r - 1))
    before =
        let s : suc (r - 1) ≡ r = omega (arith, some) in
        rw s (elim (dec_lt r 1658) [
          | yes h ↦ omega (arith, m.entry r h, leb-false _ _ (point.1 r 0 (omega arith) (omega arith)))
          | no h ↦ let l : r ≡ 1658 = omega arith in rw l (omega (arith, start_end))
        ])

months : (c : goal.After-partition_point) → (1 ≤ c.partition_point.result) × InMonth c.args.day (c.partition_point.result - 1)
months c =
    let told = c.told-starts in
    let parted = IsPartitionedBy-leb (λ s. s) _ c.args.day (rise _ c.requires.0 told) in
    let point = IsPartitionPoint-from_clause (λ s. leb s c.args.day) _ _ c.partition_point.ensures.partitioned parted (λ a r q k. search rules) in
    month_at _ _ _ c.requires.0 told c.requires.1 c.requires.2 (omega arith) point

pub overflow_sub-result : goal.overflow_sub-result
overflow_sub-result c = (months c).0

pub returns : goal.returns
returns c = let m = months c in (omega arith, m.1.from, m.1.until)
