-- Laws of missing numbers: the search that stops at the first, and the count, one number a turn.
use Prim.Native.Nat.{ℕ, suc, ◌+◌, ◌-◌, ◌≤◌, ◌<◌}
use mathlib.Core.Bool.{true, false}
use mathlib.Core.List.{List}
use mathlib.Core.Path.{◌≡◌, refl, sym, ap, ◌∙◌}
use native.Mathlib.Omega.{arith}
use native.Mathlib.Numerals.{add-one}
use native.Mathlib.Nat.{add-zero}
use Rattle.gathering_account.specs.Account.{Section as Carried}
use Rattle.gathering_account.specs.Answering.{present}
use Rattle.teaching_questions.specs.Questions.{absent_from, absent_count}

absent_first : (k n : ℕ) (S : List Carried) → present k S ≡ false → absent_from k (suc n) S ≡ k
unfolding absent_from
absent_first k n S e = rw e

absent_later : (k n : ℕ) (S : List Carried) → present k S ≡ true → absent_from k (suc n) S ≡ absent_from (suc k) n S
unfolding absent_from
absent_later k n S e = rw e

pub absent_start : (n : ℕ) (S : List Carried) → absent_from 0 (n - 0) S ≡ absent_from 0 n S
absent_start n S = let e : n - 0 ≡ n = omega arith in ap (λ m. absent_from 0 m S) e

module _ (S : List Carried) (count k : ℕ) (inv : absent_from k (count - k) S ≡ absent_from 0 count S) where
  module _ (h : k < count) where
    more : count - k ≡ suc (count - (k + 1))
    more = omega arith

    pub absent_found : present k S ≡ false → k ≡ absent_from 0 count S
    absent_found e = sym (ap (λ n. absent_from k n S) more ∙ absent_first k _ S e) ∙ inv

    pub absent_on : present k S ≡ true → absent_from (k + 1) (count - (k + 1)) S ≡ absent_from 0 count S
    absent_on e =
        ap (λ j. absent_from j (count - (k + 1)) S) (add-one k) ∙ sym (ap (λ n. absent_from k n S) more ∙ absent_later k _ S e) ∙ inv

  pub absent_end : count ≤ k → k ≡ absent_from 0 count S
  unfolding absent_from
  absent_end h = let z : count - k ≡ 0 = omega arith in sym (ap (λ n. absent_from k n S) z) ∙ inv

-- ---- the count

pub count_start : (S : List Carried) → 0 ≡ absent_count 0 S
unfolding absent_count
count_start S = refl

module _ (S : List Carried) (k n : ℕ) (inv : n ≡ absent_count k S) where
  pub count_one : present k S ≡ false → n + 1 ≡ absent_count (k + 1) S
  unfolding absent_count
  count_one e = rw (add-one k, e, inv)

  pub count_none : present k S ≡ true → n ≡ absent_count (k + 1) S
  unfolding absent_count
  count_none e = rw (add-one k, e) (inv ∙ sym (add-zero (absent_count k S)))

  pub count_end : (count : ℕ) → k ≡ count → n ≡ absent_count count S
  count_end count e = inv ∙ ap (λ j. absent_count j S) e
