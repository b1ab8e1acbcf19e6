-- Each way that reading a field goes, and what an accepted field holds.
use mathlib.Core.Path.{◌≡◌, refl, ap, sym, ◌∙◌}
use Rattle.std.specs.Prelude.{Result, Ok, Err, Some, None}
use mathlib.Core.Bool.{Bool, true, false, cond}
use Prim.Native.Nat.{ℕ, ◌^◌, ◌≤◌, ◌<◌}
use native.Mathlib.Omega.{arith}
use lib.Dec.{eqb}
use borrow.Author.Tests.{le-leb, lt-leb, leb-false, not-false, eq-eqb, ne_eqb}
use Rattle.ground_refusal.specs.declared.Refusal.{Refusal}
use Rattle.ground_refusal.specs.declared.Refusal.TheVariants.{DigitAboveNine, OutsideSet, ImpossibleDay}
use Rattle.time_fields.specs.declared.Moment.{Moment}
use Rattle.time_fields.specs.Field.{decimal_pair, is_decimal, possible, moment_of, read_time, read_end, as_end, live_mark}

-- one law for each way out of the two readers
module _ (f at : ℕ) where
  pub reads_too_wide : 2 ^ 40 ≤ f → read_time f at ≡ Err (OutsideSet at)
  unfolding read_time
  reads_too_wide w = simp (le-leb _ _ w)

  module _ (fits : f < 2 ^ 40) where
    pub reads_no_digit : is_decimal f ≡ false → read_time f at ≡ Err (DigitAboveNine at)
    unfolding read_time
    reads_no_digit d = simp (lt-leb _ _ fits, d)

    pub reads_impossible : is_decimal f ≡ true → possible f ≡ false → read_time f at ≡ Err (ImpossibleDay at)
    unfolding read_time
    reads_impossible d p = simp (lt-leb _ _ fits, d, p)

    pub reads_time : is_decimal f ≡ true → possible f ≡ true → read_time f at ≡ Ok (moment_of f)
    unfolding read_time
    reads_time d p = simp (lt-leb _ _ fits, d, p)

  pub end_live : f ≡ live_mark → read_end f at ≡ Ok None
  unfolding read_end
  end_live e = simp (eq-eqb _ _ e)

  pub end_timed : (f ≡ live_mark → ⊥) → read_end f at ≡ as_end (read_time f at)
  unfolding read_end
  end_timed n = simp (ne_eqb _ _ n)

-- the live mark is no time
pub live_no_time : (at : ℕ) → read_time live_mark at ≡ Err (DigitAboveNine at)
unfolding read_time is_decimal decimal_pair
live_no_time at = refl

-- a field that is accepted, and the moment that it holds
pub record Accepted (f : ℕ) (m : Moment) : Type 0 where
  pub fits : f < 2 ^ 40
  pub digits : is_decimal f ≡ true
  pub time : possible f ≡ true
  pub is : m ≡ moment_of f

-- a test that refuses was not met where a moment came
passed : (b : Bool) (r : Refusal) (t : Result Moment Refusal) (m : Moment) → cond b (Err r) t ≡ Ok m → (b ≡ false) × (t ≡ Ok m)
passed true r t m e = (cc, cc)
passed false r t m e = (refl, e)

pub accepted_only : (f at : ℕ) {m : Moment} → read_time f at ≡ Ok m → Accepted f m
unfolding read_time
accepted_only f at {m} e =
    let a = passed _ _ _ m e in
    let b = passed _ _ _ m a.1 in
    let d = passed _ _ _ m b.1 in
    record { fits = leb-false _ _ a.0; digits = not-false _ b.0; time = not-false _ d.0; is = cc }

pub accepted : {f : ℕ} {m : Moment} (at : ℕ) → Accepted f m → read_time f at ≡ Ok m
accepted at a = reads_time _ at a.fits a.digits a.time ∙ ap Ok (sym a.is)

-- an end that is a moment was read as a time is
at_end : (live : Bool) (t : Result Moment Refusal) (m : Moment) → cond live (Ok None) (as_end t) ≡ Ok (Some m) → t ≡ Ok m
at_end true t m e = cc
at_end false (Ok n) m e = cc
at_end false (Err r) m e = cc

pub end_only : (f at : ℕ) {m : Moment} → read_end f at ≡ Ok (Some m) → read_time f at ≡ Ok m
unfolding read_end
end_only f at {m} e = at_end (eqb f live_mark) (read_time f at) m e

pub end_accepted : {f : ℕ} {m : Moment} (at : ℕ) → Accepted f m → read_end f at ≡ Ok (Some m)
end_accepted {f} {m} at a = end_timed f at not_live ∙ ap as_end (accepted at a)
  where
    not_live : f ≡ live_mark → ⊥
    not_live e =
        let t : read_time f at ≡ Ok m = accepted at a in
        let n : read_time live_mark at ≡ Err (DigitAboveNine at) = live_no_time at in
        let z : ◌≡◌ {A = ℕ} 0 1 = cc in
        omega arith
