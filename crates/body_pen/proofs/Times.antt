-- Laws of a pen through a time: a number of 40 bits that its judge finds right.
use Prim.Native.Nat.{ℕ, ◌^◌, ◌≤◌}
use Rattle.std.specs.Prelude.{Result, Ok, Err, Option, Some, None}
use mathlib.Core.Path.{◌≡◌, refl, sym, ap, ◌∙◌}
use mathlib.Core.List.{List, []}
use mathlib.Core.Bool.{Bool, true, false}
use native.Mathlib.Omega.{arith}
use lib.Dec.{ltb}
use borrow.Author.Tests.{ltb-false, le-leb, lt-ltb, ne_eqb}
use Rattle.ground_refusal.specs.declared.Refusal.{Refusal}
use Rattle.ground_refusal.specs.declared.Refusal.TheVariants.{OutsideSet}
use Rattle.time_fields.specs.declared.Moment.{Moment}
use Rattle.time_fields.specs.Field.{read_time, read_end, live_mark}
use Rattle.body_formats.specs.Reading.{Reading, found, refused, and_then, Fault, fine, faulty, unless, judged}
use Rattle.body_formats.specs.Format.{tape_entry, count, only, number}
use Rattle.body_formats.specs.Time.{time_fault, end_fault}
use Rattle.body_formats.specs.Answers.{number_of}
use Rattle.body_formats.proofs.Leaves.{length_bytes_lem}
use Rattle.body_formats.proofs.Readers.{number_found, number_refused}
use Rattle.body_pen.specs.Penned.{more, penned}
use Rattle.body_pen.proofs.Leaves.{refused_here, passed}
use Rattle.body_pen.proofs.Numbers.{only_below}

-- a number of more than 40 bits, which its judge refuses alike, need not be looked at before
judged_alone : (fault : ℕ → Fault) (at : ℕ) → ((v : ℕ) → 256 ^ 5 ≤ v → fault v ≡ faulty (OutsideSet at)) → (x : Reading ℕ)
    → and_then (and_then x (λ v j. judged (unless (ltb v (256 ^ 5)) (OutsideSet at)) (found v j))) (λ v j. judged (fault v) (found v j))
    ≡ and_then x (λ v j. judged (fault v) (found v j))
judged_alone fault at large (refused r) = refl
judged_alone fault at large (found v j) = go (ltb v (256 ^ 5)) refl
  where
    go : (b : Bool) → ltb v (256 ^ 5) ≡ b
        → and_then (judged (unless b (OutsideSet at)) (found v j)) (λ u i. judged (fault u) (found u i)) ≡ judged (fault v) (found v j)
    go true e = refl
    go false e = rw (large v (ltb-false v (256 ^ 5) e))

-- what is wrong with a start, and with an end
abbrev pub start_fault : ℕ → ℕ → Fault
start_fault v at = time_fault (read_time v at)

abbrev pub stop_fault : ℕ → ℕ → Fault
stop_fault v at = end_fault (read_end v at)

-- a time and the live mark are both right
pub end_known : (m : Option Moment) → end_fault (Ok m) ≡ fine
end_known (Some m) = refl
end_known None = refl

time_large : (v at : ℕ) → 256 ^ 5 ≤ v → read_time v at ≡ Err (OutsideSet at)
unfolding read_time
time_large v at h = rw (le-leb (2 ^ 40) v h)

pub start_large : (v at : ℕ) → 256 ^ 5 ≤ v → start_fault v at ≡ faulty (OutsideSet at)
start_large v at h = ap time_fault (time_large v at h)

pub stop_large : (v at : ℕ) → 256 ^ 5 ≤ v → stop_fault v at ≡ faulty (OutsideSet at)
unfolding read_end
stop_large v at h = rw (ne_eqb v live_mark (λ e. omega (arith, e)), time_large v at h)

-- one law for both, over what is wrong with a number
module _ (fault : ℕ → ℕ → Fault) (large : (v at : ℕ) → 256 ^ 5 ≤ v → fault v at ≡ faulty (OutsideSet at)) (tape : List ℕ) (k : ℕ) where
  timed_form : (pool : List ℕ) → (only fault (number 5)).form pool tape k ≡ and_then (tape_entry tape k) (λ v j. judged (fault v k) (found v j))
  unfolding number only count
  timed_form pool = judged_alone (λ v. fault v k) k (λ v h. large v k h) (tape_entry tape k)

  pub timed_none : (r : Refusal) → Err r ≡ number_of (tape_entry tape k) → Err r ≡ number_of ((only fault (number 5)).form [] tape k)
  timed_none r e = rw (timed_form [], number_refused (tape_entry tape k) r e)

  module _ (v j : ℕ) (e : Ok (v, j) ≡ number_of (tape_entry tape k)) where
    pub timed_no : (r : Refusal) → fault v k ≡ faulty r → Err r ≡ number_of ((only fault (number 5)).form [] tape k)
    timed_no r f = rw (timed_form [], number_found (tape_entry tape k) v j e, f)

    pub timed_is : fault v k ≡ fine → Ok (v, j) ≡ number_of ((only fault (number 5)).form [] tape k)
    timed_is f = rw (timed_form [], number_found (tape_entry tape k) v j e, f)

  module _ (pool : List ℕ) (x : Result (ℕ × ℕ) Refusal) (size : ℕ) (e : x ≡ Ok (size, k)) where
    any_pool : (only fault (number 5)).form pool tape k ≡ (only fault (number 5)).form [] tape k
    any_pool = timed_form pool ∙ sym (timed_form [])

    pub timed_refused : (r : Refusal) → Err r ≡ number_of ((only fault (number 5)).form [] tape k) → Err r ≡ penned (only fault (number 5)) pool tape x
    timed_refused r f =
        refused_here (only fault (number 5)) pool tape x size k e r (any_pool ∙ number_refused ((only fault (number 5)).form [] tape k) r f)

    pub timed_passed : (v j : ℕ) → Ok (v, j) ≡ number_of ((only fault (number 5)).form [] tape k) → (z : ℕ) → z ≡ more size 5 false
        → Ok (z, j) ≡ penned (only fault (number 5)) pool tape x
    unfolding number only count
    timed_passed v j f z ez =
        let g = any_pool ∙ number_found ((only fault (number 5)).form [] tape k) v j f in
        passed (only fault (number 5)) pool tape x size k e v j g false (rw (lt-ltb v (256 ^ 5) (only_below fault 5 pool tape k v j g)))
        5 (length_bytes_lem 5 v) z ez
