-- Numbers of one byte to four.
use Prim.Native.Nat.{ℕ, ◌+◌, ◌-◌, ◌*◌, ◌≤◌, ◌<◌}
use mathlib.Core.Path.{◌≡◌, refl, ap, ◌∙◌}
use mathlib.Core.List.{List}
use native.Mathlib.Nat.{add-zero, add-sub_cancel_left}
use native.Mathlib.Omega.{arith}
use Rattle.std.specs.Prelude.{Option, Some, None, Ok, Err}
use lib.ListN.{length, get_or, take, drop, length-drop}
use lib.Seq.{length-take-le, get_or-take, get_or-drop}
use Rattle.ground_refusal.specs.declared.Refusal.{Refusal}
use Rattle.time_fields.specs.declared.Moment.{Moment}
use Rattle.body_formats.specs.Reading.{found, fine}
use Rattle.body_formats.specs.Format.{number_at, count}
use Rattle.body_formats.specs.Time.{end_fault}
use Rattle.body_formats.specs.Answers.{reached, number_read}
use Rattle.body_formats.proofs.Strings.{end_no}

pub number_one : (s : List ℕ) (p w r : ℕ) → w ≡ 1 → r ≡ get_or s p 0 → r ≡ number_at s p w
unfolding number_at
number_one s p w r e h = let z : get_or s (p + 0) 0 ≡ get_or s p 0 = ap (λ i. get_or s i 0) (add-zero p) in rw e (omega arith)

pub number_two : (s : List ℕ) (p : ℕ) {a b : ℕ} → a ≡ get_or s p 0 → b ≡ get_or s (p + 1) 0 → a * 256 + b ≡ number_at s p 2
unfolding number_at
number_two s p h k = rw add-zero (omega arith)

module _ (s : List ℕ) (p w : ℕ) {m c : ℕ} (h : m ≡ number_at s p 2) (k : c ≡ get_or s (p + 2) 0) where
  pub number_three : w ≡ 3 → m * 256 + c ≡ number_at s p w
  unfolding number_at
  number_three e = rw e (omega arith)

  pub number_four : {d : ℕ} → w ≡ 4 → d ≡ get_or s (p + 3) 0 → (m * 256 + c) * 256 + d ≡ number_at s p w
  unfolding number_at
  number_four e l = rw e (omega arith)

-- a number that does not end where it must is refused
pub number_no : (s : List ℕ) (l p w : ℕ) (r : Refusal) → Err r ≡ reached s l p (p + w) → Err r ≡ number_read w s l p
unfolding number_read count
number_no s l p w r e = rw (end_no s l p (p + w) (found (number_at s p w) (p + w)) r e)

-- nothing is wrong with an end that crate times takes, live or not
pub end_fine : (m : Option Moment) → end_fault (Ok m) ≡ fine
end_fine None = refl
end_fine (Some m) = refl

-- a run over the w bytes at p has w turns, and comes to the byte at p + k in turn k
module _ (s : List ℕ) (p w : ℕ) where
  pub slice_length : p + w ≤ length s → length (take (p + w - p) (drop p s)) ≡ w
  slice_length h = ap (λ m. length (take m (drop p s))) (add-sub_cancel_left p w) ∙ length-take-le w (drop p s) (simp length-drop (omega arith))

  pub slice_byte : (k : ℕ) → p + w ≤ length s → k < length (take (p + w - p) (drop p s)) → get_or (take (p + w - p) (drop p s)) k 0 ≡ get_or s (p + k) 0
  slice_byte k h t = get_or-take (p + w - p) (drop p s) k 0 (omega (arith, slice_length h)) ∙ get_or-drop p s k 0
