-- Bytes laid into a list, and the parts that lie on them and beside them.
use Prim.Native.Nat.{ℕ, ◌+◌, ◌-◌, ◌≤◌}
use mathlib.Core.Path.{◌≡◌, sym, ◌∙◌, ap}
use mathlib.Core.List.{List, ◌++◌, append_assoc}
use native.Mathlib.Omega.{arith}
use lib.ListN.{length, take, drop, length-take, length-drop, take-append-drop}
use lib.Seq.{drop-drop, take-append-le, drop-append-le, take-append_seam, drop_at}
use Rattle.ground_placing.specs.Placed.{placed}
use Rattle.ground_placing.proofs.Placing.{placed_back}
use Rattle.gathering_state.specs.Lists.{part}

front_part : (a x : List ℕ) (i n : ℕ) → i + n ≤ length a → part (a ++ x) i n ≡ part a i n
unfolding part
front_part a x i n h =
    let l : i ≤ length a = omega arith in
    let m : n ≤ length (drop i a) = simp length-drop (omega arith) in
    rw (drop-append-le i a x l, take-append-le n (drop i a) x m)

module _ (d : List ℕ) (at : ℕ) (s : List ℕ) (h : at + length s ≤ length d) where
  pub part_same : part (placed d at s) at (length s) ≡ s
  unfolding part placed
  part_same =
      let l : length (take at d) ≡ at = simp length-take (omega arith) in
      rw (append_assoc, drop_at (take at d) (s ++ drop (at + length s) d) at l) (take-append_seam s (drop (at + length s) d))

  pub part_before : (i n : ℕ) → i + n ≤ at → part (placed d at s) i n ≡ part d i n
  unfolding placed
  part_before i n f =
      let l : i + n ≤ length (take at d) = simp length-take (omega arith) in
      rw append_assoc
      (front_part (take at d) (s ++ drop (at + length s) d) i n l ∙ sym (front_part (take at d) (drop at d) i n l) ∙ rw (take-append-drop at d))

  pub part_after_lem : (i n : ℕ) → at + length s ≤ i → part (placed d at s) i n ≡ part d i n
  unfolding part
  part_after_lem i n f =
      let k = i - (at + length s) in
      let m : i ≡ at + length s + (i - (at + length s)) = omega arith in
      ap (take n) (rw m (sym (drop-drop k (at + length s) (placed d at s)) ∙ ap (drop k) (placed_back d at s h) ∙ drop-drop k (at + length s) d))
