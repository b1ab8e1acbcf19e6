-- Laws of a copy by pieces: bytes held in an array, a piece laid over what stands there, and so one that goes on from there or two that overlap.
use Prim.Native.Nat.{ℕ, ◌+◌, ◌-◌, ◌≤◌}
use mathlib.Core.List.{List, ◌++◌, append-nil}
use mathlib.Core.Path.{◌≡◌, sym, ap, ap₂, ◌∙◌}
use native.Mathlib.Omega.{arith}
use lib.ListN.{length, take, drop, length-append, length-drop}
use lib.Seq.{length-take-le, take-append-le, take-take, take-add, drop-drop, take_all, drop-length}
use Rattle.ground_placing.specs.Placed.{placed}
use Rattle.ground_placing.proofs.Placing.{placed_next, placed_back, placed_length, placed_start, placed_whole}

-- a piece that fills its array is the array
held_is : (d s : List ℕ) → length d ≡ length s → placed d 0 s ≡ s
held_is d s e = placed_whole d s ∙ ap (λ n. s ++ drop n d) (sym e) ∙ ap (λ l. s ++ l) (drop-length d) ∙ append-nil s

-- bytes laid over others at the same place, at least as many
over : (d : List ℕ) (at : ℕ) (s t : List ℕ) → at + length s ≤ length d → length s ≤ length t → placed (placed d at s) at t ≡ placed d at t
unfolding placed
over d at s t room h =
    ap₂ (λ a b. a ++ t ++ b) front back
  where
    front : take at (take at d ++ s ++ drop (at + length s) d) ≡ take at d
    front =
        take-append-le at (take at d ++ s) (drop (at + length s) d) (simp length-append (omega (arith, length-take-le at d (omega arith))))
        ∙ take-append-le at (take at d) s (omega (arith, length-take-le at d (omega arith))) ∙ take-take at at d (omega arith)

    back : drop (at + length t) (take at d ++ s ++ drop (at + length s) d) ≡ drop (at + length t) d
    back =
        let z : at + length s + (length t - length s) ≡ at + length t = omega arith in
        ap (λ n. drop n (take at d ++ s ++ drop (at + length s) d)) (sym z)
        ∙ sym (drop-drop (length t - length s) (at + length s) (take at d ++ s ++ drop (at + length s) d))
        ∙ ap (drop (length t - length s)) (placed_back d at s room)
        ∙ drop-drop (length t - length s) (at + length s) d
        ∙ ap (λ n. drop n d) z

-- the first i bytes of s stand; m bytes from j on are laid, where j is at most i and they reach as far: then the first j + m stand
piece : (d : List ℕ) (at : ℕ) (s : List ℕ) (i j m : ℕ) → at + length s ≤ length d → j ≤ i → i ≤ j + m → j + m ≤ length s
    → placed (placed d at (take i s)) (at + j) (take m (drop j s)) ≡ placed d at (take (j + m) s)
piece d at s i j m room h k l =
    let lj : length (take j s) ≡ j = length-take-le j s (omega arith) in
    let t : List ℕ = take (i - j) (drop j s) in
    let lt : length t ≡ i - j = length-take-le (i - j) (drop j s) (simp length-drop (omega arith)) in
    let lm : length (take m (drop j s)) ≡ m = length-take-le m (drop j s) (simp length-drop (omega arith)) in
    let z : j + (i - j) ≡ i = omega arith in
    let first : placed d at (take i s) ≡ placed (placed d at (take j s)) (at + j) t =
    ap (placed d at) (ap (λ n. take n s) (sym z) ∙ take-add j (i - j) s)
    ∙ sym (placed_next d at (take j s) (omega arith) t (at + j) (ap (λ n. at + n) (sym lj))) in
    let ln : length (placed d at (take j s)) ≡ length d = placed_length d at (take j s) (omega arith) in
    ap (λ x. placed x (at + j) (take m (drop j s))) first
    ∙ over (placed d at (take j s)) (at + j) t (take m (drop j s)) (omega arith) (omega arith)
    ∙ placed_next d at (take j s) (omega arith) (take m (drop j s)) (at + j) (ap (λ n. at + n) (sym lj))
    ∙ ap (placed d at) (sym (take-add j m s))

-- a piece of k bytes that went through an array of its own
pub held_piece : (z src held : List ℕ) (i k : ℕ) → held ≡ placed z 0 (take (i + k - i) (drop i src)) → length z ≡ k → i + k ≤ length src
    → held ≡ take k (drop i src)
held_piece z src held i k e lz h =
    let n : i + k - i ≡ k = omega arith in
    e ∙ ap (λ m. placed z 0 (take m (drop i src))) n
    ∙ held_is z (take k (drop i src)) (lz ∙ sym (length-take-le k (drop i src) (simp length-drop (omega arith))))

-- bytes that went through an array which they need not fill
pub held_start : (z src held : List ℕ) → held ≡ placed z 0 src → take (length src - 0) held ≡ src
held_start z src held e = ap (take (length src - 0)) e ∙ placed_start z src (length src - 0) (omega arith)

module _ (d : List ℕ) (at : ℕ) (src mid : List ℕ) (room : at + length src ≤ length d) (out : List ℕ) where
  -- the bytes before i stand, and those from there to end are laid: then all before end stand
  pub turn : (i end : ℕ) → mid ≡ placed d at (take i src) → i ≤ end → end ≤ length src → out ≡ placed mid (at + i) (take (end - i) (drop i src))
      → out ≡ placed d at (take end src)
  turn i end stands h k e =
      let z : i + (end - i) ≡ end = omega arith in
      e ∙ ap (λ x. placed x (at + i) (take (end - i) (drop i src))) stands
      ∙ piece d at src i i (end - i) room (omega arith) (omega arith) (omega arith) ∙ ap (λ n. placed d at (take n src)) z

  -- the first k bytes stand, and the last k are laid, which reach back to them or into them: then all stand
  pub two : (k : ℕ) → k ≤ length src → length src ≤ k + k → mid ≡ placed d at (take k src)
      → out ≡ placed mid (at + (length src - k)) (take k (drop (length src - k) src)) → out ≡ placed d at src
  two k h m stands e =
      e ∙ ap (λ x. placed x (at + (length src - k)) (take k (drop (length src - k) src))) stands
      ∙ piece d at src k (length src - k) k room (omega arith) (omega arith) (omega arith)
      ∙ ap (placed d at) (take_all (length src - k + k) src (omega arith))
