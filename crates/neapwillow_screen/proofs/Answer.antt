-- A value of at most 56 bits stands above the low byte as it is.
use Prim.Native.Nat.{ℕ, ◌*◌, ◌%◌, ◌^◌, ◌<◌}
use mathlib.Core.Path.{◌≡◌, ap}
use native.Mathlib.Nat.{mod-eq_of_lt}
use native.Mathlib.Omega.{arith}
use Rattle.c_answers.specs.Answers.{answer_of}

pub answered : (a x : ℕ) → a ≡ x → a < 2 ^ 56 → 256 * a ≡ answer_of 0 x
answered a x e h =
    let m : a % 2 ^ 56 ≡ a = mod-eq_of_lt h in
    let f = ap (λ (k : ℕ). k % 2 ^ 56) e in
    omega (arith, m, f)
