-- Laws of the codes that a message lists: the loop over them, and that the own code's bytes are among theirs exactly if it is one of them.
use Prim.Native.Nat.{ℕ, suc, ◌+◌, ◌-◌, ◌*◌, ◌≤◌, ◌<◌}
use mathlib.Core.Path.{◌≡◌, refl, sym, ap, ap₂, ◌∙◌}
use mathlib.Core.Bool.{Bool, true, false, ◌||◌}
use mathlib.Core.List.{List, [], ◌∷◌}
use native.Mathlib.Omega.{arith}
use lib.ListN.{length, get_or, take, drop}
use Rattle.body_formats.specs.Format.{every, digits}
use Rattle.body_formats.specs.Resource.{resource_bytes, resource}
use Rattle.screen_code.specs.Code.{is_code, same, has, same_at, listed}
use Rattle.screen_code.proofs.Same.{both}
use Rattle.screen_code.proofs.Printed.{same_printed}

-- ---- the loop: what is left from here on, k of n passed

module _ (s : List ℕ) (at n k : ℕ) (own : List ℕ) (d : Bool) (so_far : d ≡ listed s at (n - k) own) where
  module _ (h : k < n) where
    more : n - k ≡ suc (n - (k + 1))
    more = omega arith

    pub listed_here : same_at s at own ≡ true → true ≡ d
    unfolding listed
    listed_here e = sym (so_far ∙ ap (λ (m : ℕ). listed s at m own) more ∙ rw e)

    pub listed_on : same_at s at own ≡ false → d ≡ listed s (at + resource_bytes) (n - (k + 1)) own
    unfolding listed
    listed_on e = so_far ∙ ap (λ (m : ℕ). listed s at m own) more ∙ rw e

  pub listed_none : n ≤ k → false ≡ d
  unfolding listed
  listed_none h = let z : n - k ≡ 0 = omega arith in sym (so_far ∙ rw z)

-- ---- what is listed

pub writable_code : (c : List ℕ) → resource.writable c ≡ is_code c
unfolding digits is_code
writable_code c = refl

-- the codes rs stand one after the other, the first at p
pub listed_has : (s : List ℕ) (code : List ℕ) → is_code code ≡ true → (rs : List (List ℕ)) (p : ℕ) → every resource.writable rs ≡ true
    → ((k : ℕ) → k < length rs → take resource_bytes (drop (p + resource_bytes * k) s) ≡ resource.print (get_or rs k []))
    → listed s p (length rs) (resource.print code) ≡ has code rs
unfolding listed has every same_at
listed_has s code e [] p w stand = refl
listed_has s code e (r ∷ rs) p w stand =
    let f = both (resource.writable r) (every resource.writable rs) w in
    let here : p + resource_bytes * 0 ≡ p = omega arith in
    let first = sym (ap (λ (k : ℕ). take resource_bytes (drop k s)) here) ∙ stand 0 (omega arith) in
    ap₂ ◌||◌
    (ap (λ (l : List ℕ). same l (resource.print code)) first ∙ same_printed r code (sym (writable_code r) ∙ f.0) e)
    (listed_has s code e rs (p + resource_bytes) f.1 (λ k h.
    let next : p + resource_bytes + resource_bytes * k ≡ p + resource_bytes * suc k = omega arith in
    ap (λ (k : ℕ). take resource_bytes (drop k s)) next ∙ stand (suc k) (omega arith)))
