-- Laws of names and ports: what the code's tests of a byte say of the bytes from there on.
use Prim.Native.Nat.{ℕ, suc, ◌+◌, ◌-◌, ◌*◌, ◌≤◌, ◌<◌}
use mathlib.Core.Path.{◌≡◌, refl, sym, ap, ◌∙◌}
use mathlib.Core.List.{List, [], ◌∷◌}
use mathlib.Core.Bool.{Bool, true, false, ◌&&◌}
use native.Mathlib.Omega.{arith}
use native.Mathlib.Numerals.{add-one}
use lib.ListN.{length, get_or, take, drop, length-drop}
use lib.Seq.{drop-cons, length-take-le}
use lib.Dec.{leb}
use borrow.Author.Tests.{le-leb, lt-leb, eq-eqb, ne_eqb}
use Rattle.ground_numbers.specs.Characters.{is_digit, colon}
use Rattle.body_formats.specs.Format.{every}
use Rattle.configuration_addresses.specs.Address.{port_worth, is_port, in_name, name_goes_on, host_and_port}

-- the bytes from p up to end
abbrev pub part : List ℕ → ℕ → ℕ → List ℕ
part s p end = take (end - p) (drop p s)

pub whole_part : (s : List ℕ) (p n end : ℕ) → end ≡ p + n → take n (drop p s) ≡ part s p end
whole_part s p n end e = ap (λ (m : ℕ). take m (drop p s)) (let z : n ≡ end - p = omega arith in z)

empty_part : (s : List ℕ) (p end : ℕ) → end ≤ p → part s p end ≡ []
empty_part s p end h = let z : end - p ≡ 0 = omega arith in rw z

first_of : (s : List ℕ) (p n m : ℕ) → n ≡ suc m → p + n ≤ length s → take n (drop p s) ≡ get_or s p 0 ∷ take m (drop (p + 1) s)
first_of s p n m e h = rw (e, drop-cons s p 0 (omega arith), add-one p)

first_of_part : (s : List ℕ) (p end : ℕ) → p < end → end ≤ length s → part s p end ≡ get_or s p 0 ∷ part s (p + 1) end
first_of_part s p end h m = first_of s p (end - p) (end - (p + 1)) (omega arith) (omega arith)

-- ---- a port

-- the bytes left are digits, and worth at most 65,535 after those before, which are worth n
abbrev pub port_left : ℕ → List ℕ → Bool
port_left n cs = every is_digit cs && leb (port_worth n cs) 65535

module _ (s : List ℕ) (p n : ℕ) (fits : p + n ≤ length s) where
  long : length (take n (drop p s)) ≡ n
  long = length-take-le n (drop p s) (simp length-drop (omega arith))

  pub port_empty : n < 1 → false ≡ is_port (take n (drop p s))
  unfolding is_port
  port_empty h = rw (long, lt-leb 1 n h)

  pub port_long : 5 < n → false ≡ is_port (take n (drop p s))
  unfolding is_port
  port_long h = rw (long, le-leb 1 n (omega arith), lt-leb n 5 h)

  pub port_start : (end : ℕ) → end ≡ p + n → 1 ≤ n → n ≤ 5 → is_port (take n (drop p s)) ≡ port_left 0 (part s p end)
  unfolding is_port
  port_start end e h k = rw (long, le-leb 1 n h, le-leb n 5 k) (ap (port_left 0) (whole_part s p n end e))

worth_grows : (n : ℕ) (cs : List ℕ) → n ≤ port_worth n cs
unfolding port_worth
worth_grows n [] = omega arith
worth_grows n (c ∷ r) = omega (arith, worth_grows (n * 10 + (c - 0x30)) r)

too_much : (n : ℕ) (cs : List ℕ) → 65535 < n → port_left n cs ≡ false
too_much n cs h = rw (lt-leb (port_worth n cs) 65535 (omega (arith, worth_grows n cs))) (go (every is_digit cs))
  where
    go : (t : Bool) → t && false ≡ false
    go true = refl
    go false = refl

-- a turn has come to the byte at k; those before it are worth n
module _ (s : List ℕ) (k end n : ℕ) (all : Bool) (left : all ≡ port_left n (part s k end)) where
  pub port_done : end ≤ k → n ≤ 65535 → true ≡ all
  unfolding every port_worth
  port_done h m = sym (left ∙ rw (empty_part s k end h, le-leb n 65535 m))

  module _ (here : k < end) (there : end ≤ length s) where
    pub port_low : get_or s k 0 < 0x30 → false ≡ all
    unfolding every
    port_low h = sym (left ∙ rw (first_of_part s k end here there, lt-leb 0x30 (get_or s k 0) h))

    module _ (h : 0x30 ≤ get_or s k 0) where
      pub port_high : 0x39 < get_or s k 0 → false ≡ all
      unfolding every
      port_high m = sym (left ∙ rw (first_of_part s k end here there, le-leb 0x30 (get_or s k 0) h, lt-leb (get_or s k 0) 0x39 m))

      pub port_next : get_or s k 0 ≤ 0x39 → all ≡ port_left (n * 10 + (get_or s k 0 - 0x30)) (part s (k + 1) end)
      unfolding every port_worth
      port_next m = left ∙ rw (first_of_part s k end here there, le-leb 0x30 (get_or s k 0) h, le-leb (get_or s k 0) 0x39 m)

      pub port_much : get_or s k 0 ≤ 0x39 → 65535 < n * 10 + (get_or s k 0 - 0x30) → false ≡ all
      port_much m x = sym (port_next m ∙ too_much (n * 10 + (get_or s k 0 - 0x30)) (part s (k + 1) end) x)

-- ---- a name

module _ (s : List ℕ) (k end : ℕ) (all : Bool) (left : all ≡ name_goes_on (part s k end)) where
  pub name_done : end ≤ k → false ≡ all
  unfolding name_goes_on
  name_done h = sym (left ∙ rw (empty_part s k end h))

  module _ (here : k < end) (there : end ≤ length s) where
    pub name_ends : get_or s k 0 ≡ colon → is_port (part s (k + 1) end) ≡ all
    unfolding name_goes_on
    name_ends e = sym (left ∙ rw (first_of_part s k end here there, eq-eqb (get_or s k 0) colon e))

    module _ (e : get_or s k 0 ≡ colon → ⊥) where
      pub name_fails : in_name (get_or s k 0) ≡ false → false ≡ all
      unfolding name_goes_on
      name_fails h = sym (left ∙ rw (first_of_part s k end here there, h, ne_eqb (get_or s k 0) colon e))

      pub name_next : in_name (get_or s k 0) ≡ true → all ≡ name_goes_on (part s (k + 1) end)
      unfolding name_goes_on
      name_next h = left ∙ rw (first_of_part s k end here there, h, ne_eqb (get_or s k 0) colon e)

-- ---- a name and a port

module _ (s : List ℕ) (p n : ℕ) (fits : p + n ≤ length s) where
  pub host_empty : n < 1 → false ≡ host_and_port (take n (drop p s))
  unfolding host_and_port
  host_empty h = let z : n ≡ 0 = omega arith in rw z

  module _ (h : 1 ≤ n) where
    pub host_fails : in_name (get_or s p 0) ≡ false → false ≡ host_and_port (take n (drop p s))
    unfolding host_and_port
    host_fails e = sym (ap host_and_port (first_of s p n (n - 1) (omega arith) fits) ∙ rw e)

    pub host_named : in_name (get_or s p 0) ≡ true → name_goes_on (take (n - 1) (drop (p + 1) s)) ≡ host_and_port (take n (drop p s))
    unfolding host_and_port
    host_named e = sym (ap host_and_port (first_of s p n (n - 1) (omega arith) fits) ∙ rw e)
