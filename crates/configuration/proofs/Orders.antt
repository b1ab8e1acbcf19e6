-- What a command's tag orders, where it is none of the standard's seven.
use Prim.Native.Nat.{ℕ}
use mathlib.Core.Path.{◌≡◌}
use borrow.Author.Tests.{ne_eqb}
use Rattle.configuration.specs.Configuration.{other, order_of}

pub other_tag : (tag : ℕ) → (tag ≡ 1 → ⊥) → (tag ≡ 2 → ⊥) → (tag ≡ 3 → ⊥) → (tag ≡ 4 → ⊥) → (tag ≡ 5 → ⊥) → (tag ≡ 6 → ⊥) → (tag ≡ 7 → ⊥) → order_of tag ≡ other
unfolding order_of
other_tag tag a b c d e f g =
    rw (ne_eqb tag 1 a, ne_eqb tag 2 b, ne_eqb tag 3 c, ne_eqb tag 4 d, ne_eqb tag 5 e, ne_eqb tag 6 f, ne_eqb tag 7 g)
