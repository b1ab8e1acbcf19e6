-- Laws of the joined body: its length and its bytes grow by the contents of one number a turn.
use Prim.Native.Nat.{ℕ, zero, suc, ◌+◌, ◌-◌, ◌≤◌, ◌<◌}
use mathlib.Core.List.{List, ◌++◌}
use mathlib.Core.Path.{◌≡◌, refl, sym, ap, ◌∙◌}
use native.Mathlib.Omega.{arith}
use native.Mathlib.Numerals.{add-one}
use native.Mathlib.Nat.{add-zero, add-suc}
use lib.ListN.{length, length-append}
use Rattle.ground_placing.specs.Placed.{placed}
use Rattle.ground_placing.proofs.Placing.{placed_none, placed_next, placed_length}
use Rattle.gathering_account.specs.Account.{Section, contents_of, in_order}

-- ---- one number more

order_next : (k : ℕ) (S : List Section) → in_order (k + 1) S ≡ in_order k S ++ contents_of k S
unfolding in_order
order_next k S = ap (λ n. in_order n S) (add-one k)

order_more : (k m : ℕ) (S : List Section) → length (in_order k S) ≤ length (in_order (k + m) S)
unfolding in_order
order_more k zero S = rw (add-zero k) (omega arith)
order_more k (suc m) S =
    let more = order_more k m S in
    rw (add-suc k m) (omega (arith, more, length-append (in_order (k + m) S) (contents_of (k + m) S)))

-- the numbers below k have no more than those below n
pub order_most : (k n : ℕ) (S : List Section) → k ≤ n → length (in_order k S) ≤ length (in_order n S)
order_most k n S h = let e : k + (n - k) ≡ n = omega arith in rw e at (order_more k (n - k) S)

module _ (k : ℕ) (S : List Section) (part : List ℕ) (are : part ≡ contents_of k S) where
  pub length_turn : (n : ℕ) → n ≡ length (in_order k S) → n + length part ≡ length (in_order (k + 1) S)
  length_turn n e = sym (ap length (order_next k S) ∙ length-append (in_order k S) (contents_of k S) ∙ omega (arith, e, ap length are))

  -- there is room for them after those of the numbers below
  pub room_turn : (n count room : ℕ) → n ≡ length (in_order k S) → k < count → length (in_order count S) ≤ room → n + length part ≤ room
  room_turn n count room e h l = omega (arith, length_turn n e, order_most (k + 1) count S (omega arith), l)

  pub joined_turn : (d out out' : List ℕ) (n : ℕ) → n ≡ length (in_order k S) → out ≡ placed d 0 (in_order k S) → length (in_order k S) ≤ length d
      → out' ≡ placed out n part → out' ≡ placed d 0 (in_order (k + 1) S)
  joined_turn d out out' n e f h g =
      g ∙ ap (λ x. placed x n part) f ∙ placed_next d 0 (in_order k S) (omega arith) part n (omega arith)
      ∙ ap (λ x. placed d 0 (in_order k S ++ x)) are ∙ ap (placed d 0) (sym (order_next k S))

pub joined_size : (d xs out : List ℕ) → out ≡ placed d 0 xs → length xs ≤ length d → length out ≡ length d
joined_size d xs out e h = ap length e ∙ placed_length d 0 xs (omega arith)

-- ---- the start and the end

pub order_none : (S : List Section) → 0 ≡ length (in_order 0 S)
unfolding in_order
order_none S = refl

pub joined_none : (d : List ℕ) (S : List Section) → d ≡ placed d 0 (in_order 0 S)
unfolding in_order
joined_none d S = sym (placed_none d 0)
