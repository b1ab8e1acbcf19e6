-- Laws of bytes moved within one list, towards its front: what is still to be read lies past what is written.
use Prim.Native.Nat.{ℕ, ◌+◌, ◌-◌, ◌≤◌}
use mathlib.Core.List.{List}
use mathlib.Core.Path.{◌≡◌, refl, sym, ap, ◌∙◌}
use native.Mathlib.Omega.{arith}
use lib.ListN.{length, take, drop, length-drop, take-append-drop}
use lib.Seq.{length-take-le, take-add, drop-drop}
use Rattle.ground_placing.specs.Placed.{placed}
use Rattle.ground_placing.proofs.Placing.{placed_start, placed_none, placed_back, placed_next, placed_length}

-- the n bytes that are moved
abbrev pub moved : List ℕ → ℕ → ℕ → List ℕ
moved d from n = take n (drop from d)

pub moved_long : (d : List ℕ) (from n : ℕ) → from + n ≤ length d → length (moved d from n) ≡ n
moved_long d from n h = length-take-le n (drop from d) (simp length-drop (omega arith))

-- two lists that are alike from i on are so from any later place on
pub alike_later : (a b : List ℕ) (i j : ℕ) → i ≤ j → drop i a ≡ drop i b → drop j a ≡ drop j b
alike_later a b i j h e =
    let z : i + (j - i) ≡ j = omega arith in
    ap (λ (m : ℕ). drop m a) (sym z) ∙ sym (drop-drop (j - i) i a) ∙ ap (drop (j - i)) e ∙ drop-drop (j - i) i b ∙ ap (λ (m : ℕ). drop m b) z

-- a piece that went through an array of its own
pub piece_held : (held d : List ℕ) (from n : ℕ) → from + n ≤ length d → take n (placed held 0 (take (from + n - from) (drop from d))) ≡ moved d from n
piece_held held d from n h =
    let e : from + n - from ≡ n = omega arith in
    rw e (placed_start held (moved d from n) n (sym (moved_long d from n h)))

-- nothing to do: the bytes are at their place
pub moved_there : (d : List ℕ) (from n : ℕ) → from + n ≤ length d → d ≡ placed d from (moved d from n)
unfolding placed
moved_there d from n h =
    let l = moved_long d from n h in
    sym (rw (l, ← (take-add from n d)) (take-append-drop (from + n) d))

-- all but the last `left` of n bytes are moved, and the rest of the list is as it was
pub record Moved (d : List ℕ) (from to n left : ℕ) (d' : List ℕ) : Type 0 where
  pub within : left ≤ n
  pub stands : d' ≡ placed d to (moved d from (n - left))
  pub long : length d' ≡ length d

module _ (d : List ℕ) (from to n : ℕ) (front : to ≤ from) (room : from + n ≤ length d) where
  pub move_start : Moved d from to n n d
  move_start =
      let none : n - n ≡ 0 = omega arith in
      record { within = omega arith; stands = rw none (sym (placed_none d to)); long = refl }

  module _ (left : ℕ) (d' : List ℕ) (m : Moved d from to n left d') where
    abbrev i : ℕ
    i = n - left

    -- what lies past the bytes that are moved is as it was
    past : drop (to + i) d' ≡ drop (to + i) d
    past =
        let w = m.within in
        let long = moved_long d from i (omega arith) in
        rw m.stands (rw long at (placed_back d to (moved d from i) (omega arith)))

    -- so is what is read next: it lies there, since the bytes move towards the front
    unread : (k : ℕ) → moved d' (from + i) k ≡ take k (drop i (drop from d))
    unread k = ap (take k) (alike_later d' d (to + i) (from + i) (omega arith) past ∙ sym (drop-drop i from d))

    -- k bytes more
    pub move_step : (k : ℕ) → k ≤ left → (out : List ℕ) → out ≡ placed d' (to + i) (moved d' (from + i) k) → Moved d from to n (left - k) out
    move_step k h out e =
        let w = m.within in
        let first = moved_long d from i (omega arith) in
        let next = take k (drop i (drop from d)) in
        let more : i + k ≡ n - (left - k) = omega arith in
        let long = moved_long d from (n - (left - k)) (omega arith) in
        let now : out ≡ placed d to (moved d from (n - (left - k))) =
        e ∙ ap (placed d' (to + i)) (unread k)
        ∙ ap (λ (x : List ℕ). placed x (to + i) next) m.stands
        ∙ placed_next d to (moved d from i) (omega arith) next (to + i) (ap (λ (l : ℕ). to + l) (sym first))
        ∙ ap (placed d to) (sym (take-add i k (drop from d)) ∙ ap (moved d from) more) in
        record { within = omega arith; stands = now; long = ap length now ∙ placed_length d to (moved d from (n - (left - k))) (omega arith) }

    -- the bytes that are left
    pub move_end : (out : List ℕ) → out ≡ placed d' (to + i) (moved d' (from + i) left) → (out ≡ placed d to (moved d from n)) × (length out ≡ length d)
    move_end out e =
        let last = move_step left (omega arith) out e in
        let all : n - (left - left) ≡ n = omega arith in
        (last.stands ∙ ap (λ (l : ℕ). placed d to (moved d from l)) all, last.long)
