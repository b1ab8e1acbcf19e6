-- Laws of writers one after the other: the room that is left, and that two puts are one.
use Prim.Native.Nat.{ℕ, ◌+◌, ◌≤◌}
use mathlib.Core.Path.{◌≡◌, sym, ap, ◌∙◌}
use mathlib.Core.List.{List, [], ◌++◌}
use native.Mathlib.Omega.{arith}
use native.Mathlib.Nat.{add-zero, zero-add, add_assoc}
use lib.ListN.{length, drop, length-append}
use Rattle.ground_placing.proofs.Placing.{placed_length, placed_next, placed_none, placed_whole}
use Rattle.ground_placing.specs.Put.{Put}

pub room_first : (at : ℕ) (xs ys : List ℕ) {n : ℕ} → at + length (xs ++ ys) ≤ n → at + length xs ≤ n
room_first at xs ys h = omega (arith, length-append xs ys)

pub put_length : {d : List ℕ} {at : ℕ} {xs e : List ℕ} {a : ℕ} → Put d at xs e a → length e ≡ length d
put_length {d} {at} {xs} p = ap length p.written ∙ placed_length d at xs p.fits

-- what has room after the first has room at the place that the first answers
pub put_room : {d : List ℕ} {at : ℕ} {xs e : List ℕ} {a : ℕ} (ys : List ℕ)
    → Put d at xs e a → at + length (xs ++ ys) ≤ length d → a + length ys ≤ length e
put_room {xs = xs} ys p h = omega (arith, length-append xs ys, put_length p, p.after)

pub put_none : (d : List ℕ) (at : ℕ) → at ≤ length d → Put d at [] d at
put_none d at h = record { fits = omega arith; written = sym (placed_none d at); after = sym (add-zero at) }

pub put_then : {d : List ℕ} {at : ℕ} {xs e : List ℕ} {a : ℕ} {ys f : List ℕ} {b : ℕ}
    → Put d at xs e a → Put e a ys f b → Put d at (xs ++ ys) f b
put_then {d} {at} {xs} {e} {a} {ys} p q =
    let n = length-append xs ys in
    record {
      fits = omega (arith, n, put_length p, p.after, q.fits);
      written = q.written ∙ rw p.written (placed_next d at xs p.fits ys a p.after);
      after = q.after ∙ rw (p.after, n) (add_assoc at (length xs) (length ys));
    }

-- what is put at the start
pub put_whole : {d xs e : List ℕ} {r : ℕ} → Put d 0 xs e r → (r ≡ length xs) × ((e ≡ xs ++ drop r d) × (r ≤ length e))
put_whole {d} {xs} p =
    let n = p.after ∙ zero-add (length xs) in
    (n, (p.written ∙ placed_whole d xs ∙ sym (ap (λ m. xs ++ drop m d) n), omega (arith, put_length p, p.fits)))
