-- A packet leaves unfinished exactly what it may leave: with that test beside the others, the states that are read as holding something are those that
-- a call can have left.
use Prim.Native.Nat.{ℕ, ◌+◌, ◌-◌, ◌≤◌, ◌<◌}
use mathlib.Core.Bool.{Bool, true, false}
use mathlib.Core.List.{List, [], ◌∷◌, ◌++◌}
use mathlib.Core.Path.{◌≡◌, refl, sym, ap, ◌∙◌, subst}
use native.Mathlib.Omega.{arith}
use borrow.Author.Tests.{lt-ltb, le-ltb, ltb-true}
use lib.Dec.{ltb}
use lib.ListN.{length, take, drop, length-append, take-append-drop}
use lib.Seq.{drop_at, drop-drop, length-take-le}
use Rattle.std.specs.Prelude.{if◌then◌else◌}
use Rattle.ground_choices.proofs.Tests.{both}
use Rattle.ground_equal.specs.Same.{same_bytes}
use Rattle.ground_equal.proofs.Same.{same_refl, same_is}
use Rattle.packet.specs.Fields.{starts, payload_at, pointed_at}
use Rattle.packet_frames.specs.declared.Scan.{Scan}
use Rattle.packet_frames.specs.Framing.{too_long, is_whole, framed, is_begun, nothing, longer, gone_on, begun}
use Rattle.packet_frames.specs.Found.{Scanned}
use Rattle.packet_frames.proofs.Frames.{tail}
use Rattle.packet_frames.proofs.Growing.{begun_tests}
use Rattle.packet_plan.specs.Reading.{ended, ahead, read_on}
use Rattle.packet_memory.specs.State.{ends_with, may_leave}

-- ---- what a packet leaves, it may leave

joined_ends : (x : ℕ) (xs more : List ℕ) → ends_with ((x ∷ xs) ++ more) more ≡ true
unfolding ends_with
joined_ends x xs more =
    let l = length-append (x ∷ xs) more in
    let m : length ((x ∷ xs) ++ more) - length more ≡ length (x ∷ xs) = omega arith in
    rw (lt-ltb (length more) (length ((x ∷ xs) ++ more)) (omega arith), m)
    (ap (λ a. same_bytes a more) (drop_at (x ∷ xs) more (length (x ∷ xs)) refl) ∙ same_refl more)

none_ends : (more : List ℕ) → ends_with [] more ≡ true
unfolding ends_with
none_ends more = refl

gone_ends : (u more : List ℕ) → ends_with (gone_on u more).unfinished more ≡ true
unfolding gone_on longer nothing
gone_ends [] more = none_ends more
gone_ends (x ∷ xs) more = go (too_long d) (is_whole d)
  where
    d : List ℕ
    d = (x ∷ xs) ++ more

    go : (a b : Bool)
        → ends_with
        (if a then nothing else if b then record { sections = take (framed d) d ∷ []; unfinished = [] } else
        record { sections = []; unfinished = d }).unfinished more
        ≡ true
    go true b = none_ends more
    go false true = none_ends more
    go false false = joined_ends x xs more

pub leaves_may : (u p : List ℕ) → may_leave p (read_on u p).unfinished ≡ true
unfolding may_leave read_on ended
leaves_may u p = go (starts p)
  where
    read : Bool → List ℕ
    read b = (if b then ended u (ahead p) (drop (pointed_at p) p) else gone_on u (drop (payload_at p) p)).unfinished

    go : (b : Bool) → (if b then same_bytes (read b) (begun (drop (pointed_at p) p)).unfinished else ends_with (read b) (drop (payload_at p) p)) ≡ true
    go true = same_refl (begun (drop (pointed_at p) p)).unfinished
    go false = gone_ends u (drop (payload_at p) p)

-- ---- and what it may leave, it leaves after some bytes

open_is : (v : List ℕ) → (length v ≡ 0 → ⊥) → is_begun v ≡ true → longer v ≡ record { sections = []; unfinished = v }
unfolding longer
open_is [] n b = absurd (n refl)
open_is (x ∷ xs) n b = let t = begun_tests x xs b in rw (t.1, t.2)

goes_on : (u more : List ℕ) → (length u ≡ 0 → ⊥) → gone_on u more ≡ longer (u ++ more)
unfolding gone_on
goes_on [] more n = absurd (n refl)
goes_on (x ∷ xs) more n = refl

ends_gone : (v more : List ℕ) → is_begun v ≡ true → ends_with v more ≡ true → (u : List ℕ) × ((gone_on u more).unfinished ≡ v)
unfolding ends_with gone_on nothing
ends_gone [] more b e = ([], refl)
ends_gone (x ∷ xs) more b e =
    let w = both (ltb (length more) (length (x ∷ xs))) (same_bytes (drop (length (x ∷ xs) - length more) (x ∷ xs)) more) e in
    let l = ltb-true (length more) (length (x ∷ xs)) w.0 in
    let s = same_is (drop (length (x ∷ xs) - length more) (x ∷ xs)) more w.1 in
    let u = take (length (x ∷ xs) - length more) (x ∷ xs) in
    let j : u ++ more ≡ x ∷ xs = ap (λ t. u ++ t) (sym s) ∙ take-append-drop (length (x ∷ xs) - length more) (x ∷ xs) in
    let k = length-take-le (length (x ∷ xs) - length more) (x ∷ xs) (omega arith) in
    (u, ap (λ r. r.unfinished) (goes_on u more (λ z. omega arith) ∙ ap longer j ∙ open_is (x ∷ xs) (λ z. omega arith) b))

pub may_leave_lem : (p v : List ℕ) → is_begun v ≡ true → may_leave p v ≡ true → (u : List ℕ) × ((read_on u p).unfinished ≡ v)
unfolding may_leave read_on ended
may_leave_lem p v b e = go (starts p) e
  where
    go : (t : Bool) → (if t then same_bytes v (begun (drop (pointed_at p) p)).unfinished else ends_with v (drop (payload_at p) p)) ≡ true
        → (u : List ℕ) × ((if t then ended u (ahead p) (drop (pointed_at p) p) else gone_on u (drop (payload_at p) p)).unfinished ≡ v)
    go true e = ([], sym (same_is v (begun (drop (pointed_at p) p)).unfinished e))
    go false e = ends_gone v (drop (payload_at p) p) b e

-- ---- each way out of the functions that test it

pub ends_none : (u more : List ℕ) → length u ≡ 0 → true ≡ ends_with u more
unfolding ends_with
ends_none [] more e = refl
ends_none (x ∷ xs) more e = absurd (omega arith)

pub ends_short : (u more : List ℕ) → (length u ≡ 0 → ⊥) → length u ≤ length more → false ≡ ends_with u more
unfolding ends_with
ends_short [] more n h = absurd (n refl)
ends_short (x ∷ xs) more n h = rw (le-ltb (length more) (length (x ∷ xs)) h)

pub ends_then : (u more : List ℕ) → (length u ≡ 0 → ⊥) → length more < length u
    → same_bytes (take (length u - (length u - length more)) (drop (length u - length more) u)) more ≡ ends_with u more
unfolding ends_with
ends_then [] more n h = absurd (n refl)
ends_then (x ∷ xs) more n h =
    ap (λ a. same_bytes a more) (tail (x ∷ xs) (length (x ∷ xs) - length more)) ∙ sym (rw (lt-ltb (length more) (length (x ∷ xs)) h))

module _ (p u : List ℕ) where
  pub may_plain : starts p ≡ false → (at : ℕ) → at ≡ payload_at p → ends_with u (take (length p - at) (drop at p)) ≡ may_leave p u
  unfolding may_leave
  may_plain s at e = ap (ends_with u) (tail p at ∙ ap (λ (n : ℕ). drop n p) e) ∙ sym (rw s)

  pub may_pointed : starts p ≡ true → (first : ℕ) → first ≡ pointed_at p → (found : Scan) → Scanned (take (length p - first) (drop first p)) found
      → same_bytes u (take (length p - (first + found.left)) (drop (first + found.left) p)) ≡ may_leave p u
  unfolding may_leave
  may_pointed s first e found c =
      let v : Scanned (drop first p) found = subst (λ d. Scanned d found) (tail p first) c in
      ap (same_bytes u)
      (tail p (first + found.left) ∙ sym (drop-drop found.left first p) ∙ sym v.unfinished ∙ ap (λ (n : ℕ). (begun (drop n p)).unfinished) e)
      ∙ sym (rw s)
