-- Laws of the state's bytes as they are written: what they mean after a packet, a repeat and an error bit.
use Prim.Native.Nat.{ℕ, ◌+◌, ◌-◌, ◌/◌, ◌%◌, ◌≤◌, ◌<◌}
use mathlib.Core.Bool.{true, ◌&&◌}
use mathlib.Core.List.{List, [], ◌∷◌, ◌++◌, append_assoc}
use mathlib.Core.Path.{◌≡◌, refl, sym, ap, ap₂, ◌∙◌}
use native.Mathlib.Nat.{zero-add}
use native.Mathlib.Omega.{arith}
use borrow.Author.Tests.{le-leb}
use lib.Dec.{eqb}
use lib.ListN.{length, take, drop, length-append, length-drop}
use lib.Seq.{length-take-le, take-add, take_at, drop_at, drop-append-le}
use Rattle.ground_placing.specs.Placed.{placed}
use Rattle.ground_placing.proofs.Placing.{placed_next, placed_length, placed_whole}
use Rattle.packet.specs.Sizes.{packet_bytes}
use Rattle.packet.specs.Fields.{byte}
use Rattle.packet.specs.Judging.{judged, is_carrying}
use Rattle.packet_frames.specs.Framing.{is_begun, unfinished_most}
use Rattle.packet_frames.proofs.Frames.{tail}
use Rattle.packet_memory.specs.Memory.{fresh, repeated_once, held_after}
use Rattle.packet_memory.specs.State.{unfinished_at, kept_of, last_of, unfinished_of, may_leave, is_possible, memory_of}
use Rattle.packet_memory.specs.Keeping.{part_of, Leaves, marked, holding, Keeps}
use Rattle.packet_memory.proofs.States.{possible_then, possible_shows, memory_fresh, memory_held}

-- ---- the bytes as they are laid

take_drop : (k n : ℕ) (l : List ℕ) → n ≤ length l → take k (drop n l) ≡ drop n (take (n + k) l)
take_drop k n l h = sym (ap (drop n) (take-add n k l) ∙ drop_at (take n l) (take k (drop n l)) n (length-take-le n l h))

-- bytes t behind the g that stand behind the first n, and then bytes a over these
laid_behind : (s a t : List ℕ) (n g : ℕ) → length a ≡ n → n + g + length t ≤ length s
    → placed (placed s (n + g) t) 0 a ≡ placed s 0 (a ++ (take g (drop n s) ++ t))
unfolding placed
laid_behind s a t n g e h =
    let m = take g (drop n s) in
    let rest = drop (n + g + length t) s in
    let l = length-take-le (n + g) s (omega arith) in
    let k = length-take-le g (drop n s) (let q = length-drop n s in omega arith) in
    let long : length (a ++ (m ++ t)) ≡ n + g + length t =
    length-append a (m ++ t) ∙ ap (λ (x : ℕ). length a + x) (length-append m t) ∙ omega arith in
    rw (zero-add, zero-add, e)
    (ap (λ (x : List ℕ). a ++ x)
    (drop-append-le n (take (n + g) s ++ t) rest (let q = length-append (take (n + g) s) t in omega arith)
    ∙ ap (λ (x : List ℕ). x ++ rest) (drop-append-le n (take (n + g) s) t (omega arith) ∙ ap (λ (x : List ℕ). x ++ t) (sym (take_drop g n s (omega arith)))))
    ∙ sym (append_assoc a (m ++ t) rest)
    ∙ ap (λ (x : ℕ). (a ++ (m ++ t)) ++ drop x s) (sym long))

part_length : (s p : List ℕ) (goes end : ℕ) → Leaves s p goes end → length (part_of s p goes end) ≡ goes + (packet_bytes - end)
unfolding part_of
part_length s p goes end v =
    let size = v.size in
    let packet = v.packet in
    let most = v.most in
    let k = length-take-le goes (drop unfinished_at s) (let q = length-drop unfinished_at s in omega arith) in
    let l = length-drop end p in
    length-append (take goes (drop unfinished_at s)) (drop end p) ∙ omega arith

-- the state's bytes, from the three writes that make them
pub state_stored : (s p s₁ s₂ s₃ : List ℕ) (goes end : ℕ) → Leaves s p goes end
    → s₁ ≡ placed s (unfinished_at + goes) (take (length p - end) (drop end p))
    → s₂ ≡ placed s₁ 0 (1 ∷ (goes + (packet_bytes - end)) / 256 % 256 ∷ (goes + (packet_bytes - end)) % 256 ∷ [])
    → s₃ ≡ placed s₂ 3 p
    → s₃ ≡ holding s (part_of s p goes end) p
unfolding holding part_of
state_stored s p s₁ s₂ s₃ goes end v e f g =
    let k = goes + (packet_bytes - end) in
    let mark : List ℕ = 1 ∷ k / 256 % 256 ∷ k % 256 ∷ [] in
    let size = v.size in
    let packet = v.packet in
    let within = v.within in
    let most = v.most in
    let d = length-drop end p in
    let long = placed_length s (unfinished_at + goes) (drop end p) (omega arith) in
    g
    ∙ ap (λ (x : List ℕ). placed x 3 p)
    (f ∙ ap (λ (x : List ℕ). placed x 0 mark) (e ∙ ap (placed s (unfinished_at + goes)) (tail p end)))
    ∙ placed_next (placed s (unfinished_at + goes) (drop end p)) 0 mark (omega arith) p 3 refl
    ∙ laid_behind s (mark ++ p) (drop end p) unfinished_at goes (omega arith) (omega arith)
    ∙ ap (λ (n : ℕ). placed s 0 (1 ∷ n / 256 % 256 ∷ n % 256 ∷ (p ++ (take goes (drop unfinished_at s) ++ drop end p)))) (sym (part_length s p goes end v))

-- ---- what they mean after a packet

pub leaves_keeps : (s p : List ℕ) (goes end : ℕ) → Leaves s p goes end → Keeps s p (part_of s p goes end)
leaves_keeps s p goes end v =
    let l = part_length s p goes end v in
    let most = v.most in
    record { size = v.size; packet = v.packet; short = omega arith; carries = v.carries; begun = v.begun; may = v.may }

module _ (s p u : List ℕ) (v : Keeps s p u) where
  front : List ℕ
  front = 1 ∷ length u / 256 % 256 ∷ length u % 256 ∷ (p ++ u)

  -- the state's bytes
  t : List ℕ
  t = front ++ drop (length front) s

  holding_is : holding s u p ≡ t
  unfolding holding t front
  holding_is = placed_whole s front

  held_kept : kept_of t ≡ length u
  unfolding kept_of t front
  held_kept = let l = v.short in omega arith

  held_last : last_of t ≡ p
  unfolding last_of t front
  held_last = ap (take packet_bytes) (append_assoc p u _) ∙ take_at p _ packet_bytes v.packet

  held_unfinished : unfinished_of t ≡ u
  unfolding unfinished_of t front
  held_unfinished =
      ap (λ (n : ℕ). take n (drop unfinished_at t)) held_kept
      ∙ ap (λ (l : List ℕ). take (length u) (drop packet_bytes l)) (append_assoc p u _)
      ∙ ap (take (length u)) (drop_at p _ packet_bytes v.packet)
      ∙ take_at u _ (length u) refl

  held_mark : byte t 0 ≡ 1
  unfolding t front
  held_mark = refl

  held_possible : is_possible t ≡ true
  unfolding is_carrying
  held_possible =
      let m = held_mark in
      let q = held_kept in
      let l = v.short in
      sym (possible_then t (omega arith) (omega arith) (ap (λ (x : List ℕ). is_carrying (judged x)) held_last ∙ ap is_carrying v.carries) (omega arith))
      ∙ ap₂ ◌&&◌ (ap is_begun held_unfinished ∙ v.begun) (ap₂ may_leave held_last held_unfinished ∙ v.may)

  pub memory_holding : memory_of (holding s u p) ≡ held_after u p
  unfolding held_after
  memory_holding =
      ap memory_of holding_is ∙ memory_held t held_possible
      ∙ (λ i. record { unfinished = held_unfinished i; last = held_last i; repeated = eqb (held_mark i) 2 })

-- ---- a repeat, and an error bit

-- a possible state whose mark is set anew
marked_anew : (s : List ℕ) → 0 < length s → is_possible s ≡ true → is_possible (marked 2 s) ≡ true
unfolding is_possible kept_of last_of unfinished_of marked
marked_anew [] h e = absurd (omega arith)
marked_anew (b ∷ bs) h e =
    let v = possible_shows (b ∷ bs) e in
    simp (v.0, le-leb (kept_of (b ∷ bs)) unfinished_most v.1, v.2, v.3)

pub memory_repeated : (s : List ℕ) → 0 < length s → is_possible s ≡ true
    → memory_of (marked 2 s) ≡ repeated_once (memory_of s)
unfolding kept_of last_of unfinished_of repeated_once marked
memory_repeated [] h e = absurd (omega arith)
memory_repeated (b ∷ bs) h e =
    memory_held (2 ∷ bs) (marked_anew (b ∷ bs) h e) ∙ rw (memory_held (b ∷ bs) e)

pub memory_damaged : (s : List ℕ) → memory_of (marked 0 s) ≡ fresh
unfolding is_possible marked
memory_damaged [] = memory_fresh [] refl
memory_damaged (b ∷ bs) = memory_fresh (0 ∷ bs) refl
