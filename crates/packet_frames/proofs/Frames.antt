-- Laws of a section's frame: three bytes tell it, and each way out of the functions that read it.
use Prim.Native.Nat.{ℕ, ◌+◌, ◌-◌, ◌*◌, ◌%◌, ◌≤◌, ◌<◌}
use mathlib.Core.Bool.{Bool, true, false, not, ◌&&◌}
use mathlib.Core.List.{List, [], ◌∷◌, ◌++◌, append-nil}
use mathlib.Core.Path.{◌≡◌, refl, sym, ap, ◌∙◌}
use native.Mathlib.Omega.{arith}
use borrow.Author.Tests.{ne_eqb, le-leb, lt-leb, lt-ltb, le-ltb}
use lib.Dec.{leb}
use lib.ListN.{length, take, drop, length-append, length-drop, get_or-append}
use lib.Seq.{get_or-append-add, take-length, drop-length}
use Rattle.std.specs.Prelude.{if◌then◌else◌}
use Rattle.ground_numbers.specs.Sizes.{section_length_most}
use Rattle.section_reader.specs.Section.{word, section_length}
use Rattle.section_reader.proofs.Reading.{section_length_is}
use Rattle.packet.specs.Sizes.{stuffing}
use Rattle.packet.specs.Fields.{byte}
use Rattle.packet_frames.specs.declared.Frame.{Frame}
use Rattle.packet_frames.specs.declared.Frame.TheVariants.{Nothing, Whole, Open}
use Rattle.packet_frames.specs.Framing.{at_stuffing, framed, too_long, is_whole, is_begun}
use Rattle.packet_frames.specs.Found.{frame_of, front_of}

-- ---- a byte of two strings

module _ (u more : List ℕ) (i r : ℕ) (h : r ≤ 255) where
  pub joint_left : i < length u → r ≡ byte u i → (r ≡ byte (u ++ more) i) × (r ≤ 255)
  joint_left l e = (e ∙ sym (get_or-append u more 0 i l), h)

  pub joint_right : length u ≤ i → r ≡ byte more (i - length u) → (r ≡ byte (u ++ more) i) × (r ≤ 255)
  joint_right l e = (e ∙ sym (ap (byte (u ++ more)) apart ∙ get_or-append-add u more (i - length u) 0), h)
    where
      apart : i ≡ length u + (i - length u)
      apart = omega arith

-- ---- a section begun

-- three bytes tell the length
pub length_front : (u x : List ℕ) → 3 ≤ length u → section_length (u ++ x) ≡ section_length u
unfolding section_length word
length_front [] x h = absurd (omega arith)
length_front (a ∷ []) x h = absurd (omega arith)
length_front (a ∷ b ∷ []) x h = absurd (omega arith)
length_front (a ∷ b ∷ c ∷ u) x h = refl

pub framed_front : (u x : List ℕ) → 3 ≤ length u → framed (u ++ x) ≡ framed u
unfolding framed
framed_front u x h = ap (λ (n : ℕ). n + 3) (length_front u x h)

pub framed_least : (d : List ℕ) → 3 ≤ framed d
unfolding framed
framed_least d = omega arith

module _ (u more : List ℕ) where
  pub frame_short : length u + length more < 3 → Open ≡ frame_of (u ++ more)
  unfolding frame_of too_long is_whole
  frame_short h = let l = length-append u more in simp (lt-leb 3 (length (u ++ more)) (omega arith))

  module _ (least : 3 ≤ length u + length more) (n : ℕ) (e : n ≡ section_length (u ++ more)) where
    known : leb 3 (length (u ++ more)) ≡ true
    known = let l = length-append u more in le-leb 3 (length (u ++ more)) (omega arith)

    pub frame_long : section_length_most < n → Nothing ≡ frame_of (u ++ more)
    unfolding frame_of too_long
    frame_long h = simp (known, ← e, lt-ltb section_length_most n h)

    pub frame_whole : n ≤ section_length_most → n + 3 ≤ length u + length more → Whole (n + 3) ≡ frame_of (u ++ more)
    unfolding frame_of too_long is_whole framed
    frame_whole h k =
        let l = length-append u more in
        simp (known, ← e, le-ltb section_length_most n h, le-leb (n + 3) (length (u ++ more)) (omega arith))

    pub frame_open : n ≤ section_length_most → length u + length more < n + 3 → Open ≡ frame_of (u ++ more)
    unfolding frame_of too_long is_whole framed
    frame_open h k =
        let l = length-append u more in
        simp (known, ← e, le-ltb section_length_most n h, lt-leb (n + 3) (length (u ++ more)) (omega arith))

-- section_length out of its two bytes, as they are read
pub length_read : (d : List ℕ) (x y : ℕ) → x ≡ byte d 1 → y ≡ byte d 2 → (x * 256 + y) % 4096 ≡ section_length d
length_read d x y e f = section_length_is d (x * 256 + y) (rw (e, f))

-- ---- where a section may begin

pub front_empty : (d : List ℕ) → length d ≡ 0 → Nothing ≡ front_of d
unfolding front_of at_stuffing
front_empty [] e = refl
front_empty (b ∷ bs) e = absurd (omega arith)

pub front_stuffing : (d : List ℕ) → (length d ≡ 0 → ⊥) → byte d 0 ≡ stuffing → Nothing ≡ front_of d
unfolding front_of at_stuffing
front_stuffing [] n e = absurd (n refl)
front_stuffing (b ∷ bs) n e = rw e

-- a part that goes on to the end
pub tail : (d : List ℕ) (i : ℕ) → take (length d - i) (drop i d) ≡ drop i d
tail d i = ap (λ (n : ℕ). take n (drop i d)) (sym (length-drop i d)) ∙ take-length (drop i d)

pub front_tail : (d : List ℕ) → (length d ≡ 0 → ⊥) → (byte d 0 ≡ stuffing → ⊥) → frame_of (d ++ take (length d - length d) (drop (length d) d)) ≡ front_of d
unfolding front_of at_stuffing
front_tail [] n e = absurd (n refl)
front_tail (b ∷ bs) n e = rw (tail (b ∷ bs) (length (b ∷ bs)), drop-length (b ∷ bs), append-nil (b ∷ bs), ne_eqb b stuffing e)

-- ---- bytes that a section not yet whole may begin with

abbrev Opened : Frame → Bool
Opened Nothing = false
Opened (Whole n) = false
Opened Open = true

pub front_begun : (u : List ℕ) (f : Frame) → (length u ≡ 0 → ⊥) → f ≡ front_of u → Opened f ≡ is_begun u
unfolding is_begun front_of frame_of
front_begun [] f n e = absurd (n refl)
front_begun (x ∷ xs) f n e = rw e (go (at_stuffing (x ∷ xs)) (too_long (x ∷ xs)) (is_whole (x ∷ xs)))
  where
    go : (a b c : Bool) → Opened (if a then Nothing else if b then Nothing else if c then Whole (framed (x ∷ xs)) else Open) ≡ (not a && not b && not c)
    go true b c = refl
    go false true c = refl
    go false false true = refl
    go false false false = refl

pub not_begun : (u : List ℕ) (f : Frame) → (length u ≡ 0 → ⊥) → f ≡ front_of u → (f ≡ Open → ⊥) → false ≡ is_begun u
not_begun u Nothing n e k = front_begun u Nothing n e
not_begun u (Whole m) n e k = front_begun u (Whole m) n e
not_begun u Open n e k = absurd (k refl)

pub none_begun : (u : List ℕ) → length u ≡ 0 → true ≡ is_begun u
unfolding is_begun
none_begun [] e = refl
none_begun (x ∷ xs) e = absurd (omega arith)
