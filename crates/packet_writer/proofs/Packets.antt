-- Laws of a section's packets as they are laid: what is still to be laid, on what stands, makes the whole.
use Prim.Native.Nat.{ℕ, zero, suc, ◌+◌, ◌-◌, ◌*◌, ◌/◌, ◌%◌, ◌≤◌, ◌<◌, min}
use mathlib.Core.Bool.{Bool, true, false}
use mathlib.Core.List.{List, [], ◌∷◌, ◌++◌}
use mathlib.Core.Path.{◌≡◌, refl, sym, ap, ap₂, ◌∙◌}
use native.Mathlib.Omega.{arith}
use borrow.Author.Tests.{leb-true, leb-false}
use lib.Dec.{leb}
use lib.ListN.{length, take, drop, replicate, length-append, length-replicate, length-take, length-drop}
use lib.Seq.{take_all, drop-drop}
use Rattle.ground_placing.specs.Placed.{placed}
use Rattle.ground_placing.proofs.Placing.{placed_next, placed_none, placed_length}
use Rattle.packet.specs.Sizes.{packet_bytes, stuffing, counter_most}
use Rattle.packet_writer.specs.Packing.{first_room, next_room, header, packet_of, next, continued, packed, laid}
use Rattle.packet_writer.proofs.Laying.{laid_two}

-- ---- how long they are

pub packet_long : (start : Bool) (c : ℕ) (payload : List ℕ) → length payload ≤ next_room → length (packet_of start c payload) ≡ packet_bytes
unfolding packet_of header
packet_long start c payload h = rw (length-append payload (replicate (next_room - length payload) stuffing), length-replicate) (omega arith)

continued_long : (k c : ℕ) (bytes : List ℕ) → length (laid (continued k c bytes)) ≡ packet_bytes * k
unfolding continued laid
continued_long zero c bytes = refl
continued_long (suc k) c bytes =
    let p = packet_of false c (take next_room bytes) in
    let rest = laid (continued k (next c) (drop next_room bytes)) in
    let a = packet_long false c (take next_room bytes) (omega (arith, length-take next_room bytes)) in
    let b = continued_long k (next c) (drop next_room bytes) in
    length-append p rest ∙ ap₂ (λ (x y : ℕ). x + y) a b ∙ omega arith

-- "188 bytes" each: one packet, and one more for each 184 bytes of the section
pub packed_long : (c : ℕ) (section : List ℕ) → length (laid (packed c section)) ≡ packet_bytes + packet_bytes * (length section / next_room)
unfolding packed laid
packed_long c section =
    let front : List ℕ = 0 ∷ take first_room section in
    let rest = laid (continued (length section / next_room) (next c) (drop first_room section)) in
    length-append (packet_of true c front) rest
    ∙ ap₂ (λ (x y : ℕ). x + y) (packet_long true c front (omega (arith, length-take first_room section)))
    (continued_long (length section / next_room) (next c) (drop first_room section))

-- ---- packet by packet

-- i of the packets are laid: what is still to be laid, on what stands, makes the whole
pub record Laying (d section : List ℕ) (k i : ℕ) (d' : List ℕ) (c all : ℕ) : Type 0 where
  pub most : i ≤ k
  pub room : length d' ≡ length d
  pub low : c ≤ counter_most
  pub whole : placed d' (packet_bytes + packet_bytes * i) (laid (continued (k - i) c (drop (first_room + next_room * i) section)))
      ≡ placed d packet_bytes (laid (continued k all (drop first_room section)))

pub laying_start : (d section : List ℕ) (k c : ℕ) → c ≤ counter_most → Laying d section k 0 d c c
laying_start d section k c low =
    record {
      most = omega arith;
      room = refl;
      low = low;
      whole = ap (λ (j : ℕ). placed d packet_bytes (laid (continued j c (drop first_room section)))) less;
    }
  where
    less : k - 0 ≡ k
    less = omega arith

module _ (d section d' : List ℕ) (k i c all : ℕ) (v : Laying d section k i d' c all) where
  pub laying_end : k ≤ i → d' ≡ placed d packet_bytes (laid (continued k all (drop first_room section)))
  unfolding laid continued
  laying_end h =
      sym (placed_none d' (packet_bytes + packet_bytes * i))
      ∙ ap (λ (j : ℕ). placed d' (packet_bytes + packet_bytes * i) (laid (continued j c (drop (first_room + next_room * i) section)))) none
      ∙ v.whole
    where
      none : 0 ≡ k - i
      none = let m = v.most in omega arith

  module _ (h : i < k) (room : packet_bytes + packet_bytes * k ≤ length d) (part : List ℕ)
      (e : part ≡ take next_room (drop (first_room + next_room * i) section)) (d₁ : List ℕ)
      (f : d₁ ≡ placed d' (packet_bytes + packet_bytes * i) (packet_of false c part)) where
    long_one : length (packet_of false c part) ≡ packet_bytes
    long_one = packet_long false c part (let l = ap length e in omega (arith, length-take next_room (drop (first_room + next_room * i) section)))

    -- what is still to be laid, with this packet and without it
    one_more : packet_of false c part ++ laid (continued (k - (i + 1)) ((c + 1) % 16) (drop (first_room + next_room * (i + 1)) section))
        ≡ laid (continued (k - i) c (drop (first_room + next_room * i) section))
    unfolding laid continued next
    one_more =
        ap₂ (λ (x y : List ℕ). packet_of false c x ++ laid (continued (k - (i + 1)) ((c + 1) % 16) y)) e
        (ap (λ (n : ℕ). drop n section) on ∙ sym (drop-drop next_room (first_room + next_room * i) section))
        ∙ ap (λ (j : ℕ). laid (continued j c (drop (first_room + next_room * i) section))) less
      where
        on : first_room + next_room * (i + 1) ≡ first_room + next_room * i + next_room
        on = omega arith

        less : suc (k - (i + 1)) ≡ k - i
        less = omega arith

    pub laying_step : Laying d section k (i + 1) d₁ ((c + 1) % 16) all
    laying_step =
        let q = v.room in
        let rest = laid (continued (k - (i + 1)) ((c + 1) % 16) (drop (first_room + next_room * (i + 1)) section)) in
        let fits : (packet_bytes + packet_bytes * i) + length (packet_of false c part) ≤ length d' = omega (arith, long_one) in
        let at : packet_bytes + packet_bytes * (i + 1) ≡ packet_bytes + packet_bytes * i + length (packet_of false c part) = omega (arith, long_one) in
        record {
          most = omega arith;
          room = ap length f ∙ placed_length d' (packet_bytes + packet_bytes * i) (packet_of false c part) fits ∙ q;
          low = omega arith;
          whole =
              ap (λ (x : List ℕ). placed x (packet_bytes + packet_bytes * (i + 1)) rest) f
              ∙ placed_next d' (packet_bytes + packet_bytes * i) (packet_of false c part) fits rest (packet_bytes + packet_bytes * (i + 1)) at
              ∙ ap (placed d' (packet_bytes + packet_bytes * i)) one_more
              ∙ v.whole;
        }

-- the part of a section that a packet carries, up to the section's end at most
pub part_of_lem : (section : List ℕ) (from upto : ℕ) → upto ≡ min (from + next_room) (length section) → from ≤ length section
    → take (upto - from) (drop from section) ≡ take next_room (drop from section)
part_of_lem section from upto e h = go (leb (from + next_room) (length section)) refl
  where
    l : length (drop from section) ≡ length section - from
    l = length-drop from section

    full : from + next_room ≤ length section → upto - from ≡ next_room
    full m = omega arith

    go : (b : Bool) → leb (from + next_room) (length section) ≡ b → take (upto - from) (drop from section) ≡ take next_room (drop from section)
    go true t = ap (λ (n : ℕ). take n (drop from section)) (full (leb-true (from + next_room) (length section) t))
    go false t =
        let m = leb-false (from + next_room) (length section) t in
        take_all (upto - from) (drop from section) (omega (arith, l)) ∙ sym (take_all next_room (drop from section) (omega (arith, l)))

-- the part of a section in its first packet
pub front_is : (section : List ℕ) (end : ℕ) → end ≡ min first_room (length section) → take end section ≡ take first_room section
front_is section end e = go (leb first_room (length section)) refl
  where
    full : first_room ≤ length section → end ≡ first_room
    full m = omega arith

    go : (b : Bool) → leb first_room (length section) ≡ b → take end section ≡ take first_room section
    go true t = ap (λ (n : ℕ). take n section) (full (leb-true first_room (length section) t))
    go false t =
        let m = leb-false first_room (length section) t in
        take_all end section (omega arith) ∙ sym (take_all first_room section (omega arith))

-- the first packet, and then the rest
pub laid_packed : (d d₁ d₂ section front : List ℕ) (c k : ℕ)
    → d₁ ≡ placed d 0 (packet_of true c (0 ∷ front)) → d₂ ≡ placed d₁ packet_bytes (laid (continued k ((c + 1) % 16) (drop first_room section)))
    → front ≡ take first_room section → k ≡ length section / next_room → packet_bytes ≤ length d → d₂ ≡ placed d 0 (laid (packed c section))
unfolding laid packed next
laid_packed d d₁ d₂ section front c k e f g h r =
    laid_two d (packet_of true c (0 ∷ front)) (laid (continued k ((c + 1) % 16) (drop first_room section))) d₁ d₂ 0 packet_bytes e f
    (omega (arith, long)) (omega (arith, long))
    ∙ ap₂ (λ (x : List ℕ) (n : ℕ). placed d 0 (packet_of true c (0 ∷ x) ++ laid (continued n ((c + 1) % 16) (drop first_room section)))) g h
  where
    long : length (packet_of true c (0 ∷ front)) ≡ packet_bytes
    long = packet_long true c (0 ∷ front) (let m = length-take first_room section in let q = ap length g in omega arith)
