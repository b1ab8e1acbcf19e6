-- Laws of one packet as it is laid: header, bytes and stuffing one after the other.
use Prim.Native.Nat.{ℕ, suc, ◌+◌, ◌-◌, ◌≤◌}
use mathlib.Core.Bool.{Bool, true, false}
use mathlib.Core.List.{List, [], ◌∷◌, ◌++◌}
use mathlib.Core.Path.{◌≡◌, refl, ap, ◌∙◌}
use native.Mathlib.Omega.{arith}
use lib.ListN.{length, set, replicate}
use Rattle.ground_placing.specs.Placed.{placed}
use Rattle.ground_placing.proofs.Placing.{stored, placed_next}
use Rattle.packet.specs.Sizes.{packet_bytes, sync_byte, our_pid, stuffing}
use Rattle.packet_writer.specs.Packing.{first_room, next_room, start_byte, header, packet_of}

pub header_is : (start : Bool) (c b : ℕ) → b ≡ start_byte start → sync_byte ∷ b ∷ our_pid ∷ (0x10 + c) ∷ [] ≡ header start c
unfolding header
header_is start c b e = rw e

pub header_length : (start : Bool) (c : ℕ) → length (header start c) ≡ 4
unfolding header
header_length start c = refl

pub byte_stored : (d : List ℕ) (at b : ℕ) → at + 1 ≤ length d → set d at b ≡ placed d at (b ∷ [])
byte_stored d at b h = stored d at (b ∷ []) h

-- ---- one part after another

pub laid_two : (d a b d₁ d₂ : List ℕ) (at k : ℕ) → d₁ ≡ placed d at a → d₂ ≡ placed d₁ k b → k ≡ at + length a → at + length a ≤ length d
    → d₂ ≡ placed d at (a ++ b)
laid_two d a b d₁ d₂ at k e f g h = f ∙ ap (λ l. placed l k b) e ∙ placed_next d at a h b k g

pub laid_packet : (d d₁ d₂ d₃ bytes : List ℕ) (at c k l : ℕ)
    → d₁ ≡ placed d at (header false c) → d₂ ≡ placed d₁ k bytes → d₃ ≡ placed d₂ l (replicate (next_room - length bytes) stuffing)
    → k ≡ at + 4 → l ≡ at + 4 + length bytes → length bytes ≤ next_room → at + packet_bytes ≤ length d → d₃ ≡ placed d at (packet_of false c bytes)
unfolding packet_of header
laid_packet d d₁ d₂ d₃ bytes at c k l e f g m n h r =
    laid_two d (header false c ++ bytes) (replicate (next_room - length bytes) stuffing) d₂ d₃ at l
    (laid_two d (header false c) bytes d₁ d₂ at k e f m (omega arith))
    g (omega arith) (omega arith)

pub laid_first : (d d₁ d₂ d₃ d₄ bytes : List ℕ) (c k l : ℕ)
    → d₁ ≡ placed d 0 (header true c) → d₂ ≡ placed d₁ 4 (0 ∷ []) → d₃ ≡ placed d₂ k bytes
    → d₄ ≡ placed d₃ l (replicate (first_room - length bytes) stuffing)
    → k ≡ 5 → l ≡ 5 + length bytes → length bytes ≤ first_room → packet_bytes ≤ length d → d₄ ≡ placed d 0 (packet_of true c (0 ∷ bytes))
unfolding packet_of header
laid_first d d₁ d₂ d₃ d₄ bytes c k l e f g i m n h r =
    laid_two d (header true c ++ (0 ∷ bytes)) (replicate (first_room - length bytes) stuffing) d₃ d₄ 0 l
    (laid_two d (header true c ++ (0 ∷ [])) bytes d₂ d₃ 0 k (laid_two d (header true c) (0 ∷ []) d₁ d₂ 0 4 e f refl (omega arith))
    g (omega arith) (omega arith))
    i (omega arith) (omega arith)
    ∙ ap (λ (j : ℕ). placed d 0 (header true c ++ (0 ∷ bytes) ++ replicate j stuffing)) less
  where
    less : first_room - length bytes ≡ next_room - suc (length bytes)
    less = omega arith
