-- A message of an accepted body has a part that lies in it, shorter than EBM_length can say, and a number of one byte.
use Prim.Native.Nat.{ℕ, zero, suc, ◌+◌, ◌*◌, ◌≤◌, ◌<◌}
use Rattle.std.specs.Prelude.{Ok}
use mathlib.Core.Path.{◌≡◌, refl, sym, subst}
use mathlib.Core.Bool.{Bool, true, false, not}
use mathlib.Core.List.{List, [], ◌∷◌}
use native.Mathlib.Nat.{add-zero}
use native.Mathlib.Omega.{arith}
use borrow.Author.Tests.{ltb-true}
use lib.ListN.{length, get_or}
use Rattle.crc.specs.Crc.{AreBytes}
use Rattle.body_formats.specs.Format.{count, followed, list_of, opaque, view, exact, some}
use Rattle.index.specs.Index.{Message, Index, message, fields, index, index_kind}
use Rattle.index_fields.specs.Asked.{message_part}
use Rattle.promises.specs.Demand2.{Holds}
use Rattle.screen_choice.specs.Choice.{Numbered}
use Rattle.screen_choice.specs.Walk.{Lengthed, Standing}
use Rattle.screen_choice.proofs.Messages.{neither, Turn, turn, room, length_is}

-- the part of message number i
pub record Parted (s : List ℕ) (i : ℕ) : Type 0 where
  pub at : ℕ
  pub size : ℕ
  pub is : message_part s i ≡ Ok (at, size)
  pub in_body_lem : at + size ≤ length s
  pub short : size < 65536

module _ (s : List ℕ) (b : AreBytes s) where
  -- of the first of several, whose EBM_length stands at p
  first_parted : (i : ℕ) (ms : List Message) (p : ℕ) → Turn s i ms p → Parted s i
  first_parted i ms p t =
      let high = b.byte p in
      let low = b.byte (p + 1) in
      let l : Lengthed s p (get_or s p 0 * 256 + get_or s (p + 1) 0) = record { is = refl; small = omega arith } in
      let z = length_is s i ms p t _ l in
      record {
        at = p + 2;
        size = t.asked.size;
        is = t.asked.part_follows.is;
        in_body_lem = room s i ms p t;
        short = omega (arith, z);
      }

  pub parted : (ms : List Message) (i p : ℕ) → Standing s i ms p → (k : ℕ) (m : Message) → Numbered ms k m → Parted s (i + k)
  unfolding Numbered
  parted [] i p st k m h = absurd h
  parted (x ∷ xs) i p st zero m h = subst (Parted s) (sym (add-zero i)) (first_parted i (x ∷ xs) p (turn s i (x ∷ xs) p st (omega arith)))
  parted (x ∷ xs) i p st (suc k) m h =
      let t = turn s i (x ∷ xs) p st (omega arith) in
      let e : t.others ≡ xs = cc in
      let z : suc i + k ≡ i + suc k = omega arith in
      subst (Parted s) z (parted xs (suc i) t.next (subst (λ (l : List Message). Standing s (suc i) l t.next) e t.rest) k m h)

-- a table has at most 255 messages
pub few : (kind : ℕ) (s : List ℕ) (t : Index) → Holds index index_kind kind s t → length t.messages < 256
unfolding index exact view fields followed list_of count
few kind s t h =
    let a = (neither ((list_of (count 1) message).too_large t.messages) ((opaque 2).too_large t.signature) h.formed.small).0 in
    ltb-true _ _ (go _ (neither ((count 1).too_large (length t.messages)) (some message.too_large t.messages) a).0)
  where
    go : (x : Bool) → not x ≡ false → x ≡ true
    go true f = refl
    go false f = sym f
