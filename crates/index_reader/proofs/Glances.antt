-- What the tests of a glance say of an index table, from a message's fields up to the whole: their formats find them.
use Prim.Native.Nat.{ℕ, suc, ◌+◌, ◌-◌, ◌≤◌, ◌<◌}
use mathlib.Core.Path.{◌≡◌, refl}
use mathlib.Core.List.{List}
use mathlib.Core.Bool.{true, ◌&&◌}
use native.Mathlib.Omega.{arith}
use native.Mathlib.Numerals.{add-one}
use native.Mathlib.Nat.{le_refl, add-zero}
use lib.ListN.{length, get_or, take, drop}
use lib.Seq.{drop-cons}
use lib.Dec.{leb}
use borrow.Author.Tests.{le-leb}
use Rattle.ground_choices.proofs.Tests.{and_of}
use Rattle.ground_refusal.specs.declared.Refusal.TheVariants.{LeftOver, PastPart}
use Rattle.body_formats.specs.Format.{number_at, every, bytes_among, nibbles_among, times}
use Rattle.body_formats.specs.Time.{time, end_time}
use Rattle.body_formats.specs.Resource.{resource}
use Rattle.body_formats.specs.Identifier.{identifier}
use Rattle.body_formats.proofs.Classes.{Bytes}
use Rattle.body_glance.specs.Glance.{Reads, Fills}
use Rattle.body_glance.proofs.Finds.{reads_to, reads_pair, reads_view, reads_number, reads_count, reads_among, reads_part, reads_opaque, fills_exact}
use Rattle.body_glance.proofs.Runs.{reads_list}
use Rattle.index.specs.Index.{Flagged, flagged, HeadFields, head, MessageFields, message_fields, named, unnamed, Message, message, Index, fields, index}

-- ---- the head

module _ (s : List ℕ) where
  -- one more byte that is at most hi
  most_more : (hi p q n : ℕ) → p < length s → get_or s p 0 ≤ hi → p + 1 ≡ q → every (λ x. leb 0 x && leb x hi) (take n (drop q s)) ≡ true
      → every (λ x. leb 0 x && leb x hi) (take (suc n) (drop p s)) ≡ true
  unfolding every
  most_more hi p q n h m e all =
      rw (drop-cons s p 0 h, ← add-one p, e) (and_of (and_of (le-leb 0 (get_or s p 0) (omega arith)) (le-leb (get_or s p 0) hi m)) all)

  -- "type five bytes each at most 0x7F"
  pub type_good : (p : ℕ) → p + 5 ≤ length s → get_or s p 0 ≤ 0x7F → get_or s (p + 1) 0 ≤ 0x7F → get_or s (p + 2) 0 ≤ 0x7F → get_or s (p + 3) 0 ≤ 0x7F
      → get_or s (p + 4) 0 ≤ 0x7F
      → (xs : List ℕ) × Reads (bytes_among 0 0x7F 5) s p xs (p + 5)
  unfolding every
  type_good p k first second third fourth fifth = (
    _,
    reads_among s p 5 0 0x7F
        (most_more 0x7F p (p + 1) 4 (omega arith) first (omega arith)
        (most_more 0x7F (p + 1) (p + 2) 3 (omega arith) second (omega arith)
        (most_more 0x7F (p + 2) (p + 3) 2 (omega arith) third (omega arith)
        (most_more 0x7F (p + 3) (p + 4) 1 (omega arith) fourth (omega arith)
        (most_more 0x7F (p + 4) (p + 5) 0 (omega arith) fifth (omega arith) refl))))),
  )

module _ (s : List ℕ) (p : ℕ) (b : Bytes s) where
  -- from the identifier to the level
  pub head_good : (ds : List ℕ) × Reads identifier s p ds (p + 18) → (x : ℕ) × Reads time s (p + 20) x (p + 20 + 5)
      → (x : ℕ) × Reads end_time s (p + 25) x (p + 25 + 5)
      → (xs : List ℕ) × Reads (bytes_among 0 0x7F 5) s (p + 30) xs (p + 30 + 5) → (x : ℕ × ℕ) × Reads (nibbles_among 1 4) s (p + 35) x (p + 35 + 1)
      → (h : HeadFields) × Reads head s p h (p + 36)
  unfolding head
  head_good digits start end type grades = (
    _,
    reads_pair digits.1
        (reads_pair (reads_to {t = p + 20} (omega arith) (reads_number s (p + 18) 2 b))
        (reads_pair (reads_to {t = p + 25} (omega arith) start.1)
        (reads_pair (reads_to {t = p + 30} (omega arith) end.1)
        (reads_pair (reads_to {t = p + 35} (omega arith) type.1) (reads_to (omega arith) grades.1))))),
  )

  -- ---- a message

  -- its head, its resources after their count, and what its flag says
  pub fields_good : {r l : ℕ} (k : ℕ) → k ≡ get_or s (p + 36) 0 → (h : HeadFields) × Reads head s p h (p + 36)
      → (rs : List (List ℕ)) × Reads (times k resource) s (p + 37) rs r → (x : Flagged) × Reads flagged s r x l
      → (m : MessageFields) × Reads message_fields s p m l
  unfolding message_fields number_at
  fields_good k e h rs x =
      let count : number_at s (p + 36) 1 ≡ k = rw add-zero (omega arith) in (
        _,
        reads_pair h.1
            (reads_pair (reads_list resource (rw count at (reads_to {t = p + 37} (omega arith) (reads_count s (p + 36) 1))) rs.1) x.1),
      )

  -- "16-bit EBM_length, then" its fields, which fill it
  pub message_good : {l : ℕ} → p + 2 + number_at s p 2 ≡ l → l ≤ length s → (f : MessageFields) × Reads message_fields s (p + 2) f l
      → (m : Message) × Reads message s p m l
  unfolding message
  message_good e k f = (named f.0, reads_to e (reads_part s p 2 b (rw e (fills_exact PastPart k (reads_view named unnamed f.1)))))

-- ---- the table

-- "8-bit message count; each message", "Last: 16-bit signature length and signature", and no byte left
pub index_good : (s : List ℕ) → Bytes s → {n q m : ℕ} → n ≡ get_or s 0 0 → (ms : List Message) × Reads (times n message) s 1 ms q → q + 2 ≤ length s
    → m ≡ number_at s q 2 → m ≡ length s - q - 2
    → (i : Index) × Fills index s (length s) 0 i
unfolding index fields number_at
index_good s b {n} {q} {m} e ms inside size rest =
    let count : number_at s 0 1 ≡ n = omega arith in
    let end : q + 2 + number_at s q 2 ≡ length s = rw (← size) (omega arith) in (
      _,
      fills_exact LeftOver (le_refl _)
          (reads_view _ _ (reads_pair (reads_list message (rw count at (reads_count s 0 1)) ms.1) (reads_to end (reads_opaque s q 2 b).1))),
    )
