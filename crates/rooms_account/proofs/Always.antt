-- A store of one's own, of 256 × 4,084 bytes, has room for every table that a byte string can name.
use Prim.Native.Nat.{ℕ, ◌+◌, ◌*◌, ◌≤◌}
use mathlib.Core.Path.{◌≡◌, refl}
use mathlib.Core.Bool.{Bool, true, false}
use mathlib.Core.List.{List}
use native.Mathlib.Omega.{arith}
use borrow.Author.Tests.{le-leb}
use Rattle.std.specs.Prelude.{if◌then◌else◌, Ok}
use Rattle.crc.specs.Crc.{AreBytes}
use Rattle.section_reader.specs.Section.{payload_of, read_section}
use Rattle.section_reader.specs.declared.Heading.{Heading}
use Rattle.section_reader.proofs.RoundTrip.{good_printed}
use Rattle.gathering_state.specs.State.{has_room}
use Rattle.gathering_account.specs.Account.{Heard, nothing, good_current, heard_as, heard, Account, idle, table, begun, account_after}
use Rattle.gathering_account.specs.Answering.{answer_of_first, answer_of_good, answer_of_read, answer_to}
use Rattle.gathering_account.proofs.Hearing.{ReadAs, as_good, as_bad, read_as}
use Rattle.rooms_account.specs.Alone.{always}

pub own_room : (last : ℕ) → last ≤ 255 → has_room 1045504 last ≡ true
unfolding has_room
own_room last l = le-leb ((last + 1) * 4084) 1045504 (omega arith)

-- the last number of a good section is at most 255
pub good_last : (s : List ℕ) → AreBytes s → (h : Heading) (n : ℕ) → read_section s ≡ Ok (h, n) → h.last ≤ 255
good_last s b h n e = (good_printed s h n b e).formed.last_high

module _ (h : Heading) (p : List ℕ) (l : h.last ≤ 255) where
  begun_same : (a : Account) → begun (has_room 1045504) a h p ≡ begun always a h p
  unfolding begun always
  begun_same a = rw (own_room h.last l)

  after_good : (a : Account) → account_after (has_room 1045504) a (good_current h p) ≡ account_after always a (good_current h p)
  unfolding account_after
  after_good idle = begun_same idle
  after_good (table t S) = rw (begun_same (table t S))

  first_same : answer_of_first (has_room 1045504) h ≡ answer_of_first always h
  unfolding answer_of_first always
  first_same = rw (own_room h.last l)

  answer_good : (a : Account) → answer_of_good (has_room 1045504) a h p ≡ answer_of_good always a h p
  unfolding answer_of_good
  answer_good idle = first_same
  answer_good (table t S) = rw first_same

module _ (a : Account) (s : List ℕ) (b : AreBytes s) where
  after_heard : (x : Heard) → ((h : Heading) (p : List ℕ) → x ≡ good_current h p → h.last ≤ 255) → account_after (has_room 1045504) a x ≡ account_after always a x
  unfolding account_after
  after_heard nothing f = refl
  after_heard (good_current h p) f = after_good h p (f h p refl) a

  heard_last : (h : Heading) (p : List ℕ) → heard s ≡ good_current h p → h.last ≤ 255
  unfolding heard heard_as
  heard_last h p e = go (read_as s)
    where
      current : (i : Heading) → i.last ≤ 255 → (c : Bool) → (if c then good_current i (payload_of s) else nothing) ≡ good_current h p → h.last ≤ 255
      current i l true f = let q : i ≡ h = cc in rw (← q) l
      current i l false f = let z : ◌≡◌ {A = ℕ} 0 1 = cc in absurd (omega arith)

      go : ReadAs s → h.last ≤ 255
      go (as_good i n f) = current i (good_last s b i n f) i.current (rw f at e)
      go (as_bad r f) = let q = rw f at e in let z : ◌≡◌ {A = ℕ} 0 1 = cc in absurd (omega arith)

  pub always_after : account_after (has_room 1045504) a (heard s) ≡ account_after always a (heard s)
  always_after = after_heard (heard s) heard_last

  pub always_answer : answer_to (has_room 1045504) a s ≡ answer_to always a s
  unfolding answer_to answer_of_read
  always_answer = go (read_as s)
    where
      go : ReadAs s → answer_of_read (has_room 1045504) a s (read_section s) ≡ answer_of_read always a s (read_section s)
      go (as_good h n e) = rw (e, answer_good h (payload_of s) (good_last s b h n e) a)
      go (as_bad r e) = rw e
