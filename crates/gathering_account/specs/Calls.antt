-- What a reader has to believe of a run of calls, feeds and both ways of handing out in any order: what each does to a box, and what the account makes of it.
use Rattle.std.specs.Prelude.{ℕ, zero, suc, ◌+◌, ◌≡◌, Bool, true, false, ◌&&◌, ◌↔◌, length, if◌then◌else◌, Result, Ok, Err}
use mathlib.Core.List.{List, [], ◌∷◌, Memᴰ as In}
use Rattle.crc.specs.Crc.{AreBytes}
use Rattle.ground_refusal.specs.declared.Refusal.{Refusal}
use Rattle.ground_refusal.specs.declared.Refusal.TheVariants.{Contradiction, Missing}
use Rattle.ground_placing.specs.Placed.{placed}
use Rattle.section_reader.specs.declared.Heading.{Heading}
use Rattle.gathering_state.specs.State.{possible_of, CountsRight}
use Rattle.gathering_pack.specs.Packing.{packing_of, store_packed}
use Rattle.gathering_account.specs.Account.{heard, Section, Account, idle, table, account_after, Agree, Complete, body_of}
use Rattle.gathering_account.specs.Answering.{present, agreeing, answer_to}
use Rattle.gathering_account.specs.Gathers.{Box, fresh_box, feed, fed_answer, Fixes, SmallestMissing, Answers}

-- ---- packing: the other way of handing out

abbrev pub packed_answer : Box → Result ℕ Refusal
packed_answer box = (packing_of box.state box.store).answer

unfoldable pub pack : Box → Box
pack box = record { state = (packing_of box.state box.store).state; store = store_packed box.state box.store }

-- this body is packed: "the joined body there, its length, and a fresh state"; "bytes beyond the body keep their values"
pub record Packs (box : Box) (body : List ℕ) : Type 0 where
  pub answers : packed_answer box ≡ Ok (length body)
  -- a fresh box over the store as it now stands, so that all that is said of a fresh box holds from here on
  pub leaves : pack box ≡ fresh_box (placed box.store 0 body)
  -- "The total of held bytes before equals the body length after"
  pub counted : box.state.bytes ≡ length body

-- nothing is packed, and nothing changes
pub record PacksNothing (box : Box) (r : Refusal) : Type 0 where
  pub answers : packed_answer box ≡ Err r
  pub leaves : pack box ≡ box

-- every answer: "12, 13, 10, 11, 13 in handing-out order, with no 21", or the body
pub data PackAnswers (box : Box) : Account → Type 0 where
  none_to_pack : PacksNothing box (Missing 0) → PackAnswers box idle
  differing : {h : Heading} {S : List Section} → (Agree S → ⊥) → PacksNothing box Contradiction → PackAnswers box (table h S)
  lacking : {h : Heading} {S : List Section} (k : ℕ) → Agree S → SmallestMissing k h.last S → PacksNothing box (Missing k) → PackAnswers box (table h S)
  packed : {h : Heading} {S : List Section} → Complete (table h S) → Packs box (body_of (table h S)) → PackAnswers box (table h S)

-- ---- a run of calls

-- a byte string is fed, the body is handed out into this output, or it is packed
pub data Call : Type 0 where
  feeding : List ℕ → Call
  handing_out : List ℕ → Call
  packing : Call

-- what is fed are strings of bytes, whatever else they are
unfoldable pub ByteCalls : List Call → Type 0
ByteCalls calls = (s : List ℕ) → In (feeding s) calls → AreBytes s

-- handing out: "bytes after it stay, and so do store and state"
unfoldable pub box_after_call : Box → Call → Box
box_after_call box (feeding s) = feed box s
box_after_call box (handing_out out) = box
box_after_call box packing = pack box

unfoldable pub box_after_calls : Box → List Call → Box
box_after_calls box [] = box
box_after_calls box (c ∷ calls) = box_after_calls (box_after_call box c) calls

-- ---- the account of a run of calls, with no state and no store

-- "cover every number", as a test: the numbers below n
unfoldable pub covering : ℕ → List Section → Bool
covering zero S = true
covering (suc n) S = covering n S && present n S

-- `Complete`, as a test
unfoldable pub is_complete : Account → Bool
is_complete idle = false
is_complete (table h S) = covering (h.last + 1) S && agreeing S

-- "a second way of handing out, which ends the gathering": nothing of the table is remembered
unfoldable pub account_after_call : (ℕ → Bool) → Account → Call → Account
account_after_call room a (feeding s) = account_after room a (heard s)
account_after_call room a (handing_out out) = a
account_after_call room a packing = if is_complete a then idle else a

unfoldable pub account_of_calls : (ℕ → Bool) → Account → List Call → Account
account_of_calls room a [] = a
account_of_calls room a (c ∷ calls) = account_of_calls room (account_after_call room a c) calls

-- ---- demand 3, of a box and the account of all the calls before: whichever call is next, its answer and what it leaves are as the account says
pub record Serves (room : ℕ → Bool) (a : Account) (box : Box) : Type 0 where
  pub fixed : Fixes a box.state
  pub possible : possible_of box.state ≡ true
  -- "After every operation they equal what counting afresh gives"
  pub counts : CountsRight box.state
  pub feeds : (s : List ℕ) → fed_answer box s ≡ answer_to room a s
  pub hands_out : (out : List ℕ) → Answers box out a
  pub packs : PackAnswers box a
  -- "a body is handed out exactly when" the account is complete, in this way too
  pub packs_exactly : ((n : ℕ) × (packed_answer box ≡ Ok n)) ↔ Complete a
