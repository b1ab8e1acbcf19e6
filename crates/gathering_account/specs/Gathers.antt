-- What a reader has to believe of demand 3: what a box with a state and a store, and its handing out, have to do with the account of what it was fed.
use Rattle.std.specs.Prelude.{ℕ, ◌≤◌, ◌<◌, ◌≡◌, length, Result, Ok, Err}
use mathlib.Core.List.{List, [], ◌∷◌, Memᴰ as In}
use Rattle.crc.specs.Crc.{AreBytes}
use Rattle.ground_refusal.specs.declared.Refusal.{Refusal}
use Rattle.ground_refusal.specs.declared.Refusal.TheVariants.{Contradiction, Missing, OutputTooSmall}
use Rattle.ground_placing.specs.Placed.{placed}
use Rattle.section_reader.specs.declared.Heading.{Heading}
use Rattle.gathering_state.specs.State.{fresh_state}
use Rattle.gathering_state.specs.declared.Gathering.{Gathering}
use Rattle.gathering_feed.specs.Feeding.{fed_of, store_after}
use Rattle.gathering_feed.specs.declared.Answer.{Answer}
use Rattle.gathering_hand_out.specs.Handing.{handed_of, out_after}
use Rattle.gathering_account.specs.Account.{Section, Account, idle, table, Agree, Present, Complete, body_of}

-- ---- a run of feeds

-- "The box lends one gathering state and each call updates it", and so it does with the store
pub record Box : Type 0 where
  pub state : Gathering
  pub store : List ℕ

-- "A fresh state holds nothing"; the store may hold anything
unfoldable pub fresh_box : List ℕ → Box
fresh_box store = record { state = fresh_state; store = store }

-- what is fed are strings of bytes, whatever else they are
unfoldable pub ByteStrings : List (List ℕ) → Type 0
ByteStrings fed = (s : List ℕ) → In s fed → AreBytes s

unfoldable pub feed : Box → List ℕ → Box
feed box s = record { state = (fed_of box.state box.store s).state; store = store_after box.state box.store s }

unfoldable pub box_after : Box → List (List ℕ) → Box
box_after box [] = box
box_after box (s ∷ fed) = box_after (feed box s) fed

-- what a feed answers, and all the feeds of a run, in its order
abbrev pub fed_answer : Box → List ℕ → Result Answer Refusal
fed_answer box s = (fed_of box.state box.store s).answer

unfoldable pub answers_of : Box → List (List ℕ) → List (Result Answer Refusal)
answers_of box [] = []
answers_of box (s ∷ fed) = fed_answer box s ∷ answers_of (feed box s) fed

-- ---- handing out

abbrev pub handing : Box → List ℕ → Result ℕ Refusal
handing box out = handed_of box.state box.store out

abbrev pub handed_output : Box → List ℕ → List ℕ
handed_output box out = out_after box.state box.store out

-- this body is handed out, "at the start of the output; bytes after it stay"
pub record HandsOut (box : Box) (out body : List ℕ) : Type 0 where
  pub answers : handing box out ≡ Ok (length body)
  pub writes : handed_output box out ≡ placed out 0 body

-- nothing is handed out; a refusal "writes no byte"
pub record Refuses (box : Box) (out : List ℕ) (r : Refusal) : Type 0 where
  pub answers : handing box out ≡ Err r
  pub writes : handed_output box out ≡ out

-- ---- handing out, by the account

-- the state knows the table that the account has fixed
unfoldable pub Fixes : Account → Gathering → Type 0
Fixes idle g = g ≡ fresh_state
Fixes (table h S) g = (g.kind ≡ h.kind) × (g.extension ≡ h.extension) × (g.version ≡ h.version) × (g.last ≡ h.last)

-- demand 3, of a box, the account of what it was fed, and any output
pub record Gathers (a : Account) (box : Box) (out : List ℕ) : Type 0 where
  pub fixed : Fixes a box.state
  -- "a body is handed out exactly when" the account is complete: only then,
  pub only_when : (n : ℕ) → handing box out ≡ Ok n → Complete a
  -- and then, if the output has room for it;
  pub when : Complete a → length (body_of a) ≤ length out → HandsOut box out (body_of a)
  -- "and it is their contents in number order"
  pub body_is : (n : ℕ) → handing box out ≡ Ok n → HandsOut box out (body_of a)

-- "13: a section is missing; the smallest missing number is shown"
pub record SmallestMissing (k last : ℕ) (S : List Section) : Type 0 where
  pub of_table : k ≤ last
  pub missing : Present k S → ⊥
  pub smallest : (j : ℕ) → j < k → Present j S

-- every answer: "13 if nothing begun; [..] 11; 13; [..] 21", or the body
pub data Answers (box : Box) (out : List ℕ) : Account → Type 0 where
  nothing_begun_lem : Refuses box out (Missing 0) → Answers box out idle
  two_differ : {h : Heading} {S : List Section} → (Agree S → ⊥) → Refuses box out Contradiction → Answers box out (table h S)
  one_missing : {h : Heading} {S : List Section} (k : ℕ) → Agree S → SmallestMissing k h.last S → Refuses box out (Missing k) → Answers box out (table h S)
  too_small : {h : Heading} {S : List Section} → Complete (table h S) → length out < length (body_of (table h S)) → Refuses box out OutputTooSmall
      → Answers box out (table h S)
  handed_out : {h : Heading} {S : List Section} → Complete (table h S) → length (body_of (table h S)) ≤ length out → HandsOut box out (body_of (table h S))
      → Answers box out (table h S)
