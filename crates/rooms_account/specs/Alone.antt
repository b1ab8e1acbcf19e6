-- What a reader has to believe of one network alone: a machine that knows its account, so contents and no rooms and no store. Whether a room is free is handed
-- in from outside. What is heard, counted and answered is the single gathering's, with room for every table.
use Rattle.std.specs.Prelude.{ℕ, zero, suc, ◌+◌, Bool, true, false, not, ◌&&◌, List, [], ◌∷◌, length, if◌then◌else◌, Result, Ok, Err}
use Rattle.ground_refusal.specs.declared.Refusal.{Refusal}
use Rattle.ground_refusal.specs.declared.Refusal.TheVariants.{Contradiction, Missing, NoFreeRoom}
use Rattle.gathering_feed.specs.declared.Answer.{Answer}
use Rattle.gathering_feed.specs.declared.Answer.TheVariants.{Taken, HeldAlready}
use Rattle.gathering_hand_out.specs.Handing.{handed_if_room, out_by}
use Rattle.gathering_account.specs.Account.{heard, Section, Account, idle, table, account_after, body_of}
use Rattle.gathering_account.specs.Answering.{present, agreeing, answer_to}
use Rattle.gathering_account.specs.Calls.{covering}

-- ---- the calls of one network, and what it is told

pub data Call : Type 0 where
  feeding : List ℕ → Call
  -- into this output
  handing_out : List ℕ → Call
  ending : Call

pub data Told : Type 0 where
  fed : Result Answer Refusal → Told
  -- the answer, and the output after it
  handed : Result ℕ Refusal → List ℕ → Told
  ended : Result Unit Refusal → Told

-- ---- feeding

-- a free room is all that a section of any table needs
unfoldable pub always : ℕ → Bool
always last = true

unfoldable pub is_taken : Result Answer Refusal → Bool
is_taken (Ok Taken) = true
is_taken (Ok HeldAlready) = false
is_taken (Err r) = false

-- a section needs a room if it is taken where one is free; "repeats and contradictions need none"
unfoldable pub needs_room : Account → List ℕ → Bool
needs_room a s = is_taken (answer_to always a s)

-- "A section that needs a room is refused for room exactly if every room is held"
unfoldable pub refused_for_room : Account → List ℕ → Bool → Bool
refused_for_room a s free = needs_room a s && not free

unfoldable pub answer_fed : Account → List ℕ → Bool → Result Answer Refusal
answer_fed a s free = if refused_for_room a s free then Err NoFreeRoom else answer_to always a s

-- "a section refused for room counts as not fed"
unfoldable pub account_fed : Account → List ℕ → Bool → Account
account_fed a s free = if refused_for_room a s free then a else account_after always a (heard s)

-- ---- handing out

-- the first of the n numbers from k on of which there is no section
unfoldable pub absent_from : List Section → ℕ → ℕ → ℕ
absent_from S k zero = k
absent_from S k (suc n) = if present k S then absent_from S (suc k) n else k

-- "13 if nothing begun; 11; 13; 21"
unfoldable pub handed_to : Account → ℕ → Result ℕ Refusal
handed_to idle room = Err (Missing 0)
handed_to (table h S) room =
    if not (agreeing S) then Err Contradiction else
    if not (covering (h.last + 1) S) then Err (Missing (absent_from S 0 (h.last + 1))) else
    handed_if_room (length (body_of (table h S))) room

unfoldable pub out_to : Account → List ℕ → List ℕ
out_to a out = out_by (body_of a) out (handed_to a (length out))

-- ---- the machine

unfoldable pub tells : Account → Call → Bool → Told
tells a (feeding s) free = fed (answer_fed a s free)
tells a (handing_out out) free = handed (handed_to a (length out)) (out_to a out)
tells a ending free = ended (Ok tt)

-- "Handing out returns no rooms"; the end "leaves that network's part fresh"
unfoldable pub after : Account → Call → Bool → Account
after a (feeding s) free = account_fed a s free
after a (handing_out out) free = a
after a ending free = idle

unfoldable pub needs : Account → Call → Bool
needs a (feeding s) = needs_room a s
needs a (handing_out out) = false
needs a ending = false

-- ---- a run of one network alone

-- `frees` tells of each section that needs a room, in their order, whether one was free; calls that need none take nothing from it
unfoldable pub free_now : Bool → List Bool → Bool
free_now false frees = true
free_now true [] = true
free_now true (f ∷ frees) = f

unfoldable pub frees_left : Bool → List Bool → List Bool
frees_left false frees = frees
frees_left true [] = []
frees_left true (f ∷ frees) = frees

unfoldable pub alone : Account → List Call → List Bool → List Told
alone a [] frees = []
alone a (c ∷ calls) frees =
    tells a c (free_now (needs a c) frees) ∷ alone (after a c (free_now (needs a c) frees)) calls (frees_left (needs a c) frees)
