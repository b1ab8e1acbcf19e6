-- What a reader has to believe of a run of calls for two networks: each is made for a network by its number, in any interleaving.
use Rattle.std.specs.Prelude.{ℕ, ◌≤◌, ◌≡◌, Bool, true, false, ltb, length, if◌then◌else◌, Result, Ok, Err}
use Rattle.ground_refusal.specs.declared.Refusal.{Refusal}
use mathlib.Core.List.{List, [], ◌∷◌, Memᴰ as In}
use Rattle.std.proofs.Math.Option.{Option, none, some}
use Rattle.crc.specs.Crc.{AreBytes}
use Rattle.rooms_marks.specs.Rooms.{uses}
use Rattle.rooms_state.specs.State.{fresh_networks, rooms_in, Network, network1, network2, network_of, mine, theirs}
use Rattle.rooms_state.specs.declared.Networks.{Networks}
use Rattle.gathering_verdict.specs.declared.Verdict.{Verdict}
use Rattle.gathering_verdict.specs.declared.Verdict.TheVariants.{Repeat, Contradict, Begin, Take}
use Rattle.rooms_verdict.specs.Deciding.{verdict_of}
use Rattle.rooms_feed.specs.Feeding.{base, room_for, fed_of, store_after}
use Rattle.rooms_hand_out.specs.Handing.{handed_of, out_after}
use Rattle.rooms_end.specs.Ending.{ended_of}
use Rattle.rooms_account.specs.Alone.{Call, feeding, handing_out, ending, Told, fed, handed, ended}

-- ---- a box

pub record Box : Type 0 where
  pub state : Networks
  pub store : List ℕ

-- the start: the store may hold anything
unfoldable pub fresh_box : List ℕ → Box
fresh_box store = record { state = fresh_networks (length store); store = store }

-- a call, and the number of the network for which it is made
pub record Asked : Type 0 where
  pub network : ℕ
  pub call : Call

-- what the calls of C answer, and leave
unfoldable pub told : Option Network → Box → Call → Told
told o x (feeding s) = fed (fed_of o x.state x.store s).answer
told o x (handing_out out) = handed (handed_of o x.state x.store out) (out_after o x.state x.store out)
told o x ending = ended (ended_of o x.state (length x.store)).answer

unfoldable pub box_after : Option Network → Box → Call → Box
box_after o x (feeding s) = record { state = (fed_of o x.state x.store s).state; store = store_after o x.state x.store s }
box_after o x (handing_out out) = x
box_after o x ending = record { state = (ended_of o x.state (length x.store)).state; store = x.store }

unfoldable pub answer : Box → Asked → Told
answer x a = told (network_of a.network) x a.call

unfoldable pub next : Box → Asked → Box
next x a = box_after (network_of a.network) x a.call

unfoldable pub run : Box → List Asked → Box
run x [] = x
run x (a ∷ asked) = run (next x a) asked

-- what is fed are strings of bytes, whatever else they are
unfoldable pub ByteCalls : List Asked → Type 0
ByteCalls asked = (a : Asked) → In a asked → (s : List ℕ) → a.call ≡ feeding s → AreBytes s

-- ---- what a network sees of a run

unfoldable pub same_network : Network → Network → Bool
same_network network1 network1 = true
same_network network1 network2 = false
same_network network2 network1 = false
same_network network2 network2 = true

unfoldable pub is_of : Network → Option Network → Bool
is_of i none = false
is_of i (some j) = same_network i j

unfoldable pub owns : Network → Asked → Bool
owns i a = is_of i (network_of a.network)

-- is a room free for this call? Once the rooms that its takeover gives back are given back
unfoldable pub free_for : Network → Box → Call → Bool
free_for i x (feeding s) =
    ltb 0 (room_for (rooms_in (length x.store)) (mine i x.state) (theirs i x.state).rooms (verdict_of (mine i x.state) x.store s))
free_for i x (handing_out out) = true
free_for i x ending = true

-- "every room is held", once the rooms that a takeover gives back are given back
unfoldable pub FullFor : Network → Box → List ℕ → Type 0
FullFor i x s =
    (r : ℕ) → 1 ≤ r → r ≤ rooms_in (length x.store)
    → 1 ≤ uses r (base (mine i x.state) (verdict_of (mine i x.state) x.store s)).rooms (theirs i x.state).rooms

-- its own calls
unfoldable pub calls_of : Network → List Asked → List Call
calls_of i [] = []
calls_of i (a ∷ asked) = if owns i a then a.call ∷ calls_of i asked else calls_of i asked

-- the answers to them
unfoldable pub answers_of : Network → Box → List Asked → List Told
answers_of i x [] = []
answers_of i x (a ∷ asked) = if owns i a then answer x a ∷ answers_of i (next x a) asked else answers_of i (next x a) asked

-- does this call need a room?
unfoldable pub takes : Result Verdict Refusal → Bool
takes (Err r) = false
takes (Ok Repeat) = false
takes (Ok Contradict) = false
takes (Ok (Begin h)) = true
takes (Ok (Take h)) = true

unfoldable pub needs_at : Network → Box → Call → Bool
needs_at i x (feeding s) = takes (verdict_of (mine i x.state) x.store s)
needs_at i x (handing_out out) = false
needs_at i x ending = false

-- of each of its sections that needed a room, whether one was free
unfoldable pub frees_of : Network → Box → List Asked → List Bool
frees_of i x [] = []
frees_of i x (a ∷ asked) =
    if owns i a then
    (if needs_at i x a.call then free_for i x a.call ∷ frees_of i (next x a) asked else frees_of i (next x a) asked)
    else frees_of i (next x a) asked

-- all answers, to whomever
unfoldable pub answers : Box → List Asked → List Told
answers x [] = []
answers x (c ∷ asked) = answer x c ∷ answers (next x c) asked
