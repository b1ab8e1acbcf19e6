-- What a reader has to believe of takes and returns: how many rooms each network has taken and given back so far.
use Rattle.std.specs.Prelude.{ℕ, ◌+◌, ◌/◌, min, ◌≡◌, List, [], ◌∷◌, length, if◌then◌else◌, Result, Ok, Err}
use Rattle.ground_refusal.specs.declared.Refusal.{Refusal}
use Rattle.ground_numbers.specs.Sizes.{payload_most}
use Rattle.gathering_verdict.specs.declared.Verdict.{Verdict}
use Rattle.gathering_verdict.specs.declared.Verdict.TheVariants.{Repeat, Contradict, Begin, Take}
use Rattle.rooms_marks.specs.Rooms.{held_rooms}
use Rattle.rooms_state.specs.State.{rooms_in, Network, mine, theirs}
use Rattle.rooms_feed.specs.Feeding.{room_verdict}
use Rattle.rooms_count.specs.Counting.{held, free}
use Rattle.rooms_account.specs.Alone.{Call, feeding, handing_out, ending}
use Rattle.rooms_account.specs.Runs.{Box, Asked, next, owns}

pub record Tally : Type 0 where
  pub takes : ℕ
  pub returns : ℕ

-- "taken one for each section whose number isn't yet held, and given back when [..] a takeover by M-100 does": what begins gives back all that is held
unfoldable pub tally_fed : Tally → ℕ → Result Verdict Refusal → Tally
tally_fed t rooms (Err r) = t
tally_fed t rooms (Ok Repeat) = t
tally_fed t rooms (Ok Contradict) = t
tally_fed t rooms (Ok (Begin h)) = record { takes = t.takes + 1; returns = t.returns + rooms }
tally_fed t rooms (Ok (Take h)) = record { takes = t.takes + 1; returns = t.returns }

-- "given back when a network ends its own gathering"
unfoldable pub tallied : Network → Box → Call → Tally → Tally
tallied i x (feeding s) t =
    tally_fed t (held_rooms (mine i x.state).rooms) (room_verdict (rooms_in (length x.store)) (mine i x.state) (theirs i x.state).rooms x.store s)
tallied i x (handing_out out) t = t
tallied i x ending t = record { takes = t.takes; returns = t.returns + held_rooms (mine i x.state).rooms }

-- the tally of network i after a run
unfoldable pub tally_of : Network → Box → List Asked → Tally → Tally
tally_of i x [] t = t
tally_of i x (a ∷ asked) t = tally_of i (next x a) asked (if owns i a then tallied i x a.call t else t)

unfoldable pub no_tally : Tally
no_tally = record { takes = 0; returns = 0 }

-- "held plus free rooms is the smaller of 512 and the whole rooms in the store's length, each counted from the takes and returns so far"
pub record CountedBy (x : Box) (bytes takes returns : ℕ) : Type 0 where
  -- what is held, and what was given back, is all that was taken
  pub held_is : held x.state + returns ≡ takes
  pub together : held x.state + free x.state bytes ≡ min 512 (bytes / payload_most)
  -- what is free, and all that was taken, is what was given back and all rooms
  pub free_is : free x.state bytes + takes ≡ min 512 (bytes / payload_most) + returns
