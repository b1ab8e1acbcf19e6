-- M-109's promise, sentence by sentence: two networks over one store of rooms. A box, its calls and runs of them are those of `rooms_account`'s `Runs`; its
-- `Alone` is a machine for one network alone, which knows contents and no rooms.
use Rattle.std.specs.Prelude.{ℕ, ◌+◌, ◌≤◌, true, false, List, ◌↔◌, ◌≡◌, length, Ok, Err}
use Rattle.std.proofs.Math.Option.{Option, some}
use Rattle.ground_refusal.specs.declared.Refusal.{Refusal}
use Rattle.ground_refusal.specs.declared.Refusal.TheVariants.{Contradiction, NoFreeRoom, StoreTooShort}
use Rattle.section_reader.specs.declared.Heading.{Heading}
use Rattle.gathering_state.specs.State.{nothing_begun}
use Rattle.gathering_verdict.specs.declared.Verdict.TheVariants.{Begin}
use Rattle.gathering_feed.specs.declared.Answer.TheVariants.{Taken}
use Rattle.gathering_account.specs.Account.{idle}
use Rattle.rooms_marks.specs.Rooms.{uses}
use Rattle.rooms_state.specs.State.{fresh_part, rooms_in, possible_of, Network, network1, network2, mine, with_mine}
use Rattle.rooms_verdict.specs.Deciding.{verdict_of}
use Rattle.rooms_end.specs.Ending.{ended_of}
use Rattle.rooms_account.specs.Alone.{feeding, ending, fed, ended, alone}
use Rattle.rooms_account.specs.Runs.{Box, fresh_box, Asked, ByteCalls, told, box_after, run, calls_of, answers_of, frees_of, needs_at, FullFor, answers}
use Rattle.rooms_account.specs.Counts.{tally_of, no_tally, CountedBy}
use Rattle.rooms_account.specs.Demand.{account_of, Gathers}
use Rattle.rooms_account.specs.Exchange.{exchanged_box, exchanged_all}

-- a box whose state is possible over its store
abbrev pub Possible : Box → Type 0
Possible x = possible_of x.state (length x.store) ≡ true

-- a box after any calls from the start, in any interleaving, over any store
abbrev pub ran_on : List ℕ → List Asked → Box
ran_on store asked = run (fresh_box store) asked

pub record Rooms : Type 0 where
  -- "A section that needs a room is refused for room exactly if every room is held; repeats and contradictions need none"
  pub refused_for_room_lem : (i : Network) (x : Box) → Possible x → (s : List ℕ)
      → (told (some i) x (feeding s) ≡ fed (Err NoFreeRoom)) ↔ ((needs_at i x (feeding s) ≡ true) × FullFor i x s)
  -- "a takeover gives its rooms back before it takes one": so it is taken, and never refused for room
  pub takeover : (i : Network) (x : Box) → Possible x → (s : List ℕ) (h : Heading) → verdict_of (mine i x.state) x.store s ≡ Ok (Begin h)
      → nothing_begun (mine i x.state).gathering ≡ false → told (some i) x (feeding s) ≡ fed (Ok Taken)
  -- 12 is never given from the start on,
  pub possible : (store : List ℕ) (asked : List Asked) → ByteCalls asked → Possible (ran_on store asked)
  -- "No room is ever held twice",
  pub no_room_twice : (store : List ℕ) (asked : List Asked) → ByteCalls asked → (r : ℕ) → 1 ≤ r → r ≤ rooms_in (length store)
      → uses r (ran_on store asked).state.one.rooms (ran_on store asked).state.two.rooms ≤ 1
  -- "and held plus free rooms is the smaller of 512 and the whole rooms in the store's length, each counted from the takes and returns so far"
  pub counted : (store : List ℕ) (asked : List Asked) → ByteCalls asked
      → let one = tally_of network1 (fresh_box store) asked no_tally in
      let two = tally_of network2 (fresh_box store) asked no_tally in
      CountedBy (ran_on store asked) (length store) (one.takes + two.takes) (one.returns + two.returns)
  -- "A network's answers depend on its own calls and on whether a room was free at each of its takes, and on nothing else of the other's": they are those of
  -- the machine for one network alone;
  pub independent : (i : Network) (store : List ℕ) (asked : List Asked) → ByteCalls asked
      → answers_of i (fresh_box store) asked ≡ alone idle (calls_of i asked) (frees_of i (fresh_box store) asked)
  -- so two runs that agree on one network's calls and on those free rooms agree on its answers, whatever the other did and whatever the stores are
  pub agreeing : (i : Network) (store store' : List ℕ) (asked asked' : List Asked) → ByteCalls asked → ByteCalls asked'
      → calls_of i asked ≡ calls_of i asked' → frees_of i (fresh_box store) asked ≡ frees_of i (fresh_box store') asked'
      → answers_of i (fresh_box store) asked ≡ answers_of i (fresh_box store') asked'
  -- "Demand 3 holds for each network, with "the store has room" read as a free room; a section refused for room counts as not fed"
  pub demand_3 : (i : Network) (store : List ℕ) (asked : List Asked) → ByteCalls asked → (out : List ℕ)
      → Gathers i (account_of i (fresh_box store) idle asked) (ran_on store asked) out
  -- "10 is not given"
  pub never_ten : (i : Network) (x : Box) → Possible x → (s : List ℕ) → told (some i) x (feeding s) ≡ fed (Err StoreTooShort) → ⊥
  -- "ending a gathering, begun or not, complete or not, [..] leaves that network's part fresh", and the other's as it was
  pub ends : (i : Network) (x : Box) → Possible x
      → ended_of (some i) x.state (length x.store) ≡ record { answer = (Ok tt); state = with_mine i x.state fresh_part }
  -- a refused call leaves state and store as they were, but that 11 for a contradiction spoils its network's gathering
  pub feed_leaves : (o : Option Network) (x : Box) (s : List ℕ) (r : Refusal) → told o x (feeding s) ≡ fed (Err r) → (r ≡ Contradiction → ⊥)
      → box_after o x (feeding s) ≡ x
  pub end_leaves : (o : Option Network) (x : Box) (r : Refusal) → told o x ending ≡ ended (Err r) → box_after o x ending ≡ x
  -- both networks exchanged give the exchanged answers, from any box
  pub exchanged : (asked : List Asked) (x : Box) → answers (exchanged_box x) (exchanged_all asked) ≡ answers x asked
