-- M-109's promise, by the theorems about two networks over one store.
use Prim.Native.Nat.{ℕ, ◌≤◌}
use Rattle.std.specs.Prelude.{Ok}
use mathlib.Core.List.{List}
use mathlib.Core.Option.{some}
use mathlib.Core.Path.{◌≡◌}
use lib.ListN.{length}
use Rattle.rooms_marks.specs.Rooms.{uses}
use Rattle.rooms_state.specs.State.{fresh_part, rooms_in, Network, with_mine}
use Rattle.rooms_state.proofs.Facts.{networks_are}
use Rattle.rooms_end.specs.Ending.{ended_for, ended_of}
use Rattle.rooms_account.specs.Runs.{Box, fresh_box, Asked, ByteCalls}
use Rattle.rooms_account.proofs.Runs.{run_possible, fresh_possible, from_the_start, agreeing}
use Rattle.rooms_account.proofs.Refusing.{refused_for_room_lem, takeover_taken, never_ten, refused_leaves, end_refused_leaves}
use Rattle.rooms_account.proofs.Counts.{run_long, counted}
use Rattle.rooms_account.proofs.Demand.{demand_3}
use Rattle.rooms_account.proofs.Exchange.{exchanging}
use Rattle.promises.specs.Rooms.{Rooms, Possible, ran_on}

possible : (store : List ℕ) (asked : List Asked) → ByteCalls asked → Possible (ran_on store asked)
possible store asked b = run_possible asked (fresh_box store) (fresh_possible store) b

long : (store : List ℕ) (asked : List Asked) → ByteCalls asked → length (ran_on store asked).store ≡ length store
unfolding fresh_box
long store asked b = run_long asked (fresh_box store) (fresh_possible store) b

once : (store : List ℕ) (asked : List Asked) → ByteCalls asked → (r : ℕ) → 1 ≤ r → r ≤ rooms_in (length store)
    → uses r (ran_on store asked).state.one.rooms (ran_on store asked).state.two.rooms ≤ 1
once store asked b = (networks_are (ran_on store asked).state (length store) (rw (long store asked b) at (possible store asked b))).sound.once

ends : (i : Network) (x : Box) → Possible x
    → ended_of (some i) x.state (length x.store) ≡ record { answer = (Ok tt); state = with_mine i x.state fresh_part }
unfolding ended_of ended_for
ends i x ok = rw ok

pub rooms : Rooms
rooms =
    record {
      refused_for_room_lem = refused_for_room_lem;
      takeover = takeover_taken;
      possible = possible;
      no_room_twice = once;
      counted = counted;
      independent = from_the_start;
      agreeing = agreeing;
      demand_3 = demand_3;
      never_ten = never_ten;
      ends = ends;
      feed_leaves = refused_leaves;
      end_leaves = end_refused_leaves;
      exchanged = exchanging;
    }
