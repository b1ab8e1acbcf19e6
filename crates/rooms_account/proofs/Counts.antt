-- Held and free rooms are the rooms of the store, and what is held is what was taken and not given back.
use Prim.Native.Nat.{ℕ, ◌+◌, ◌/◌, min}
use mathlib.Core.Path.{◌≡◌, refl, ◌∙◌}
use mathlib.Core.Bool.{true, false}
use mathlib.Core.List.{List, [], ◌∷◌}
use mathlib.Core.Option.{Option, none, some}
use native.Mathlib.Omega.{arith}
use lib.ListN.{length}
use Rattle.std.specs.Prelude.{if◌then◌else◌}
use Rattle.crc.specs.Crc.{AreBytes}
use Rattle.rooms_marks.specs.Rooms.{held_rooms}
use Rattle.rooms_marks.proofs.Counting.{held_zeros}
use Rattle.rooms_state.specs.State.{fresh_part, fresh_networks, rooms_in, possible_of, Network, network1, network2, network_of, mine, theirs}
use Rattle.rooms_verdict.specs.Deciding.{verdict_of}
use Rattle.rooms_feed.specs.Feeding.{room_for, room_verdict}
use Rattle.rooms_count.specs.Counting.{held, free}
use Rattle.rooms_count.proofs.Counting.{held_plus_free}
use Rattle.rooms_account.specs.Alone.{Call, feeding, handing_out, ending}
use Rattle.rooms_account.specs.Runs.{Box, fresh_box, Asked, box_after, next, run, ByteCalls, same_network, is_of, owns}
use Rattle.rooms_account.specs.Counts.{Tally, tallied, tally_of, no_tally, CountedBy}
use Rattle.rooms_account.proofs.Feeding.{balanced_by}
use Rattle.rooms_account.proofs.Calls.{possible, part, sound, mine_with, other_with, fed_next, handed_next, ended_next, step}
use Rattle.rooms_account.proofs.Runs.{Whose, own_call, other_call, nobodys, whose, same_self, nobody_next, ByteCall, first_bytes, rest_bytes}
use Rattle.rooms_account.proofs.Runs.{next_possible, run_possible, fresh_possible}

-- what a network holds, and all it gave back, is all it took
abbrev Balanced : Network → Box → Tally → Type 0
Balanced i x t = held_rooms (part i x).rooms + t.returns ≡ t.takes

fresh_holds : held_rooms fresh_part.rooms ≡ 0
unfolding fresh_part
fresh_holds = held_zeros 256

-- ---- one call

module _ (i : Network) (x : Box) (ok : possible x ≡ true) (t : Tally) (b : Balanced i x t) where
  own_balanced : (c : Call) → ((s : List ℕ) → c ≡ feeding s → AreBytes s) → Balanced i (box_after (some i) x c) (tallied i x c t)
  unfolding tallied room_verdict
  own_balanced (feeding s) are_bytes =
      rw (fed_next i x ok s, mine_with i x.state _)
      (balanced_by (rooms_in (length x.store)) (part i x) (theirs i x.state) x.store (sound i x ok) s (are_bytes s refl)
      (room_for (rooms_in (length x.store)) (part i x) (theirs i x.state).rooms (verdict_of (part i x) x.store s)) t b
      (verdict_of (part i x) x.store s) refl refl)
  own_balanced (handing_out out) are_bytes = rw (handed_next i x ok out, mine_with i x.state (part i x)) b
  own_balanced ending are_bytes = rw (ended_next i x ok, mine_with i x.state fresh_part) (let f = fresh_holds in omega arith)

  other_balanced : (j : Network) → same_network i j ≡ false → (c : Call) → ((s : List ℕ) → c ≡ feeding s → AreBytes s) → Balanced i (box_after (some j) x c) t
  other_balanced j d c are_bytes = let u = step j x ok c are_bytes in rw (u.next_is, other_with j i d x.state u.part') b

  next_balanced : (c : Asked) → ByteCall c → Balanced i (next x c) (if owns i c then tallied i x c.call t else t)
  unfolding owns is_of next
  next_balanced c are_bytes = go (whose i (network_of c.network))
    where
      go : Whose i (network_of c.network)
          → Balanced i (box_after (network_of c.network) x c.call) (if is_of i (network_of c.network) then tallied i x c.call t else t)
      go (own_call e) = rw (e, same_self i) (own_balanced c.call are_bytes)
      go (other_call j e d) = rw (e, d) (other_balanced j d c.call are_bytes)
      go (nobodys e) = rw (e, nobody_next x c.call) b

-- ---- a run

run_balanced : (i : Network) (asked : List Asked) (x : Box) → possible x ≡ true → ByteCalls asked → (t : Tally) → Balanced i x t
    → Balanced i (run x asked) (tally_of i x asked t)
unfolding run tally_of
run_balanced i [] x ok b t h = h
run_balanced i (c ∷ asked) x ok b t h =
    let first = first_bytes c asked b in
    run_balanced i asked (next x c) (next_possible x ok c first) (rest_bytes c asked b) _ (next_balanced i x ok t h c first)

fresh_balanced : (i : Network) (store : List ℕ) → Balanced i (fresh_box store) no_tally
unfolding mine fresh_box fresh_networks no_tally
fresh_balanced network1 store = let f = fresh_holds in omega arith
fresh_balanced network2 store = let f = fresh_holds in omega arith

-- the store keeps its length
next_long : (x : Box) → possible x ≡ true → (c : Asked) → ByteCall c → length (next x c).store ≡ length x.store
unfolding next
next_long x ok c b = go (network_of c.network)
  where
    go : (o : Option Network) → length (box_after o x c.call).store ≡ length x.store
    go none = rw (nobody_next x c.call)
    go (some i) = let u = step i x ok c.call b in rw u.next_is u.leaves.long

pub run_long : (asked : List Asked) (x : Box) → possible x ≡ true → ByteCalls asked → length (run x asked).store ≡ length x.store
unfolding run
run_long [] x ok b = refl
run_long (c ∷ asked) x ok b =
    let first = first_bytes c asked b in
    run_long asked (next x c) (next_possible x ok c first) (rest_bytes c asked b) ∙ next_long x ok c first

fresh_long : (store : List ℕ) → length (fresh_box store).store ≡ length store
unfolding fresh_box
fresh_long store = refl

made : (x : Box) (bytes : ℕ) (one two : Tally) → Balanced network1 x one → Balanced network2 x two → possible_of x.state bytes ≡ true
    → CountedBy x bytes (one.takes + two.takes) (one.returns + two.returns)
unfolding mine held rooms_in
made x bytes one two a b ok =
    let h : held x.state + free x.state bytes ≡ min 512 (bytes / 4084) = held_plus_free x.state bytes ok in
    record { held_is = omega arith; together = h; free_is = omega arith }

-- "held plus free rooms is the smaller of 512 and the whole rooms in the store's length, each counted from the takes and returns so far"
pub counted : (store : List ℕ) (asked : List Asked) → ByteCalls asked
    → let one = tally_of network1 (fresh_box store) asked no_tally in
    let two = tally_of network2 (fresh_box store) asked no_tally in
    CountedBy (run (fresh_box store) asked) (length store) (one.takes + two.takes) (one.returns + two.returns)
counted store asked b =
    let ok = fresh_possible store in
    made (run (fresh_box store) asked) (length store) _ _
    (run_balanced network1 asked (fresh_box store) ok b no_tally (fresh_balanced network1 store))
    (run_balanced network2 asked (fresh_box store) ok b no_tally (fresh_balanced network2 store))
    (rw (long_is store asked b) at (run_possible asked (fresh_box store) ok b))
  where
    long_is : (store : List ℕ) (asked : List Asked) → ByteCalls asked → length (run (fresh_box store) asked).store ≡ length store
    long_is store asked b = run_long asked (fresh_box store) (fresh_possible store) b ∙ fresh_long store
