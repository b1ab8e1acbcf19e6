-- What the test for a possible state says, as facts of each number and of each room; that these facts make it so; and how rooms lie in the store.
use Prim.Native.Nat.{ℕ, zero, suc, ◌+◌, ◌-◌, ◌*◌, ◌≤◌, ◌<◌}
use mathlib.Core.Path.{◌≡◌, refl, sym, ◌∙◌}
use mathlib.Core.Bool.{true, false, false≢true}
use mathlib.Core.List.{List, [], ◌∷◌}
use mathlib.Core.Option.{Option, none, some}
use native.Mathlib.Omega.{arith}
use borrow.Author.Tests.{eq-eqb, ne_eqb, eqb-true, eqb-false, ltb-true, leb-true, lt-ltb, le-leb}
use lib.Dec.{eqb, leb, ltb}
use lib.ListN.{length, get_or}
use Rattle.ground_choices.proofs.Tests.{both, and_of}
use Rattle.gathering_state.specs.State.{fresh_state, possible_of as gathering_possible}
use Rattle.gathering_state.proofs.State.{possible_short, fresh_possible as fresh_gathering}
use Rattle.gathering_state.proofs.Lists.{greatest_at}
use Rattle.rooms_marks.specs.Rooms.{count, uses, none_twice}
use Rattle.rooms_marks.proofs.Tests.{Seen, yes_is, no_is, seen}
use Rattle.rooms_marks.proofs.Counting.{count_zeros, zeros_at}
use Rattle.rooms_marks.proofs.Free.{once_at, none_twice_lem}
use Rattle.rooms_state.specs.State.{fresh_part, fresh_networks, rooms_in, room_place, room_at, InRooms, pair_test, matched, part_possible, possible_of}
use Rattle.rooms_state.specs.State.{Network, network1, network2, network_of, is_some, mine, theirs, with_mine}
use Rattle.rooms_state.specs.declared.Part.{Part}
use Rattle.rooms_state.specs.declared.Networks.{Networks}

-- ---- a number and its room

pub data Pair (n h r : ℕ) : Type 0 where
  unheld : h ≡ 0 → r ≡ 0 → Pair n h r
  holds : 1 ≤ h → 1 ≤ r → r ≤ n → Pair n h r

pair_is : (n h r : ℕ) → pair_test n h r ≡ true → Pair n h r
unfolding pair_test
pair_is n h r e = go (seen (eqb h 0))
  where
    go : Seen (eqb h 0) → Pair n h r
    go (yes_is z) = unheld (eqb-true h 0 z) (eqb-true r 0 (rw z at e))
    go (no_is z) =
        let q = both (ltb 0 r) (leb r n) (rw z at e) in
        let d = eqb-false h 0 z in
        holds (omega arith) (ltb-true 0 r q.0) (leb-true r n q.1)

pair_test_lem : (n h r : ℕ) → Pair n h r → pair_test n h r ≡ true
unfolding pair_test
pair_test_lem n h r (unheld a b) = rw (eq-eqb h 0 a) (eq-eqb r 0 b)
pair_test_lem n h r (holds a b c) = rw (ne_eqb h 0 (λ z. omega arith)) (and_of (lt-ltb 0 r b) (le-leb r n c))

pair_at : (n : ℕ) (hs rs : List ℕ) → matched n hs rs ≡ true → length hs ≡ length rs → (k : ℕ) → Pair n (get_or hs k 0) (get_or rs k 0)
unfolding matched
pair_at n [] [] e l k = unheld refl refl
pair_at n [] (r ∷ rs) e l k = absurd (omega arith)
pair_at n (h ∷ hs) [] e l k = absurd (omega arith)
pair_at n (h ∷ hs) (r ∷ rs) e l zero = pair_is n h r (both (pair_test n h r) (matched n hs rs) e).0
pair_at n (h ∷ hs) (r ∷ rs) e l (suc k) = pair_at n hs rs (both (pair_test n h r) (matched n hs rs) e).1 (omega arith) k

all_matched : (n : ℕ) (hs rs : List ℕ) → ((k : ℕ) → Pair n (get_or hs k 0) (get_or rs k 0)) → matched n hs rs ≡ true
unfolding matched
all_matched n [] rs f = refl
all_matched n (h ∷ hs) [] f = refl
all_matched n (h ∷ hs) (r ∷ rs) f = and_of (pair_test_lem n h r (f 0)) (all_matched n hs rs (λ k. f (suc k)))

-- ---- a part

pub record PartIs (n : ℕ) (p : Part) : Type 0 where
  pub held_long : length p.gathering.held ≡ 256
  pub rooms_long : length p.rooms ≡ 256
  pub possible : gathering_possible p.gathering ≡ true
  pub paired : (k : ℕ) → Pair n (get_or p.gathering.held k 0) (get_or p.rooms k 0)

pub part_is : (n : ℕ) (p : Part) → part_possible n p ≡ true → PartIs n p
unfolding part_possible
part_is n p e =
    let three = both _ (matched n p.gathering.held p.rooms) e in
    let two = both _ (gathering_possible p.gathering) three.0 in
    let one = both (eqb (length p.gathering.held) 256) (eqb (length p.rooms) 256) two.0 in
    let hl = eqb-true _ 256 one.0 in
    let rl = eqb-true _ 256 one.1 in
    record { held_long = hl; rooms_long = rl; possible = two.1; paired = pair_at n p.gathering.held p.rooms three.1 (hl ∙ sym rl) }

pub part_test : (n : ℕ) (p : Part) → PartIs n p → part_possible n p ≡ true
unfolding part_possible
part_test n p x =
    and_of (and_of (and_of (eq-eqb _ 256 x.held_long) (eq-eqb _ 256 x.rooms_long)) x.possible)
    (all_matched n p.gathering.held p.rooms x.paired)

-- lengths are short in every part
pub short_at : (n : ℕ) (p : Part) → PartIs n p → (k : ℕ) → get_or p.gathering.held k 0 ≤ 4085
short_at n p x k = let a = possible_short p.gathering x.possible in let b = greatest_at p.gathering.held k in omega arith

pub rooms_most : (n : ℕ) (p : Part) → PartIs n p → (k : ℕ) → get_or p.rooms k 0 ≤ n
rooms_most n p x k = go (x.paired k)
  where
    go : Pair n (get_or p.gathering.held k 0) (get_or p.rooms k 0) → get_or p.rooms k 0 ≤ n
    go (unheld a b) = omega arith
    go (holds a b c) = c

pub fresh_held : (k : ℕ) → get_or fresh_part.gathering.held k 0 ≡ 0
unfolding fresh_part fresh_state
fresh_held k = zeros_at 256 k

pub fresh_rooms : (k : ℕ) → get_or fresh_part.rooms k 0 ≡ 0
unfolding fresh_part
fresh_rooms k = zeros_at 256 k

pub fresh_count : (r : ℕ) → 1 ≤ r → count r fresh_part.rooms ≡ 0
unfolding fresh_part
fresh_count r l = count_zeros r 256 l

pub fresh_part_lem : (n : ℕ) → PartIs n fresh_part
unfolding fresh_part fresh_state
fresh_part_lem n = record { held_long = refl; rooms_long = refl; possible = fresh_gathering; paired = λ k. unheld (zeros_at 256 k) (zeros_at 256 k) }

-- ---- a state

-- p and q hold rooms of n in a store of so many bytes, and none twice; this is the same seen from either
pub record Sound (n : ℕ) (p q : Part) (bytes : ℕ) : Type 0 where
  pub own : PartIs n p
  pub others : PartIs n q
  pub once : (r : ℕ) → 1 ≤ r → r ≤ n → uses r p.rooms q.rooms ≤ 1
  pub roomy : n * 4084 ≤ bytes

pub turned : {n : ℕ} {p q : Part} {bytes : ℕ} → Sound n p q bytes → Sound n q p bytes
unfolding uses
turned x = record { own = x.others; others = x.own; once = λ r l h. (let a = x.once r l h in omega arith); roomy = x.roomy }

pub rooms_within : (bytes : ℕ) → rooms_in bytes * 4084 ≤ bytes
unfolding rooms_in
rooms_within bytes = omega arith

pub record NetworksIs (x : Networks) (bytes : ℕ) : Type 0 where
  pub long : x.bytes ≡ bytes
  pub sound : Sound (rooms_in bytes) x.one x.two bytes

pub networks_are : (x : Networks) (bytes : ℕ) → possible_of x bytes ≡ true → NetworksIs x bytes
unfolding possible_of
networks_are x bytes e =
    let n = rooms_in bytes in
    let three = both _ (none_twice n x.one.rooms x.two.rooms) e in
    let two = both _ (part_possible n x.two) three.0 in
    let one = both (eqb x.bytes bytes) (part_possible n x.one) two.0 in
    record {
      long = eqb-true _ _ one.0;
      sound =
          record {
            own = part_is n x.one one.1;
            others = part_is n x.two two.1;
            once = once_at n x.one.rooms x.two.rooms three.1;
            roomy = rooms_within bytes;
          };
    }

pub networks_test : (x : Networks) (bytes : ℕ) → NetworksIs x bytes → possible_of x bytes ≡ true
unfolding possible_of
networks_test x bytes b =
    let s = b.sound in
    and_of (and_of (and_of (eq-eqb _ _ b.long) (part_test _ x.one s.own)) (part_test _ x.two s.others))
    (none_twice_lem _ x.one.rooms x.two.rooms s.once)

-- ---- seen from one network

pub sound_of : (i : Network) (x : Networks) {bytes : ℕ} → NetworksIs x bytes → Sound (rooms_in bytes) (mine i x) (theirs i x) bytes
unfolding mine theirs
sound_of network1 x b = b.sound
sound_of network2 x b = turned b.sound

pub with_is : (i : Network) (x : Networks) {bytes : ℕ} (p : Part) → x.bytes ≡ bytes → Sound (rooms_in bytes) p (theirs i x) bytes
    → NetworksIs (with_mine i x p) bytes
unfolding with_mine theirs
with_is network1 x p l s = record { long = l; sound = s }
with_is network2 x p l s = record { long = l; sound = turned s }

pub fresh_are : (bytes : ℕ) → NetworksIs (fresh_networks bytes) bytes
unfolding fresh_networks uses
fresh_are bytes =
    record {
      long = refl;
      sound =
          record {
            own = fresh_part_lem _;
            others = fresh_part_lem _;
            once = λ r l h. (let a = fresh_count r l in omega arith);
            roomy = rooms_within bytes;
          };
    }

-- ---- rooms in the store

-- a room of the store holds any payload
pub room_fits : (r n bytes m : ℕ) → 1 ≤ r → r ≤ n → n * 4084 ≤ bytes → m ≤ 4084 → room_place r + m ≤ bytes
unfolding room_place
room_fits r n bytes m l h b s = omega arith

pub before_room : (t r m : ℕ) → 1 ≤ t → t < r → m ≤ 4084 → room_place t + m ≤ room_place r
unfolding room_place
before_room t r m a b c = omega arith

no_room : (r m bytes : ℕ) → r ≡ 0 → m ≡ 0 → room_place r + m ≤ bytes
unfolding room_place
no_room r m bytes e f = rw (e, f) (omega arith)

-- each held payload of a part lies in the store
pub in_rooms : (n : ℕ) (p : Part) (store : List ℕ) → PartIs n p → n * 4084 ≤ length store → InRooms p.gathering.held p.rooms store
unfolding room_at
in_rooms n p store x b = record { within = λ k. go k (x.paired k) (short_at n p x k) }
  where
    go : (k : ℕ) → Pair n (get_or p.gathering.held k 0) (get_or p.rooms k 0) → get_or p.gathering.held k 0 ≤ 4085
        → room_place (get_or p.rooms k 0) + (get_or p.gathering.held k 0 - 1) ≤ length store
    go k (unheld a c) l = no_room _ _ (length store) c (omega arith)
    go k (holds a c d) l = room_fits (get_or p.rooms k 0) n (length store) (get_or p.gathering.held k 0 - 1) c d b (omega arith)

-- ---- a network's number

module _ (n : ℕ) where
  pub first_network : n ≡ 1 → network_of n ≡ some network1
  unfolding network_of
  first_network e = rw (eq-eqb n 1 e)

  pub second_network : (n ≡ 1 → ⊥) → is_some (network_of n) ≡ true → network_of n ≡ some network2
  unfolding network_of is_some
  second_network d e = go (seen (eqb n 2))
    where
      go : Seen (eqb n 2) → network_of n ≡ some network2
      go (yes_is f) = rw (ne_eqb n 1 d, f)
      go (no_is f) = let z = rw (ne_eqb n 1 d, f) at e in absurd (false≢true z)

  pub no_network : is_some (network_of n) ≡ false → network_of n ≡ none
  unfolding is_some
  no_network e = go (network_of n) e
    where
      go : (o : Option Network) → is_some o ≡ false → o ≡ none
      go none f = refl
      go (some i) f = absurd (false≢true (sym f))
