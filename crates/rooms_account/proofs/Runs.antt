-- The theorems of a run: a possible box stays possible, and each network's answers are those of the machine for one network alone.
use Prim.Native.Nat.{ℕ}
use mathlib.Core.Path.{◌≡◌, refl, sym, ◌∙◌, ap, ap₂}
use mathlib.Core.Bool.{Bool, true, false}
use mathlib.Core.List.Memᴰ
use mathlib.Core.List.{List, [], ◌∷◌}
use mathlib.Core.Option.{Option, none, some}
use lib.ListN.{length}
use Rattle.crc.specs.Crc.{AreBytes}
use Rattle.gathering_account.specs.Account.{Account, idle}
use Rattle.rooms_marks.proofs.Tests.{Seen, yes_is, no_is, seen}
use Rattle.rooms_state.specs.State.{fresh_networks, Network, network1, network2, network_of, mine}
use Rattle.rooms_state.proofs.Facts.{fresh_are, networks_test}
use Rattle.rooms_feed.specs.Feeding.{fed_of, store_after}
use Rattle.rooms_end.specs.Ending.{ended_of}
use Rattle.rooms_account.specs.Alone.{Call, feeding, handing_out, ending, fed, tells, after, needs, free_now, frees_left, alone}
use Rattle.rooms_account.specs.Runs.{Box, fresh_box, Asked, box_after, answer, next, run, ByteCalls, same_network, is_of, owns, free_for, needs_at}
use Rattle.rooms_account.specs.Runs.{calls_of, answers_of, frees_of}
use Rattle.rooms_account.proofs.Feeding.{fed_so, refused_not}
use Rattle.rooms_account.proofs.Calls.{possible, Owns, fresh_own, step, stays_possible, own_goes, other_stays}

-- ---- whose call it is

pub data Whose (i : Network) (o : Option Network) : Type 0 where
  own_call : o ≡ some i → Whose i o
  other_call : (j : Network) → o ≡ some j → same_network i j ≡ false → Whose i o
  nobodys : o ≡ none → Whose i o

pub whose : (i : Network) (o : Option Network) → Whose i o
unfolding same_network
whose i none = nobodys refl
whose network1 (some network1) = own_call refl
whose network1 (some network2) = other_call network2 refl refl
whose network2 (some network1) = other_call network1 refl refl
whose network2 (some network2) = own_call refl

pub same_self : (i : Network) → same_network i i ≡ true
unfolding same_network
same_self network1 = refl
same_self network2 = refl

-- a call for no network changes nothing
pub nobody_next : (x : Box) (c : Call) → box_after none x c ≡ x
unfolding box_after fed_of store_after ended_of
nobody_next x (feeding s) = refl
nobody_next x (handing_out out) = refl
nobody_next x ending = refl

-- the fed string of a call is one of bytes
abbrev pub ByteCall : Asked → Type 0
ByteCall c = (s : List ℕ) → c.call ≡ feeding s → AreBytes s

pub first_bytes : (c : Asked) (asked : List Asked) → ByteCalls (c ∷ asked) → ByteCall c
unfolding ByteCalls
first_bytes c asked b = b c (Memᴰ.head refl)

pub rest_bytes : (c : Asked) (asked : List Asked) → ByteCalls (c ∷ asked) → ByteCalls asked
unfolding ByteCalls
rest_bytes c asked b = λ d i. b d (Memᴰ.tail i)

-- ---- one call

-- what one call means for network i: its own, or one that leaves it as it was
pub data Turn (i : Network) (x : Box) (c : Asked) (a : Account) : Type 0 where
  own_turn : owns i c ≡ true → answer x c ≡ tells a c.call (free_for i x c.call) → needs a c.call ≡ needs_at i x c.call
      → Owns i (next x c) (after a c.call (free_for i x c.call)) → Turn i x c a
  other_turn : owns i c ≡ false → Owns i (next x c) a → Turn i x c a

pub turn : (i : Network) (x : Box) → possible x ≡ true → (c : Asked) → ByteCall c → {a : Account} → Owns i x a → Turn i x c a
unfolding owns is_of answer next
turn i x ok c b {a} own = go (whose i (network_of c.network))
  where
    go : Whose i (network_of c.network) → Turn i x c a
    go (own_call e) =
        let t = (step i x ok c.call b).goes a own in
        own_turn (rw e (same_self i)) (rw e t.1) t.2 (rw e (own_goes i x ok c.call b own))
    go (other_call j e d) = other_turn (rw e d) (rw e (other_stays j x ok c.call b i d own))
    go (nobodys e) = other_turn (rw e) (rw (e, nobody_next x c.call) own)

-- one call of any network, or of none, leaves a possible box possible
pub next_possible : (x : Box) → possible x ≡ true → (c : Asked) → ByteCall c → possible (next x c) ≡ true
unfolding next
next_possible x ok c b = go (network_of c.network)
  where
    go : (o : Option Network) → possible (box_after o x c.call) ≡ true
    go none = rw (nobody_next x c.call) ok
    go (some i) = stays_possible i x ok c.call b

-- "No room is ever held twice": and so does any run
pub run_possible : (asked : List Asked) (x : Box) → possible x ≡ true → ByteCalls asked → possible (run x asked) ≡ true
unfolding run
run_possible [] x ok b = ok
run_possible (c ∷ asked) x ok b =
    run_possible asked (next x c) (next_possible x ok c (first_bytes c asked b)) (rest_bytes c asked b)

-- ---- where no room is needed, it does not matter whether one is free

needless_tells : (a : Account) (c : Call) → needs a c ≡ false → (f g : Bool) → tells a c f ≡ tells a c g
unfolding needs tells
needless_tells a (feeding s) e f g =
    ap fed ((fed_so a s f (refused_not a s e f)).0 ∙ sym (fed_so a s g (refused_not a s e g)).0)
needless_tells a (handing_out out) e f g = refl
needless_tells a ending e f g = refl

needless_after : (a : Account) (c : Call) → needs a c ≡ false → (f g : Bool) → after a c f ≡ after a c g
unfolding needs after
needless_after a (feeding s) e f g = (fed_so a s f (refused_not a s e f)).1 ∙ sym (fed_so a s g (refused_not a s e g)).1
needless_after a (handing_out out) e f g = refl
needless_after a ending e f g = refl

module _ (a : Account) (c : Call) (calls : List Call) (f : Bool) (frees : List Bool) where
  alone_needing : needs a c ≡ true → alone a (c ∷ calls) (f ∷ frees) ≡ tells a c f ∷ alone (after a c f) calls frees
  unfolding alone free_now frees_left
  alone_needing e = rw e

  alone_needless : needs a c ≡ false → alone a (c ∷ calls) frees ≡ tells a c f ∷ alone (after a c f) calls frees
  unfolding alone free_now frees_left
  alone_needless e = rw (e, needless_tells a c e true f, needless_after a c e true f)

-- ---- a run, a call at a time

module _ (i : Network) (x : Box) (c : Asked) (asked : List Asked) where
  answers_own : owns i c ≡ true → answers_of i x (c ∷ asked) ≡ answer x c ∷ answers_of i (next x c) asked
  unfolding answers_of
  answers_own e = rw e

  answers_other : owns i c ≡ false → answers_of i x (c ∷ asked) ≡ answers_of i (next x c) asked
  unfolding answers_of
  answers_other e = rw e

  calls_own : owns i c ≡ true → calls_of i (c ∷ asked) ≡ c.call ∷ calls_of i asked
  unfolding calls_of
  calls_own e = rw e

  calls_other : owns i c ≡ false → calls_of i (c ∷ asked) ≡ calls_of i asked
  unfolding calls_of
  calls_other e = rw e

  frees_needing : owns i c ≡ true → needs_at i x c.call ≡ true → frees_of i x (c ∷ asked) ≡ free_for i x c.call ∷ frees_of i (next x c) asked
  unfolding frees_of
  frees_needing e n = rw (e, n)

  frees_needless : owns i c ≡ true → needs_at i x c.call ≡ false → frees_of i x (c ∷ asked) ≡ frees_of i (next x c) asked
  unfolding frees_of
  frees_needless e n = rw (e, n)

  frees_other : owns i c ≡ false → frees_of i x (c ∷ asked) ≡ frees_of i (next x c) asked
  unfolding frees_of
  frees_other e = rw e

  -- a call of its own goes as it would alone, if the rest does
  module _ (a : Account) (o : owns i c ≡ true) (t : answer x c ≡ tells a c.call (free_for i x c.call)) (n : needs a c.call ≡ needs_at i x c.call)
      (rest : answers_of i (next x c) asked ≡ alone (after a c.call (free_for i x c.call)) (calls_of i asked) (frees_of i (next x c) asked)) where
    goes_alone : Seen (needs_at i x c.call) → answers_of i x (c ∷ asked) ≡ alone a (calls_of i (c ∷ asked)) (frees_of i x (c ∷ asked))
    goes_alone (yes_is e) =
        rw (
          answers_own o,
          calls_own o,
          frees_needing o e,
          alone_needing a c.call (calls_of i asked) (free_for i x c.call) (frees_of i (next x c) asked) (n ∙ e),
        ) (ap₂ ◌∷◌ t rest)
    goes_alone (no_is e) =
        rw (
          answers_own o,
          calls_own o,
          frees_needless o e,
          alone_needless a c.call (calls_of i asked) (free_for i x c.call) (frees_of i (next x c) asked) (n ∙ e),
        ) (ap₂ ◌∷◌ t rest)

nothing_asked : (i : Network) (x : Box) (a : Account) → answers_of i x [] ≡ alone a (calls_of i []) (frees_of i x [])
unfolding alone answers_of calls_of frees_of
nothing_asked i x a = refl

-- ---- the theorems

-- "A network's answers depend on its own calls and on whether a room was free at each of its takes, and on nothing else of the other's": they are those of
-- the machine for one network alone
pub independent : (i : Network) (asked : List Asked) (x : Box) → possible x ≡ true → ByteCalls asked → (a : Account) → Owns i x a
    → answers_of i x asked ≡ alone a (calls_of i asked) (frees_of i x asked)
independent i [] x ok b a own = nothing_asked i x a
independent i (c ∷ asked) x ok b a own =
    go (turn i x ok c (first_bytes c asked b) own)
    (λ a' own'. independent i asked (next x c) (next_possible x ok c (first_bytes c asked b)) (rest_bytes c asked b) a' own')
  where
    go : Turn i x c a → ((a' : Account) → Owns i (next x c) a' → answers_of i (next x c) asked ≡ alone a' (calls_of i asked) (frees_of i (next x c) asked))
        → answers_of i x (c ∷ asked) ≡ alone a (calls_of i (c ∷ asked)) (frees_of i x (c ∷ asked))
    go (other_turn o own') rest = rw (answers_other i x c asked o, calls_other i x c asked o, frees_other i x c asked o) (rest a own')
    go (own_turn o t n own') rest = goes_alone i x c asked a o t n (rest _ own') (seen (needs_at i x c.call))

-- from the start
pub fresh_possible : (store : List ℕ) → possible (fresh_box store) ≡ true
unfolding fresh_box
fresh_possible store = networks_test (fresh_networks (length store)) (length store) (fresh_are (length store))

pub fresh_owns : (i : Network) (store : List ℕ) → Owns i (fresh_box store) idle
unfolding fresh_box fresh_networks mine
fresh_owns network1 store = fresh_own store
fresh_owns network2 store = fresh_own store

pub from_the_start : (i : Network) (store : List ℕ) (asked : List Asked) → ByteCalls asked
    → answers_of i (fresh_box store) asked ≡ alone idle (calls_of i asked) (frees_of i (fresh_box store) asked)
from_the_start i store asked b = independent i asked (fresh_box store) (fresh_possible store) b idle (fresh_owns i store)

-- two runs that agree on one network's calls and on the free rooms it met give it the same answers, whatever the other network did and whatever stood in the
-- stores, which may have different lengths
pub agreeing : (i : Network) (store store' : List ℕ) (asked asked' : List Asked) → ByteCalls asked → ByteCalls asked'
    → calls_of i asked ≡ calls_of i asked' → frees_of i (fresh_box store) asked ≡ frees_of i (fresh_box store') asked'
    → answers_of i (fresh_box store) asked ≡ answers_of i (fresh_box store') asked'
agreeing i store store' asked asked' b b' c f = from_the_start i store asked b ∙ rw (c, f) (sym (from_the_start i store' asked' b'))
