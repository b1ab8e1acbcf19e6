-- Both networks exchanged give the exchanged answers: nothing in the calls knows which of the two is the first.
use Prim.Native.Nat.{ℕ}
use mathlib.Core.Path.{◌≡◌, refl, ◌∙◌, ap, ap₂}
use mathlib.Core.Bool.{true}
use mathlib.Core.List.{List, [], ◌∷◌}
use mathlib.Core.Option.{none, some}
use lib.Dec.{eqb}
use lib.ListN.{length}
use Rattle.rooms_marks.proofs.Tests.{Seen, yes_is, no_is, seen, same_answer}
use Rattle.rooms_state.specs.State.{possible_of, Network, network1, network2, network_of, mine, theirs, with_mine}
use Rattle.rooms_state.specs.declared.Part.{Part}
use Rattle.rooms_state.specs.declared.Networks.{Networks}
use Rattle.rooms_state.proofs.Facts.{networks_are, networks_test, turned}
use Rattle.rooms_feed.specs.Feeding.{fed_of, store_after, fed_for, store_for}
use Rattle.rooms_hand_out.specs.Handing.{handed_of, out_after, handed_for, out_for}
use Rattle.rooms_end.specs.Ending.{ended_of, ended_for}
use Rattle.rooms_account.specs.Alone.{Call, feeding, handing_out, ending}
use Rattle.rooms_account.specs.Runs.{Box, Asked, told, box_after, answer, next, answers}
use Rattle.rooms_account.specs.Exchange.{other, exchanged, exchanged_box, exchanged_number, exchanged_asked, exchanged_all}

-- ---- the state

possible_one : (x : Networks) (bytes : ℕ) → possible_of x bytes ≡ true → possible_of (exchanged x) bytes ≡ true
unfolding exchanged
possible_one x bytes e = let a = networks_are x bytes e in networks_test _ bytes (record { long = a.long; sound = turned a.sound })

twice : (x : Networks) → exchanged (exchanged x) ≡ x
unfolding exchanged
twice x = refl

possible_same : (x : Networks) (bytes : ℕ) → possible_of (exchanged x) bytes ≡ possible_of x bytes
possible_same x bytes =
    same_answer _ _ (λ e. rw (twice x) at (possible_one (exchanged x) bytes e)) (possible_one x bytes)

mine_same : (i : Network) (x : Networks) → mine (other i) (exchanged x) ≡ mine i x
unfolding mine other exchanged
mine_same network1 x = refl
mine_same network2 x = refl

theirs_same : (i : Network) (x : Networks) → theirs (other i) (exchanged x) ≡ theirs i x
unfolding theirs other exchanged
theirs_same network1 x = refl
theirs_same network2 x = refl

with_same : (i : Network) (x : Networks) (p : Part) → with_mine (other i) (exchanged x) p ≡ exchanged (with_mine i x p)
unfolding with_mine other exchanged
with_same network1 x p = refl
with_same network2 x p = refl

-- ---- one call

module _ (i : Network) (x : Box) where
  told_same : (c : Call) → told (some (other i)) (exchanged_box x) c ≡ told (some i) x c
  unfolding told exchanged_box fed_of fed_for handed_of handed_for out_after out_for ended_of ended_for
  told_same (feeding s) = go (seen (possible_of x.state (length x.store)))
    where
      go : Seen (possible_of x.state (length x.store)) → told (some (other i)) (exchanged_box x) (feeding s) ≡ told (some i) x (feeding s)
      go (yes_is e) = rw (possible_same x.state (length x.store), e, mine_same i x.state, theirs_same i x.state)
      go (no_is e) = rw (possible_same x.state (length x.store), e)
  told_same (handing_out out) = rw (possible_same x.state (length x.store), mine_same i x.state)
  told_same ending = go (seen (possible_of x.state (length x.store)))
    where
      go : Seen (possible_of x.state (length x.store)) → told (some (other i)) (exchanged_box x) ending ≡ told (some i) x ending
      go (yes_is e) = rw (possible_same x.state (length x.store), e)
      go (no_is e) = rw (possible_same x.state (length x.store), e)

  next_same : (c : Call) → box_after (some (other i)) (exchanged_box x) c ≡ exchanged_box (box_after (some i) x c)
  unfolding box_after exchanged_box fed_of fed_for store_after store_for ended_of ended_for
  next_same (feeding s) = go (seen (possible_of x.state (length x.store)))
    where
      go : Seen (possible_of x.state (length x.store))
          → box_after (some (other i)) (exchanged_box x) (feeding s) ≡ exchanged_box (box_after (some i) x (feeding s))
      go (yes_is e) = rw (possible_same x.state (length x.store), e, mine_same i x.state, theirs_same i x.state, with_same i x.state)
      go (no_is e) = rw (possible_same x.state (length x.store), e)
  next_same (handing_out out) = refl
  next_same ending = go (seen (possible_of x.state (length x.store)))
    where
      go : Seen (possible_of x.state (length x.store)) → box_after (some (other i)) (exchanged_box x) ending ≡ exchanged_box (box_after (some i) x ending)
      go (yes_is e) = rw (possible_same x.state (length x.store), e, with_same i x.state)
      go (no_is e) = rw (possible_same x.state (length x.store), e)

-- a call for no network
nobody_told : (x : Box) (c : Call) → told none (exchanged_box x) c ≡ told none x c
unfolding told exchanged_box fed_of handed_of out_after ended_of
nobody_told x (feeding s) = refl
nobody_told x (handing_out out) = refl
nobody_told x ending = refl

nobody_next : (x : Box) (c : Call) → box_after none (exchanged_box x) c ≡ exchanged_box (box_after none x c)
unfolding box_after exchanged_box fed_of store_after ended_of
nobody_next x (feeding s) = refl
nobody_next x (handing_out out) = refl
nobody_next x ending = refl

-- ---- whose call it is

data Named (n : ℕ) : Type 0 where
  named : (i : Network) → network_of n ≡ some i → network_of (exchanged_number n) ≡ some (other i) → Named n
  unnamed : network_of n ≡ none → network_of (exchanged_number n) ≡ none → Named n

naming : (n : ℕ) → Named n
unfolding network_of exchanged_number other
naming n = go (seen (eqb n 1)) (seen (eqb n 2))
  where
    go : Seen (eqb n 1) → Seen (eqb n 2) → Named n
    go (yes_is e) t = named network1 (rw e) (rw e)
    go (no_is e) (yes_is f) = named network2 (rw (e, f)) (rw (e, f))
    go (no_is e) (no_is f) = unnamed (rw (e, f)) (ap network_of kept ∙ rw (e, f))
      where
        kept : exchanged_number n ≡ n
        kept = rw (e, f)

asked_told : (x : Box) (c : Asked) → answer (exchanged_box x) (exchanged_asked c) ≡ answer x c
unfolding answer exchanged_asked
asked_told x c = go (naming c.network)
  where
    go : Named c.network → told (network_of (exchanged_number c.network)) (exchanged_box x) c.call ≡ told (network_of c.network) x c.call
    go (named i e f) = rw (e, f) (told_same i x c.call)
    go (unnamed e f) = rw (e, f) (nobody_told x c.call)

asked_next : (x : Box) (c : Asked) → next (exchanged_box x) (exchanged_asked c) ≡ exchanged_box (next x c)
unfolding next exchanged_asked
asked_next x c = go (naming c.network)
  where
    go : Named c.network
        → box_after (network_of (exchanged_number c.network)) (exchanged_box x) c.call ≡ exchanged_box (box_after (network_of c.network) x c.call)
    go (named i e f) = rw (e, f) (next_same i x c.call)
    go (unnamed e f) = rw (e, f) (nobody_next x c.call)

-- the theorem: every answer of a run is that of the run with both networks exchanged, possible box or not
pub exchanging : (asked : List Asked) (x : Box) → answers (exchanged_box x) (exchanged_all asked) ≡ answers x asked
unfolding answers exchanged_all
exchanging [] x = refl
exchanging (c ∷ asked) x = ap₂ ◌∷◌ (asked_told x c) (ap (λ (y : Box). answers y (exchanged_all asked)) (asked_next x c) ∙ exchanging asked (next x c))
