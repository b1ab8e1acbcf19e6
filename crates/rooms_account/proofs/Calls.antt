-- One call for a network at a box: a possible box stays possible, its own account goes as alone, and the other network's stays.
use Prim.Native.Nat.{ℕ}
use Rattle.std.specs.Prelude.{Result, Ok}
use Rattle.ground_refusal.specs.declared.Refusal.{Refusal}
use mathlib.Core.Path.{◌≡◌, refl, sym, ◌∙◌, ap}
use mathlib.Core.Bool.{Bool, true, false, false≢true}
use mathlib.Core.List.{List}
use mathlib.Core.Option.{some}
use native.Mathlib.Omega.{arith}
use lib.ListN.{length, replicate, length-replicate}
use Rattle.crc.specs.Crc.{AreBytes}
use Rattle.section_reader.specs.Section.{payload_of}
use Rattle.gathering_feed.specs.Feeding.{answer_by}
use Rattle.gathering_account.specs.Account.{Account, idle}
use Rattle.gathering_account.proofs.Standing.{fresh_stands}
use Rattle.rooms_marks.specs.Rooms.{uses}
use Rattle.rooms_state.specs.State.{fresh_part, rooms_in, possible_of, Network, network1, network2, mine, theirs, with_mine}
use Rattle.rooms_state.specs.declared.Part.{Part}
use Rattle.rooms_state.specs.declared.Networks.{Networks}
use Rattle.rooms_state.proofs.Facts.{Sound, networks_are, networks_test, sound_of, with_is, fresh_part_lem, fresh_count, fresh_held}
use Rattle.gathering_verdict.specs.declared.Verdict.{Verdict}
use Rattle.rooms_verdict.specs.Deciding.{verdict_of}
use Rattle.rooms_feed.specs.Feeding.{room_for, room_verdict, roomed, part_by, store_by, part_fed, part_store, fed_for, store_for, fed_of, store_after}
use Rattle.rooms_hand_out.specs.Handing.{handed_for, out_for, handed_of, out_after}
use Rattle.rooms_end.specs.Ending.{ended_for, ended_of}
use Rattle.rooms_account.specs.Alone.{Call, feeding, handing_out, ending, fed, handed, ended, tells, after, handed_to, out_to, needs}
use Rattle.rooms_account.specs.Runs.{Box, told, box_after, same_network, free_for, needs_at}
use Rattle.rooms_account.proofs.Feeding.{Own, Leaves, leaves_all, needs_is, left_by, goes_by}
use Rattle.rooms_account.proofs.Handing.{own_handed, own_out}

-- the test for a box
abbrev pub possible : Box → Bool
possible x = possible_of x.state (length x.store)

-- a network's own part of a box, and what it stands for
abbrev pub part : Network → Box → Part
part i x = mine i x.state

abbrev pub Owns : Network → Box → Account → Type 0
Owns i x a = Own (part i x) x.store a

-- ---- a part that is put

pub mine_with : (i : Network) (x : Networks) (p : Part) → mine i (with_mine i x p) ≡ p
unfolding mine with_mine
mine_with network1 x p = refl
mine_with network2 x p = refl

pub same_with : (i : Network) (x : Networks) → x ≡ with_mine i x (mine i x)
unfolding mine with_mine
same_with network1 x = refl
same_with network2 x = refl

pub other_with : (i j : Network) → same_network j i ≡ false → (x : Networks) (p : Part) → mine j (with_mine i x p) ≡ mine j x
unfolding mine with_mine same_network
other_with network1 network2 d x p = refl
other_with network2 network1 d x p = refl
other_with network1 network1 d x p = absurd (false≢true (sym d))
other_with network2 network2 d x p = absurd (false≢true (sym d))

theirs_other : (i j : Network) → same_network j i ≡ false → (x : Networks) → theirs i x ≡ mine j x
unfolding mine theirs same_network
theirs_other network1 network2 d x = refl
theirs_other network2 network1 d x = refl
theirs_other network1 network1 d x = absurd (false≢true (sym d))
theirs_other network2 network2 d x = absurd (false≢true (sym d))

-- ---- a fresh part

-- a store of any length
blank : (n : ℕ) → (u : List ℕ) × (length u ≡ n)
blank n = (replicate n 0, length-replicate n 0)

pub fresh_own : (store : List ℕ) → Own fresh_part store idle
unfolding fresh_part
fresh_own store =
    let u = blank 1045504 in
    record {
      shadow = u.0;
      shadows = record { long = u.1; same = λ k d. absurd (d (fresh_held k)) };
      stands = fresh_stands refl u.1;
    }

fresh_sound : {n : ℕ} {p q : Part} {bytes : ℕ} → Sound n p q bytes → Sound n fresh_part q bytes
unfolding uses
fresh_sound {n} x =
    record {
      own = fresh_part_lem n;
      others = x.others;
      once = λ r l h. (let a = x.once r l h in let b = fresh_count r l in omega arith);
      roomy = x.roomy;
    }

-- ---- one call

pub record Step (i : Network) (x : Box) (c : Call) : Type 0 where
  pub part' : Part
  pub store' : List ℕ
  pub next_is : box_after (some i) x c ≡ record { state = with_mine i x.state part'; store = store' }
  pub leaves : Leaves (rooms_in (length x.store)) (theirs i x.state) x.store part' store'
  -- its own account and answer are the machine's for one network alone
  pub goes : (a : Account) → Owns i x a
      → Own part' store' (after a c (free_for i x c)) × (told (some i) x c ≡ tells a c (free_for i x c)) × (needs a c ≡ needs_at i x c)

module _ (i : Network) (x : Box) (ok : possible x ≡ true) where
  abbrev n : ℕ
  n = rooms_in (length x.store)

  pub sound : Sound n (part i x) (theirs i x.state) (length x.store)
  sound = sound_of i x.state (networks_are x.state (length x.store) ok)

  module _ (s : List ℕ) where
    abbrev v : Result Verdict Refusal
    v = verdict_of (part i x) x.store s

    abbrev room : ℕ
    room = room_for n (part i x) (theirs i x.state).rooms v

    pub fed_next : box_after (some i) x (feeding s)
        ≡ record {
          state = with_mine i x.state (part_by (part i x) (payload_of s) room (roomed v room));
          store = store_by x.store (payload_of s) room (roomed v room);
        }
    unfolding box_after fed_of store_after fed_for store_for part_fed part_store room_verdict
    fed_next = rw ok

    pub fed_told : told (some i) x (feeding s) ≡ fed (answer_by (roomed v room))
    unfolding told fed_of fed_for part_fed room_verdict
    fed_told = rw ok

    fed_step : AreBytes s → Step i x (feeding s)
    unfolding after tells free_for needs needs_at
    fed_step are_bytes =
        record {
          part' = part_by (part i x) (payload_of s) room (roomed v room);
          store' = store_by x.store (payload_of s) room (roomed v room);
          next_is = fed_next;
          leaves = left_by n (part i x) (theirs i x.state) x.store sound s are_bytes room v refl refl;
          goes = λ a own.
              (let g = goes_by n (part i x) (theirs i x.state) x.store sound s are_bytes room own v refl refl in
              (g.0, fed_told ∙ ap fed g.1, needs_is n (part i x) (theirs i x.state) x.store sound s are_bytes own));
        }

  module _ (out : List ℕ) where
    pub handed_next : box_after (some i) x (handing_out out) ≡ record { state = with_mine i x.state (part i x); store = x.store }
    unfolding box_after
    handed_next = ap (λ (y : Networks). record { state = y; store = x.store }) (same_with i x.state)

    handed_told : {a : Account} → Owns i x a → told (some i) x (handing_out out) ≡ handed (handed_to a (length out)) (out_to a out)
    unfolding told handed_of out_after handed_for out_for
    handed_told own = rw (ok, own_handed (part i x) x.store own out, own_out (part i x) x.store own out)

    handed_step : Step i x (handing_out out)
    unfolding after tells free_for needs needs_at
    handed_step =
        record {
          part' = part i x;
          store' = x.store;
          next_is = handed_next;
          leaves = leaves_all sound;
          goes = λ a own. (own, handed_told own, refl);
        }

  pub ended_next : box_after (some i) x ending ≡ record { state = with_mine i x.state fresh_part; store = x.store }
  unfolding box_after ended_of ended_for
  ended_next = rw ok

  ended_told : told (some i) x ending ≡ ended (Ok tt)
  unfolding told ended_of ended_for
  ended_told = rw ok

  ended_step : Step i x ending
  unfolding after tells free_for needs needs_at
  ended_step =
      record {
        part' = fresh_part;
        store' = x.store;
        next_is = ended_next;
        leaves = leaves_all (fresh_sound sound);
        goes = λ a own. (fresh_own x.store, ended_told, refl);
      }

  pub step : (c : Call) → ((s : List ℕ) → c ≡ feeding s → AreBytes s) → Step i x c
  step (feeding s) b = fed_step s (b s refl)
  step (handing_out out) b = handed_step out
  step ending b = ended_step

  module _ (c : Call) (b : (s : List ℕ) → c ≡ feeding s → AreBytes s) where
    -- a possible box stays possible
    pub stays_possible : possible (box_after (some i) x c) ≡ true
    stays_possible =
        let t = step c b in
        let l = t.leaves.long in
        let k = (networks_are x.state (length x.store) ok).long in
        rw (t.next_is, l) (networks_test _ (length x.store) (with_is i x.state t.part' k (rw l at t.leaves.sound)))

    pub own_goes : {a : Account} → Owns i x a → Owns i (box_after (some i) x c) (after a c (free_for i x c))
    own_goes own = let t = step c b in rw (t.next_is, mine_with i x.state t.part') (t.goes _ own).0

    pub other_stays : (j : Network) → same_network j i ≡ false → {a : Account} → Owns j x a → Owns j (box_after (some i) x c) a
    other_stays j d own =
        let t = step c b in
        let f = rw (theirs_other i j d x.state) at t.leaves.others in
        rw (t.next_is, other_with i j d x.state t.part')
        (record { shadow = own.shadow; shadows = f own.shadow own.shadows; stands = own.stands })
