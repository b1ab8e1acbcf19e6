-- A table that is cut anywhere and fed whole, in any order and with repeats, is handed out as its payloads joined in number order,
-- whatever was held before it began, if the store has room and no stranger has its heading or is ahead of it.
use Prim.Native.Nat.{ℕ, zero, suc, ◌+◌, ◌≤◌, ◌<◌}
use mathlib.Core.Path.{◌≡◌, refl, sym, ◌∙◌, ap, ap₂}
use mathlib.Core.Bool.{Bool}
use mathlib.Core.List.Memᴰ
use mathlib.Core.List.{List, [], ◌∷◌, ◌++◌, Memᴰ as In}
use mathlib.Core.Logic.{◌⊎◌, inl, inr}
use native.Mathlib.Omega.{arith}
use lib.ListN.{length}
use Rattle.section_reader.specs.Section.{payload_of}
use Rattle.section_cutter.specs.Cutting.{parts_joined}
use Rattle.section_reader.specs.declared.Heading.{Heading}
use Rattle.gathering_state.specs.State.{has_room}
use Rattle.gathering_account.specs.Account.{heard, Section, idle, table, account_after, account, Agree, Present, Covered, Complete, contents_of, in_order, body_of}
use Rattle.gathering_account.specs.Gathers.{fresh_box, ByteStrings, box_after, HandsOut}
use Rattle.gathering_account.specs.Latest.{begins_after}
use Rattle.gathering_account.specs.Arrival.{heading_at, CutInto, Arrives, ArrivesFirst}
use Rattle.gathering_account.proofs.Hearing.{counted_first}
use Rattle.gathering_account.proofs.Standing.{never}
use Rattle.gathering_account.proofs.Keeping.{present_last}
use Rattle.gathering_account.proofs.Joining.{contents_are}
use Rattle.gathering_account.proofs.Demand3.{demand_3}
use Rattle.gathering_account.proofs.Growing.{account_append, account_none, begins_first, Ours, Grown, known, grows}

-- contents number by number
order_joined : (S : List Section) (sections : ℕ → List ℕ) (n : ℕ) → ((k : ℕ) → k < n → contents_of k S ≡ payload_of (sections k)) → in_order n S ≡ parts_joined sections n
unfolding in_order parts_joined
order_joined S sections zero f = refl
order_joined S sections (suc n) f = ap₂ ◌++◌ (order_joined S sections n (λ k l. f k (omega arith))) (f n (omega arith))

module _ (room : ℕ → Bool) (h : Heading) (sections : ℕ → List ℕ) (cut : CutInto h sections) (fed : List (List ℕ)) (x : Arrives room h sections fed) where
  abbrev t : Heading
  t = heading_at h x.first

  -- the table's first section
  abbrev begun : Section
  begun = record { number = x.first; contents = payload_of (sections x.first) }

  begins : account_after room (account room idle x.before) (heard (sections x.first)) ≡ table t (begun ∷ [])
  unfolding CutInto heading_at
  begins =
      let a = account room idle x.before in
      rw (cut x.first x.of_table)
      (counted_first room (heading_at h x.first) (payload_of (sections x.first)) x.roomy a (begins_first h x.first a ∙ x.begins))

  grown : Grown room t h.last sections (begun ∷ []) x.after
  unfolding Ours
  grown = grows room h sections cut x.first x.after x.no_stranger x.none_ahead (begun ∷ []) (λ s i. rw (Memᴰ.eq_of_singleton i))

  account_is : account room idle fed ≡ table t grown.now
  unfolding account
  account_is =
      ap (account room idle) x.fed_is
      ∙ account_append room idle x.before (sections x.first ∷ x.after)
      ∙ rw begins grown.is

  present : (k : ℕ) → k ≤ h.last → Present k grown.now
  unfolding CutInto heading_at
  present k l = go (Memᴰ.cases_cons (x.all k l))
    where
      go : (sections k ≡ sections x.first) ⊎ In (sections k) x.after → Present k grown.now
      go (inl e) =
          grown.keeps k (present_last [] begun k (known room h sections cut x.first (sections x.first) t _ (cut x.first x.of_table) k l (sym e)).0)
      go (inr i) = grown.gains k l i

  complete : Complete (account room idle fed)
  unfolding Complete Covered Agree Ours heading_at
  complete = rw account_is (present, λ r s i j e. grown.ours r i ∙ ap (λ (k : ℕ). payload_of (sections k)) e ∙ sym (grown.ours s j))

  body_is : body_of (account room idle fed) ≡ parts_joined sections (h.last + 1)
  unfolding body_of heading_at Ours
  body_is =
      rw account_is
      (order_joined grown.now sections (h.last + 1)
      (λ k l. contents_are k (payload_of (sections k)) grown.now (λ s i e. grown.ours s i ∙ ap (λ (j : ℕ). payload_of (sections j)) e) (present k (omega arith))))

-- ---- a run without a takeover

module _ (room : ℕ → Bool) (h : Heading) (sections : ℕ → List ℕ) (cut : CutInto h sections) (fed : List (List ℕ)) (x : ArrivesFirst room h sections fed) where
  later : (s : List ℕ) → In s x.after → In s fed
  later s i = rw x.fed_is (Memᴰ.append_right x.before (In.tail i))

  -- none of the table's sections is before its first
  from_first : (k : ℕ) → k ≤ h.last → In (sections k) (sections x.first ∷ x.after)
  unfolding CutInto heading_at
  from_first k l = go (Memᴰ.append_cases x.before (rw x.fed_is at (x.all k l)))
    where
      go : In (sections k) x.before ⊎ In (sections k) (sections x.first ∷ x.after) → In (sections k) (sections x.first ∷ x.after)
      go (inl i) = never (room h.last) x.roomy (x.none_first (sections k) i _ _ (cut k l))
      go (inr i) = i

  pub first_arrives : Arrives room h sections fed
  unfolding begins_after
  first_arrives =
      record {
        roomy = x.roomy;
        before = x.before;
        first = x.first;
        after = x.after;
        of_table = x.of_table;
        fed_is = x.fed_is;
        begins = rw (account_none room x.before x.none_first);
        all = from_first;
        no_stranger = λ s i. x.no_stranger s (later s i);
        none_ahead = λ s i. x.none_ahead s (later s i);
      }

-- ---- the theorem

pub arrives_whole : (store : List ℕ) (fed : List (List ℕ)) → ByteStrings fed
    → (h : Heading) (sections : ℕ → List ℕ) → CutInto h sections → Arrives (has_room (length store)) h sections fed
    → (out : List ℕ) → length (parts_joined sections (h.last + 1)) ≤ length out → HandsOut (box_after (fresh_box store) fed) out (parts_joined sections (h.last + 1))
arrives_whole store fed are_bytes h sections cut x out l =
    let d = demand_3 store fed are_bytes out in
    let b = body_is (has_room (length store)) h sections cut fed x in
    let c = complete (has_room (length store)) h sections cut fed x in
    rw (← b) (d.when c (rw b l))
