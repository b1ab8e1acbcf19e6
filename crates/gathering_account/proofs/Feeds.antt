-- Each feed keeps what a box stands for, by the ways that its verdict can go; and so does a run of feeds.
use Prim.Native.Nat.{ℕ, ◌+◌, ◌≤◌}
use Rattle.std.specs.Prelude.{Result, Ok, Err}
use mathlib.Core.Path.{◌≡◌, refl, sym, ◌∙◌, ap}
use mathlib.Core.Bool.{Bool, true, false, ◌||◌}
use mathlib.Core.List.Memᴰ
use mathlib.Core.List.{List, [], ◌∷◌, ◌++◌}
use native.Mathlib.Omega.{arith}
use lib.ListN.{length, get_or, length-set}
use Rattle.crc.specs.Crc.{AreBytes}
use Rattle.ground_choices.proofs.Tests.{refuted}
use Rattle.ground_refusal.specs.declared.Refusal.{Refusal}
use Rattle.section_reader.specs.Section.{payload_of, read_section, WellFormed}
use Rattle.section_reader.specs.declared.Heading.{Heading}
use Rattle.ground_placing.specs.Placed.{placed}
use Rattle.ground_placing.proofs.Placing.{placed_length}
use Rattle.section_reader.proofs.RoundTrip.{good_printed}
use Rattle.gathering_state.specs.State.{fresh_state, place, has_room, opened, with_section}
use Rattle.gathering_state.specs.declared.Gathering.{Gathering}
use Rattle.gathering_state.proofs.State.{place_within, OfTable, opened_table, section_begun}
use Rattle.gathering_verdict.specs.Deciding.{agrees, begins, verdict_of}
use Rattle.gathering_feed.specs.Feeding.{state_by, store_by}
use Rattle.gathering_verdict.specs.declared.Verdict.{Verdict}
use Rattle.gathering_verdict.specs.declared.Verdict.TheVariants.{Repeat, Contradict, Begin, Take}
use Rattle.gathering_verdict.proofs.Verdicts.{SameHeading, verdict_bad, verdict_good, Decided, old, other, short, begun, spoiled, new, again, clash, decided}
use Rattle.gathering_account.specs.Account.{heard, Section, Account, idle, table, account_after, account, Agree}
use Rattle.gathering_account.specs.Latest.{begins_after}
use Rattle.gathering_account.specs.Answering.{agreeing, undisputed}
use Rattle.gathering_account.specs.Gathers.{Box, fresh_box, ByteStrings, feed, box_after}
use Rattle.gathering_account.proofs.Agreeing.{agreeing_is, agree_agreeing}
use Rattle.gathering_account.proofs.Undisputed.{undisputed_more, undisputed_clash}
use Rattle.gathering_account.proofs.Keeping.{Kept, kept_agree, agree_front, kept_again, kept_clash, kept_more, kept_none}
use Rattle.gathering_account.proofs.Hearing.{ReadAs, as_good, as_bad, read_as, heard_bad, heard_old, heard_good, counted_nothing, counted_first, counted_none, counted_same, counted_other, feed_by}
use Rattle.gathering_account.proofs.Standing.{Fixed, Stands, fresh_stands, calm_stands, spoiled_stands, never, stands_possible, kept_spoiled, fresh_begins, opened_calm, opened_long, opened_held, fixed_spoiled, spoiled_marked, fixed_agrees, fixed_begins, fixed_heading_lem, fixed_not_short, formed_kind}

-- ---- a good section

module _ (bytes : ℕ) (box : Box) (s : List ℕ) (are_bytes : AreBytes s) (h : Heading) (n : ℕ) (e : read_section s ≡ Ok (h, n)) where
  abbrev g : Gathering
  g = box.state

  abbrev p : List ℕ
  p = payload_of s

  abbrev section : Section
  section = record { number = h.number; contents = p }

  formed : WellFormed h
  formed = (good_printed s h n are_bytes e).formed

  p_short : length p ≤ 4084
  p_short = let i = good_printed s h n are_bytes e in omega arith

  -- it is taken into the state b: that of its table opened, as the first, or the box's, as a further one
  takes : (b : Gathering) (t : Heading) (S : List Section) → OfTable b → length b.held ≡ 256 → Kept b box.store S → b.spoiled ≡ 0
      → SameHeading b t → h.last ≡ t.last → has_room (length box.store) h.last ≡ true → length box.store ≡ bytes
      → get_or b.held h.number 0 ≡ 0
      → feed box s ≡ record { state = with_section b h.number (length p); store = placed box.store (place h.number) p }
      → Stands bytes (feed box s) (table t (S ++ section ∷ []))
  unfolding with_section
  takes b t S of_table m kept calm same last roomy long unheld fed =
      let w = formed in
      let l = p_short in
      let to = same.last in
      let within = place_within (length box.store) h.last h.number roomy w.number_high in
      rw fed
      (calm_stands
      (record {
        same = record { kind = same.kind; extension = same.extension; version = same.version; last = same.last };
        roomy = rw (← last, ← long) roomy;
        last_high = rw (← last) w.last_high;
        long = length-set b.held h.number (length p + 1) ∙ m;
        begun = section_begun b h.number of_table m (omega arith) (omega arith) unheld (length p) l;
      })
      (placed_length box.store (place h.number) p (omega arith) ∙ long)
      calm
      (kept_more b box.store S kept h.number p unheld (omega arith) of_table.short within l))

  -- it begins its table, whatever the box holds
  takes_first : length box.store ≡ bytes → has_room (length box.store) h.last ≡ true → verdict_of g box.store s ≡ Ok (Begin h)
      → Stands bytes (feed box s) (table h (section ∷ []))
  unfolding state_by store_by opened
  takes_first l roomy f =
      let w = formed in
      takes (opened h) h [] (opened_table h (formed_kind h w) w.version_high) (opened_long h) (kept_none (opened h) box.store (opened_held h))
      (opened_calm h) (record { kind = refl; extension = refl; version = refl; last = refl }) refl roomy l (opened_held h h.number) (feed_by box s (Ok (Begin h)) f)

  starts : (a : Account) → begins_after a h ≡ true → h.current ≡ true → length box.store ≡ bytes → has_room (length box.store) h.last ≡ true
      → verdict_of g box.store s ≡ Ok (Begin h) → Stands bytes (feed box s) (account_after (has_room bytes) a (heard s))
  starts a b c l r f = rw (heard_good s h n e c, counted_first (has_room bytes) h p (rw l at r) a b) (takes_first l r f)

  -- the feed changes nothing, nor does what is heard
  still : (a : Account) → Stands bytes box a → (r : Refusal) → verdict_of g box.store s ≡ Err r → (a' : Account) → a' ≡ a → Stands bytes (feed box s) a'
  unfolding state_by store_by
  still a st r v a' q = let i : feed box s ≡ box = feed_by box s (Err r) v in rw (i, q) st

  unheard : (a : Account) → h.current ≡ false → account_after (has_room bytes) a (heard s) ≡ a
  unheard a c = ap (account_after (has_room bytes) a) (heard_old s h n e c) ∙ counted_nothing (has_room bytes) a

  -- where it would begin its table and there is no room, all stays
  unroomed : (a : Account) → begins_after a h ≡ true → h.current ≡ true → length box.store ≡ bytes → has_room (length box.store) h.last ≡ false
      → account_after (has_room bytes) a (heard s) ≡ a
  unroomed a b c l r = ap (account_after (has_room bytes) a) (heard_good s h n e c) ∙ counted_none (has_room bytes) h p (rw l at r) a b

  -- nothing begun: it begins, unless there is no room
  module _ (z : g ≡ fresh_state) (l : length box.store ≡ bytes) where
    first : begins g h ≡ true
    first = rw z (fresh_begins h)

    idle_begins : begins_after idle h ≡ true
    unfolding begins_after
    idle_begins = refl

    good_fresh : (v : Result Verdict Refusal) → verdict_of g box.store s ≡ v → Decided g box.store h p v → Stands bytes (feed box s) (account_after (has_room bytes) idle (heard s))
    good_fresh v f (old c) = still idle (fresh_stands z l) _ f _ (unheard idle c)
    good_fresh v f (other c b a) = never (begins g h) first b
    good_fresh v f (short c k r) = still idle (fresh_stands z l) _ f _ (unroomed idle idle_begins c l r)
    good_fresh v f (begun c b r) = starts idle idle_begins c l r f
    good_fresh v f (spoiled c b a r x) = never (begins g h) first b
    good_fresh v f (new x u) = never (begins g h) first x.further
    good_fresh v f (again x u q) = never (begins g h) first x.further
    good_fresh v f (clash x u q) = never (begins g h) first x.further

  -- a table is fixed
  module _ (t : Heading) (S : List Section) (x : Fixed g bytes t) (l : length box.store ≡ bytes) where
    newer_begins : begins g h ≡ true → begins_after (table t S) h ≡ true
    unfolding begins_after
    newer_begins b = sym (fixed_begins x h) ∙ b

    counts : h.current ≡ true → agrees g h ≡ true → account_after (has_room bytes) (table t S) (heard s) ≡ table t (S ++ section ∷ [])
    counts c a = rw (heard_good s h n e c) (counted_same (has_room bytes) h p t S (sym (fixed_agrees x h) ∙ a))

    passes : h.current ≡ true → begins g h ≡ false → agrees g h ≡ false → account_after (has_room bytes) (table t S) (heard s) ≡ table t S
    passes c b a = rw (heard_good s h n e c) (counted_other (has_room bytes) h p t S (sym (fixed_begins x h) ∙ b) (sym (fixed_agrees x h) ∙ a))

    -- 10 is of a newer table
    shuts : h.current ≡ true → begins g h || agrees g h ≡ true → has_room (length box.store) h.last ≡ false
        → account_after (has_room bytes) (table t S) (heard s) ≡ table t S
    shuts c k r = go (begins g h) refl k
      where
        go : (b : Bool) → begins g h ≡ b → b || agrees g h ≡ true → account_after (has_room bytes) (table t S) (heard s) ≡ table t S
        go true b k = unroomed (table t S) (newer_begins b) c l r
        go false b k = fixed_not_short x h box.store l k r

    good_calm : g.spoiled ≡ 0 → Kept g box.store S → (v : Result Verdict Refusal) → verdict_of g box.store s ≡ v → Decided g box.store h p v
        → Stands bytes (feed box s) (account_after (has_room bytes) (table t S) (heard s))
    unfolding state_by store_by
    good_calm z k v f (old c) = still (table t S) (calm_stands x l z k) _ f _ (unheard (table t S) c)
    good_calm z k v f (other c b a) = still (table t S) (calm_stands x l z k) _ f _ (passes c b a)
    good_calm z k v f (short c b r) = still (table t S) (calm_stands x l z k) _ f _ (shuts c b r)
    good_calm z k v f (begun c b r) = starts (table t S) (newer_begins b) c l r f
    good_calm z k v f (spoiled c b a r y) = absurd (y z)
    good_calm z k v f (new y u) =
        let a = fixed_heading_lem x h y.agreed in
        rw (counts y.current y.agreed)
        (takes g t S x.begun.of_table x.long k z x.same (sym a.last ∙ x.same.last) y.roomy l u (feed_by box s (Ok (Take h)) f))
    good_calm z k v f (again y u q) =
        rw (counts y.current y.agreed, feed_by box s (Ok Repeat) f) (calm_stands x l z (kept_again g box.store S k section u q))
    good_calm z k v f (clash y u q) =
        let no = kept_clash g box.store S k section u q in
        let clashes : agreeing (S ++ section ∷ []) ≡ false = sym (refuted (agreeing (S ++ section ∷ [])) (λ e. no (agreeing_is _ e))) in
        let front = undisputed_clash S section (agree_agreeing S (kept_agree k)) clashes in
        rw (counts y.current y.agreed, feed_by box s (Ok Contradict) f)
        (spoiled_stands (fixed_spoiled g bytes t x) l (spoiled_marked g) no (rw front (kept_spoiled k)))

    good_spoiled : (g.spoiled ≡ 0 → ⊥) → (Agree S → ⊥) → Kept g box.store (undisputed S) → (v : Result Verdict Refusal) → verdict_of g box.store s ≡ v → Decided g box.store h p v
        → Stands bytes (feed box s) (account_after (has_room bytes) (table t S) (heard s))
    good_spoiled z k o v f (old c) = still (table t S) (spoiled_stands x l z k o) _ f _ (unheard (table t S) c)
    good_spoiled z k o v f (other c b a) = still (table t S) (spoiled_stands x l z k o) _ f _ (passes c b a)
    good_spoiled z k o v f (short c b r) = still (table t S) (spoiled_stands x l z k o) _ f _ (shuts c b r)
    good_spoiled z k o v f (begun c b r) = starts (table t S) (newer_begins b) c l r f
    good_spoiled z k o v f (spoiled c b a r y) =
        let same = undisputed_more S section (sym (refuted (agreeing S) (λ e. k (agreeing_is S e)))) in
        still (table t (S ++ section ∷ [])) (spoiled_stands x l z (λ i. k (agree_front S (section ∷ []) i)) (rw same o)) _ f _ (counts c a)
    good_spoiled z k o v f (new y u) = absurd (z y.calm)
    good_spoiled z k o v f (again y u q) = absurd (z y.calm)
    good_spoiled z k o v f (clash y u q) = absurd (z y.calm)

-- ---- any byte string, and any list of them

module _ (bytes : ℕ) (box : Box) (s : List ℕ) (are_bytes : AreBytes s) where
  feed_good : {a : Account} → Stands bytes box a → (h : Heading) (n : ℕ) → read_section s ≡ Ok (h, n)
      → (v : Result Verdict Refusal) → verdict_of box.state box.store s ≡ v → Decided box.state box.store h (payload_of s) v
      → Stands bytes (feed box s) (account_after (has_room bytes) a (heard s))
  feed_good (fresh_stands z l) h n e = good_fresh bytes box s are_bytes h n e z l
  feed_good (calm_stands {t} {S} x l z k) h n e = good_calm bytes box s are_bytes h n e t S x l z k
  feed_good (spoiled_stands {t} {S} x l z k o) h n e = good_spoiled bytes box s are_bytes h n e t S x l z k o

  pub feed_stands : {a : Account} → Stands bytes box a → Stands bytes (feed box s) (account_after (has_room bytes) a (heard s))
  unfolding state_by store_by
  feed_stands {a} st = go (read_as s)
    where
      go : ReadAs s → Stands bytes (feed box s) (account_after (has_room bytes) a (heard s))
      go (as_good h n e) =
          feed_good st h n e _ (verdict_good box.state box.store s (stands_possible st) h n e) (decided box.state box.store h (payload_of s))
      go (as_bad r e) =
          rw (heard_bad s r e, counted_nothing (has_room bytes) a, feed_by box s (Err r) (verdict_bad box.state box.store s (stands_possible st) r e)) st

pub run_stands : (bytes : ℕ) (fed : List (List ℕ)) → ByteStrings fed → (box : Box) (a : Account) → Stands bytes box a
    → Stands bytes (box_after box fed) (account (has_room bytes) a fed)
unfolding box_after account ByteStrings
run_stands bytes [] are_bytes box a st = st
run_stands bytes (s ∷ fed) are_bytes box a st =
    run_stands bytes fed (λ r i. are_bytes r (Memᴰ.tail i)) (feed box s) (account_after (has_room bytes) a (heard s))
    (feed_stands bytes box s (are_bytes s (Memᴰ.head refl)) st)

-- a run of feeds, from a fresh state
pub fresh_run : (store : List ℕ) (fed : List (List ℕ)) → ByteStrings fed
    → Stands (length store) (box_after (fresh_box store) fed) (account (has_room (length store)) idle fed)
unfolding fresh_box
fresh_run store fed are_bytes = run_stands (length store) fed are_bytes (fresh_box store) idle (fresh_stands refl refl)
