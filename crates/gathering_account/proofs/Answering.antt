-- An account tells what each feed answers: a box that stands for an account decides as the account says, whichever way its verdict goes.
use Prim.Native.Nat.{ℕ}
use Rattle.std.specs.Prelude.{Result, Ok, Err}
use mathlib.Core.Path.{◌≡◌, refl, sym, ◌∙◌, ap, ap₂}
use mathlib.Core.Bool.{Bool, true, false, ◌||◌, or-true}
use mathlib.Core.List.{List, [], ◌∷◌, Memᴰ as In}
use lib.ListN.{length, get_or}
use Rattle.ground_refusal.specs.declared.Refusal.{Refusal}
use Rattle.ground_refusal.specs.declared.Refusal.TheVariants.{NotCurrent, OtherHeading, StoreTooShort, Contradiction}
use Rattle.ground_choices.proofs.Tests.{refuted}
use Rattle.section_reader.specs.Section.{payload_of, read_section}
use Rattle.section_reader.specs.declared.Heading.{Heading}
use Rattle.gathering_state.specs.State.{fresh_state, possible_of, has_room, held_payload}
use Rattle.gathering_state.specs.declared.Gathering.{Gathering}
use Rattle.gathering_tables.specs.Tables.{same_table, is_newer}
use Rattle.gathering_verdict.specs.Deciding.{agrees, begins, verdict_of}
use Rattle.gathering_feed.specs.Feeding.{answer_by}
use Rattle.gathering_feed.specs.declared.Answer.TheVariants.{Taken, HeldAlready}
use Rattle.gathering_feed.specs.declared.Fed.{Fed}
use Rattle.gathering_verdict.specs.declared.Verdict.{Verdict}
use Rattle.gathering_verdict.specs.declared.Verdict.TheVariants.{Begin}
use Rattle.gathering_verdict.proofs.Verdicts.{verdict_bad, verdict_good, Decided, old, other, short, begun, spoiled, new, again, clash, decided}
use Rattle.gathering_feed.proofs.Steps.{feeds}
use Rattle.gathering_account.specs.Account.{heard, Section, Account, idle, table, account_after, account, Agree, Present}
use Rattle.gathering_account.specs.Answering.{present, differs, agreeing, answer_of_table, answer_of_first, answer_of_good, answer_of_read, answer_to, answers_to}
use Rattle.gathering_account.specs.Latest.{begins_after}
use Rattle.gathering_account.specs.Gathers.{Box, fresh_box, ByteStrings, feed, box_after, fed_answer, answers_of}
use Rattle.gathering_account.proofs.Agreeing.{present_is, is_present, differs_not, alike_differs, agreeing_is, agree_agreeing}
use Rattle.gathering_account.proofs.Keeping.{Kept, kept_agree}
use Rattle.gathering_account.proofs.Hearing.{ReadAs, as_good, as_bad, read_as}
use Rattle.gathering_account.proofs.Standing.{Fixed, Stands, fresh_stands, calm_stands, spoiled_stands, never, stands_possible, fresh_begins, fixed_agrees, fixed_begins, fixed_not_short}
use Rattle.gathering_account.proofs.Feeds.{feed_stands, fresh_run}

-- ---- what leads to each answer of the account

module _ (S : List Section) (s : Section) where
  answer_spoiled : agreeing S ≡ false → answer_of_table S s ≡ Err Contradiction
  unfolding answer_of_table
  answer_spoiled a = simp (a, or-true)

  answer_clash : differs s S ≡ true → answer_of_table S s ≡ Err Contradiction
  unfolding answer_of_table
  answer_clash d = rw d

  module _ (d : differs s S ≡ false) (a : agreeing S ≡ true) where
    answer_again : present s.number S ≡ true → answer_of_table S s ≡ Ok HeldAlready
    unfolding answer_of_table
    answer_again p = rw (d, a, p)

    answer_new : present s.number S ≡ false → answer_of_table S s ≡ Ok Taken
    unfolding answer_of_table
    answer_new p = rw (d, a, p)

module _ (room : ℕ → Bool) (h : Heading) (p : List ℕ) where
  -- a section that begins its table
  answer_begins : (a : Account) → begins_after a h ≡ true → answer_of_good room a h p ≡ answer_of_first room h
  unfolding answer_of_good begins_after
  answer_begins idle b = refl
  answer_begins (table t S) b = rw b

  answer_short : room h.last ≡ false → answer_of_first room h ≡ Err StoreTooShort
  unfolding answer_of_first
  answer_short r = rw r

  answer_first : room h.last ≡ true → answer_of_first room h ≡ Ok Taken
  unfolding answer_of_first
  answer_first r = rw r

  module _ (t : Heading) (S : List Section) (b : is_newer t h ≡ false) where
    answer_other : same_table t h ≡ false → answer_of_good room (table t S) h p ≡ Err OtherHeading
    unfolding answer_of_good
    answer_other e = rw (b, e)

    answer_same : same_table t h ≡ true → answer_of_good room (table t S) h p ≡ answer_of_table S (record { number = h.number; contents = p })
    unfolding answer_of_good
    answer_same e = rw (b, e)

module _ (room : ℕ → Bool) (a : Account) (s : List ℕ) where
  answer_bad : (r : Refusal) → read_section s ≡ Err r → answer_to room a s ≡ Err r
  unfolding answer_to answer_of_read
  answer_bad r e = rw e

  module _ (h : Heading) (n : ℕ) (e : read_section s ≡ Ok (h, n)) where
    answer_old : h.current ≡ false → answer_to room a s ≡ Err NotCurrent
    unfolding answer_to answer_of_read
    answer_old c = rw (e, c)

    answer_good : h.current ≡ true → answer_to room a s ≡ answer_of_good room a h (payload_of s)
    unfolding answer_to answer_of_read
    answer_good c = rw (e, c)

-- ---- a section more, by what a box that is not spoiled holds

module _ {g : Gathering} {store : List ℕ} {S : List Section} (kept : Kept g store S) (s : Section) where
  agreed : agreeing S ≡ true
  agreed = agree_agreeing S (kept_agree kept)

  unheld : get_or g.held s.number 0 ≡ 0 → answer_of_table S s ≡ Ok Taken
  unfolding Present
  unheld z =
      answer_new S s (alike_differs s S (λ t i n. absurd (absent t i (sym n)))) agreed
      (sym (refuted (present s.number S) (λ e. let x = present_is s.number S e in absent x.0 x.1 x.2)))
    where
      absent : (t : Section) → In t S → t.number ≡ s.number → ⊥
      absent t i n = kept.held t i (ap (λ (k : ℕ). get_or g.held k 0) n ∙ z)

  module _ (held : get_or g.held s.number 0 ≡ 0 → ⊥) where
    held_same : held_payload g store s.number ≡ s.contents → answer_of_table S s ≡ Ok HeldAlready
    held_same q =
        answer_again S s (alike_differs s S (λ t i n. sym q ∙ ap (held_payload g store) n ∙ kept.stored t i)) agreed
        (is_present s.number S (kept.only s.number held))

    held_differing : (held_payload g store s.number ≡ s.contents → ⊥) → answer_of_table S s ≡ Err Contradiction
    unfolding Present
    held_differing q = answer_clash S s (go (differs s S) refl)
      where
        go : (b : Bool) → differs s S ≡ b → differs s S ≡ true
        go true e = e
        go false e =
            let x = kept.only s.number held in
            absurd (q (ap (held_payload g store) (sym x.2) ∙ kept.stored x.0 x.1 ∙ sym (differs_not s S e x.0 x.1 (sym x.2))))

-- ---- a good section, by the ways that its verdict can go

module _ (bytes : ℕ) (box : Box) (s : List ℕ) (h : Heading) (n : ℕ) (e : read_section s ≡ Ok (h, n)) where
  abbrev Tells : Account → Result Verdict Refusal → Type 0
  Tells a v = answer_to (has_room bytes) a s ≡ answer_by v

  abbrev Ways : Result Verdict Refusal → Type 0
  Ways = Decided box.state box.store h (payload_of s)

  -- it begins its table
  module _ (a : Account) (b : begins_after a h ≡ true) (c : h.current ≡ true) (l : length box.store ≡ bytes) where
    begins_tells : answer_to (has_room bytes) a s ≡ answer_of_first (has_room bytes) h
    begins_tells = answer_good (has_room bytes) a s h n e c ∙ answer_begins (has_room bytes) h (payload_of s) a b

    short_tells : has_room (length box.store) h.last ≡ false → Tells a (Err StoreTooShort)
    unfolding answer_by
    short_tells r = begins_tells ∙ answer_short (has_room bytes) h (payload_of s) (rw l at r)

    first_tells : has_room (length box.store) h.last ≡ true → Tells a (Ok (Begin h))
    unfolding answer_by
    first_tells r = begins_tells ∙ answer_first (has_room bytes) h (payload_of s) (rw l at r)

  -- nothing begun
  module _ (z : box.state ≡ fresh_state) (l : length box.store ≡ bytes) where
    first : begins box.state h ≡ true
    first = rw z (fresh_begins h)

    idle_begins : begins_after idle h ≡ true
    unfolding begins_after
    idle_begins = refl

    fresh_tells : (v : Result Verdict Refusal) → Ways v → Tells idle v
    unfolding answer_by
    fresh_tells v (old c) = answer_old (has_room bytes) idle s h n e c
    fresh_tells v (other c b a) = never (begins box.state h) first b
    fresh_tells v (short c k r) = short_tells idle idle_begins c l r
    fresh_tells v (begun c b r) = first_tells idle idle_begins c l r
    fresh_tells v (spoiled c b a r x) = never (begins box.state h) first b
    fresh_tells v (new x u) = never (begins box.state h) first x.further
    fresh_tells v (again x u q) = never (begins box.state h) first x.further
    fresh_tells v (clash x u q) = never (begins box.state h) first x.further

  -- a table is fixed
  module _ (t : Heading) (S : List Section) (x : Fixed box.state bytes t) (l : length box.store ≡ bytes) where
    abbrev section : Section
    section = record { number = h.number; contents = payload_of s }

    newer_begins : begins box.state h ≡ true → begins_after (table t S) h ≡ true
    unfolding begins_after
    newer_begins b = sym (fixed_begins x h) ∙ b

    old_tells : h.current ≡ false → Tells (table t S) (Err NotCurrent)
    unfolding answer_by
    old_tells = answer_old (has_room bytes) (table t S) s h n e

    other_tells : h.current ≡ true → begins box.state h ≡ false → agrees box.state h ≡ false → Tells (table t S) (Err OtherHeading)
    unfolding answer_by
    other_tells c b a =
        answer_good (has_room bytes) (table t S) s h n e c
        ∙ answer_other (has_room bytes) h (payload_of s) t S (sym (fixed_begins x h) ∙ b) (sym (fixed_agrees x h) ∙ a)

    -- 10 is of a newer table
    shut_tells : h.current ≡ true → begins box.state h || agrees box.state h ≡ true → has_room (length box.store) h.last ≡ false
        → Tells (table t S) (Err StoreTooShort)
    shut_tells c k r = go (begins box.state h) refl k
      where
        go : (b : Bool) → begins box.state h ≡ b → b || agrees box.state h ≡ true → Tells (table t S) (Err StoreTooShort)
        go true b k = short_tells (table t S) (newer_begins b) c l r
        go false b k = fixed_not_short x h box.store l k r

    same_tells : h.current ≡ true → begins box.state h ≡ false → agrees box.state h ≡ true
        → answer_to (has_room bytes) (table t S) s ≡ answer_of_table S section
    same_tells c b a =
        answer_good (has_room bytes) (table t S) s h n e c
        ∙ answer_same (has_room bytes) h (payload_of s) t S (sym (fixed_begins x h) ∙ b) (sym (fixed_agrees x h) ∙ a)

    calm_tells : box.state.spoiled ≡ 0 → Kept box.state box.store S → (v : Result Verdict Refusal) → Ways v → Tells (table t S) v
    unfolding answer_by
    calm_tells z k v (old c) = old_tells c
    calm_tells z k v (other c b a) = other_tells c b a
    calm_tells z k v (short c b r) = shut_tells c b r
    calm_tells z k v (begun c b r) = first_tells (table t S) (newer_begins b) c l r
    calm_tells z k v (spoiled c b a r y) = absurd (y z)
    calm_tells z k v (new y u) = same_tells y.current y.further y.agreed ∙ unheld k section u
    calm_tells z k v (again y u q) = same_tells y.current y.further y.agreed ∙ held_same k section u q
    calm_tells z k v (clash y u q) = same_tells y.current y.further y.agreed ∙ held_differing k section u q

    spoiled_tells : (box.state.spoiled ≡ 0 → ⊥) → (Agree S → ⊥) → (v : Result Verdict Refusal) → Ways v → Tells (table t S) v
    unfolding answer_by
    spoiled_tells z k v (old c) = old_tells c
    spoiled_tells z k v (other c b a) = other_tells c b a
    spoiled_tells z k v (short c b r) = shut_tells c b r
    spoiled_tells z k v (begun c b r) = first_tells (table t S) (newer_begins b) c l r
    spoiled_tells z k v (spoiled c b a r y) = same_tells c b a ∙ answer_spoiled S section (sym (refuted (agreeing S) (λ i. k (agreeing_is S i))))
    spoiled_tells z k v (new y u) = absurd (z y.calm)
    spoiled_tells z k v (again y u q) = absurd (z y.calm)
    spoiled_tells z k v (clash y u q) = absurd (z y.calm)

-- ---- any byte string, and any list of them

module _ (bytes : ℕ) (box : Box) (s : List ℕ) where
  answer_by_lem : (v : Result Verdict Refusal) → verdict_of box.state box.store s ≡ v → fed_answer box s ≡ answer_by v
  answer_by_lem v e = sym (ap (λ (f : Fed). f.answer) (feeds box.state box.store s v e).0)

  good_tells : {a : Account} → Stands bytes box a → (h : Heading) (n : ℕ) → read_section s ≡ Ok (h, n)
      → (v : Result Verdict Refusal) → Decided box.state box.store h (payload_of s) v → answer_to (has_room bytes) a s ≡ answer_by v
  good_tells (fresh_stands z l) h n e = fresh_tells bytes box s h n e z l
  good_tells (calm_stands {t} {S} x l z k) h n e = calm_tells bytes box s h n e t S x l z k
  good_tells (spoiled_stands {t} {S} x l z k o) h n e = spoiled_tells bytes box s h n e t S x l z k

  pub stands_answers : {a : Account} → Stands bytes box a → fed_answer box s ≡ answer_to (has_room bytes) a s
  unfolding answer_by
  stands_answers {a} st = go (read_as s)
    where
      go : ReadAs s → fed_answer box s ≡ answer_to (has_room bytes) a s
      go (as_good h n e) =
          answer_by_lem _ (verdict_good box.state box.store s (stands_possible st) h n e)
          ∙ sym (good_tells st h n e _ (decided box.state box.store h (payload_of s)))
      go (as_bad r e) = answer_by_lem (Err r) (verdict_bad box.state box.store s (stands_possible st) r e) ∙ sym (answer_bad (has_room bytes) a s r e)

all_answer : (bytes : ℕ) (fed : List (List ℕ)) → ByteStrings fed → (box : Box) (a : Account) → Stands bytes box a
    → answers_of box fed ≡ answers_to (has_room bytes) a fed
unfolding answers_of answers_to ByteStrings
all_answer bytes [] are_bytes box a st = refl
all_answer bytes (s ∷ fed) are_bytes box a st =
    ap₂ ◌∷◌ (stands_answers bytes box s st)
    (all_answer bytes fed (λ r i. are_bytes r (In.tail i)) (feed box s) (account_after (has_room bytes) a (heard s))
    (feed_stands bytes box s (are_bytes s (In.head refl)) st))

-- ---- the theorems: an account is the whole meaning of a run of feeds

module _ (store : List ℕ) (fed : List (List ℕ)) (are_bytes : ByteStrings fed) where
  -- 12 never comes
  pub run_possible : possible_of (box_after (fresh_box store) fed).state ≡ true
  run_possible = stands_possible (fresh_run store fed are_bytes)

  -- the next feed
  pub feed_answers : (s : List ℕ)
      → fed_answer (box_after (fresh_box store) fed) s ≡ answer_to (has_room (length store)) (account (has_room (length store)) idle fed) s
  feed_answers s = stands_answers (length store) (box_after (fresh_box store) fed) s (fresh_run store fed are_bytes)

  -- all of them
  pub run_answers : answers_of (fresh_box store) fed ≡ answers_to (has_room (length store)) idle fed
  unfolding fresh_box
  run_answers = all_answer (length store) fed are_bytes (fresh_box store) idle (fresh_stands refl refl)
