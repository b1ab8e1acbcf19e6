-- What is heard of a byte string by how it is read, how it is counted, and what a feed makes of a box by its verdict.
use Prim.Native.Nat.{ℕ}
use Rattle.std.specs.Prelude.{Result, Ok, Err}
use mathlib.Core.Path.{◌≡◌, refl}
use mathlib.Core.Bool.{Bool, true, false}
use mathlib.Core.List.{List, [], ◌∷◌, ◌++◌}
use Rattle.ground_refusal.specs.declared.Refusal.{Refusal}
use Rattle.section_reader.specs.Section.{payload_of, read_section}
use Rattle.section_reader.specs.declared.Heading.{Heading}
use Rattle.gathering_verdict.specs.Deciding.{verdict_of}
use Rattle.gathering_feed.specs.Feeding.{state_by, store_by}
use Rattle.gathering_verdict.specs.declared.Verdict.{Verdict}
use Rattle.gathering_feed.proofs.Steps.{feeds}
use Rattle.gathering_tables.specs.Tables.{same_table, is_newer}
use Rattle.gathering_tables.proofs.Tables.{same_not_newer}
use Rattle.gathering_account.specs.Account.{nothing, good_current, heard_as, heard, Section, Account, idle, table, begun, account_after}
use Rattle.gathering_account.specs.Latest.{begins_after}
use Rattle.gathering_account.specs.Gathers.{Box, feed}

-- ---- heard

-- how a byte string is read
pub data ReadAs (s : List ℕ) : Type 0 where
  as_good : (h : Heading) (n : ℕ) → read_section s ≡ Ok (h, n) → ReadAs s
  as_bad : (r : Refusal) → read_section s ≡ Err r → ReadAs s

pub read_as : (s : List ℕ) → ReadAs s
read_as s = go (read_section s) refl
  where
    go : (r : Result (Heading × ℕ) Refusal) → read_section s ≡ r → ReadAs s
    go (Ok (h, n)) e = as_good h n e
    go (Err r) e = as_bad r e

module _ (s : List ℕ) where
  pub heard_bad : (r : Refusal) → read_section s ≡ Err r → heard s ≡ nothing
  unfolding heard heard_as
  heard_bad r e = rw e

  module _ (h : Heading) (n : ℕ) (e : read_section s ≡ Ok (h, n)) where
    pub heard_old : h.current ≡ false → heard s ≡ nothing
    unfolding heard heard_as
    heard_old c = rw (e, c)

    pub heard_good : h.current ≡ true → heard s ≡ good_current h (payload_of s)
    unfolding heard heard_as
    heard_good c = rw (e, c)

-- ---- counted

module _ (room : ℕ → Bool) where
  pub counted_nothing : (a : Account) → account_after room a nothing ≡ a
  unfolding account_after
  counted_nothing a = refl

  module _ (h : Heading) (p : List ℕ) where
    -- a section that begins its table
    module _ (r : room h.last ≡ true) where
      begun_first : (a : Account) → begun room a h p ≡ table h (record { number = h.number; contents = p } ∷ [])
      unfolding begun
      begun_first a = rw r

      pub counted_first : (a : Account) → begins_after a h ≡ true
          → account_after room a (good_current h p) ≡ table h (record { number = h.number; contents = p } ∷ [])
      unfolding account_after begins_after
      counted_first idle b = begun_first idle
      counted_first (table t S) b = rw b (begun_first (table t S))

    -- one that finds no room for it
    module _ (r : room h.last ≡ false) where
      begun_none : (a : Account) → begun room a h p ≡ a
      unfolding begun
      begun_none a = rw r

      pub counted_none : (a : Account) → begins_after a h ≡ true → account_after room a (good_current h p) ≡ a
      unfolding account_after begins_after
      counted_none idle b = begun_none idle
      counted_none (table t S) b = rw b (begun_none (table t S))

    module _ (t : Heading) (S : List Section) where
      pub counted_same : same_table t h ≡ true → account_after room (table t S) (good_current h p) ≡ table t (S ++ record { number = h.number; contents = p } ∷ [])
      unfolding account_after
      counted_same k = rw (same_not_newer t h k, k)

      pub counted_other : is_newer t h ≡ false → same_table t h ≡ false → account_after room (table t S) (good_current h p) ≡ table t S
      unfolding account_after
      counted_other n k = rw (n, k)

-- ---- fed

pub feed_by : (box : Box) (s : List ℕ) (v : Result Verdict Refusal) → verdict_of box.state box.store s ≡ v
    → feed box s ≡ record { state = state_by box.state (payload_of s) v; store = store_by box.store (payload_of s) v }
unfolding feed
feed_by box s v e = let f = feeds box.state box.store s v e in rw (← f.0, ← f.1)
