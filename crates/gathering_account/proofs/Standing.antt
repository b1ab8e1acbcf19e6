-- What a box stands for: an account. The fresh state stands for the idle one; a state keeps the sections counted, a spoiled one those before the first
-- contradiction.
use Prim.Native.Nat.{ℕ, ◌≤◌}
use mathlib.Core.Path.{◌≡◌, refl, sym, ◌∙◌}
use mathlib.Core.Bool.{Bool, true, false, false≢true}
use mathlib.Core.List.{List}
use native.Mathlib.Omega.{arith}
use borrow.Author.Tests.{le-leb}
use lib.ListN.{length, get_or}
use Rattle.section_reader.specs.Section.{is_kind, WellFormed}
use Rattle.section_reader.specs.declared.Heading.{Heading}
use Rattle.gathering_state.specs.State.{fresh_state, possible_of, nothing_begun, has_room, opened, held_payload, spoiled_state}
use Rattle.gathering_state.specs.declared.Gathering.{Gathering}
use Rattle.gathering_state.proofs.Lists.{zeros_at}
use Rattle.gathering_state.proofs.State.{Begun, begun_kind, begun_possible, fresh_possible, spoiled_begun}
use Rattle.gathering_tables.specs.Tables.{same_table, is_newer}
use Rattle.gathering_verdict.specs.Deciding.{agrees, begins}
use Rattle.gathering_verdict.proofs.Verdicts.{SameHeading, agrees_is, begins_none, begins_newer}
use Rattle.gathering_account.specs.Account.{Section, Account, idle, table, Agree}
use Rattle.gathering_account.specs.Answering.{undisputed}
use Rattle.gathering_account.specs.Gathers.{Box}
use Rattle.gathering_account.proofs.Keeping.{Kept}

-- the state is that of a table with the heading t, which has room in a store of so many bytes
pub record Fixed (g : Gathering) (bytes : ℕ) (t : Heading) : Type 0 where
  pub same : SameHeading g t
  pub roomy : has_room bytes t.last ≡ true
  pub last_high : t.last ≤ 255
  pub long : length g.held ≡ 256
  pub begun : Begun g

pub data Stands (bytes : ℕ) (box : Box) : Account → Type 0 where
  fresh_stands : box.state ≡ fresh_state → length box.store ≡ bytes → Stands bytes box idle
  calm_stands : {t : Heading} {S : List Section} → Fixed box.state bytes t → length box.store ≡ bytes
      → box.state.spoiled ≡ 0 → Kept box.state box.store S → Stands bytes box (table t S)
  spoiled_stands : {t : Heading} {S : List Section} → Fixed box.state bytes t → length box.store ≡ bytes
      → (box.state.spoiled ≡ 0 → ⊥) → (Agree S → ⊥) → Kept box.state box.store (undisputed S) → Stands bytes box (table t S)

pub never : {A : Type 0} (b : Bool) → b ≡ true → b ≡ false → A
never b p q = absurd (false≢true (sym q ∙ p))

-- ---- states

-- in the fresh state every section begins
pub fresh_begins : (h : Heading) → begins fresh_state h ≡ true
unfolding fresh_state
fresh_begins h = sym (begins_none fresh_state h refl)

pub fresh_none : nothing_begun fresh_state ≡ true
unfolding nothing_begun fresh_state
fresh_none = refl

-- a table that is opened is not spoiled and holds no number
pub opened_calm : (h : Heading) → (opened h).spoiled ≡ 0
unfolding opened
opened_calm h = refl

pub opened_long : (h : Heading) → length (opened h).held ≡ 256
unfolding opened
opened_long h = refl

pub opened_held : (h : Heading) (k : ℕ) → get_or (opened h).held k 0 ≡ 0
unfolding opened
opened_held h k = zeros_at 256 k

-- a contradiction changes the mark alone
pub fixed_spoiled : (g : Gathering) (bytes : ℕ) (t : Heading) → Fixed g bytes t → Fixed (spoiled_state g) bytes t
unfolding spoiled_state
fixed_spoiled g bytes t f =
    record {
      same = record { kind = f.same.kind; extension = f.same.extension; version = f.same.version; last = f.same.last };
      roomy = f.roomy;
      last_high = f.last_high;
      long = f.long;
      begun = spoiled_begun g f.begun;
    }

pub kept_spoiled : {g : Gathering} {store : List ℕ} {S : List Section} → Kept g store S → Kept (spoiled_state g) store S
unfolding spoiled_state held_payload
kept_spoiled kept = record { held = kept.held; stored = kept.stored; only = kept.only }

pub spoiled_marked : (g : Gathering) → (spoiled_state g).spoiled ≡ 0 → ⊥
unfolding spoiled_state
spoiled_marked g e = omega arith

-- a state of t's table agrees with the headings of this table, which has found room, and begins with those of a newer one
module _ {g : Gathering} {bytes : ℕ} {t : Heading} (x : Fixed g bytes t) (h : Heading) where
  pub fixed_agrees : agrees g h ≡ same_table t h
  unfolding agrees same_table
  fixed_agrees = let s = x.same in rw (s.kind, s.extension, s.version, s.last)

  pub fixed_begins : begins g h ≡ is_newer t h
  unfolding is_newer
  fixed_begins = let s = x.same in begins_newer g h (begun_kind g x.begun) ∙ rw (s.kind, s.extension, s.version)

  pub fixed_heading_lem : agrees g h ≡ true → SameHeading g h
  fixed_heading_lem = agrees_is g h

  -- so 10 can't be
  pub fixed_not_short : {A : Type 0} (store : List ℕ) → length store ≡ bytes → agrees g h ≡ true → has_room (length store) h.last ≡ false → A
  fixed_not_short store l a r = never (has_room bytes t.last) x.roomy (rw (l, ← (fixed_heading_lem a).last, x.same.last) at r)

pub formed_kind : (h : Heading) → WellFormed h → is_kind h.kind ≡ true
unfolding is_kind
formed_kind h w = rw (le-leb 0xFB h.kind w.kind_low, le-leb h.kind 0xFE w.kind_high)

-- ---- what a box stands for

-- "A state is possible if it is exactly the fresh one, or" begun
pub stands_possible : {bytes : ℕ} {box : Box} {a : Account} → Stands bytes box a → possible_of box.state ≡ true
stands_possible (fresh_stands z l) = rw z fresh_possible
stands_possible {box = box} (calm_stands x l z k) = begun_possible box.state x.begun
stands_possible {box = box} (spoiled_stands x l z k o) = begun_possible box.state x.begun

pub stands_store : {bytes : ℕ} {box : Box} {a : Account} → Stands bytes box a → length box.store ≡ bytes
stands_store (fresh_stands z l) = l
stands_store (calm_stands x l z k) = l
stands_store (spoiled_stands x l z k o) = l

-- a state has 256 numbers
pub stands_few : {bytes : ℕ} {box : Box} {a : Account} → Stands bytes box a → length box.state.held ≤ 256
unfolding fresh_state
stands_few (fresh_stands z l) = rw z (omega arith)
stands_few (calm_stands x l z k) = let n = x.long in omega arith
stands_few (spoiled_stands x l z k o) = let n = x.long in omega arith
