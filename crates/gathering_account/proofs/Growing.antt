-- The account of a table's feeds: once its first section has begun the table, each of its sections that is fed is counted, and nothing else is,
-- unless a newer table finds room.
use Prim.Native.Nat.{ℕ, ◌≤◌}
use mathlib.Core.Path.{◌≡◌, refl, sym, ◌∙◌, ap}
use mathlib.Core.Bool.{Bool, true, false}
use mathlib.Core.List.Memᴰ
use mathlib.Core.List.{List, [], ◌∷◌, ◌++◌, Memᴰ as In}
use mathlib.Core.Logic.{◌⊎◌, inl, inr}
use native.Mathlib.Omega.{arith}
use borrow.Author.Tests.{eq-eqb}
use Rattle.std.specs.Prelude.{if◌then◌else◌}
use Rattle.section_reader.specs.Section.{payload_of}
use Rattle.section_reader.specs.declared.Heading.{Heading}
use Rattle.gathering_tables.specs.Tables.{same_table, is_newer}
use Rattle.gathering_tables.proofs.Tables.{same_not_newer}
use Rattle.gathering_account.specs.Account.{Heard, nothing, good_current, heard, Section, Account, idle, table, begun, account_after, account, Present}
use Rattle.gathering_account.specs.Latest.{begins_after}
use Rattle.gathering_account.specs.Arrival.{heading_at, CutInto}
use Rattle.gathering_account.proofs.Hearing.{counted_nothing, counted_none, counted_same, counted_other}
use Rattle.gathering_account.proofs.Keeping.{present_front, present_last, all_more}
use Rattle.gathering_account.proofs.Standing.{never}

-- what is heard, with how it came
pub data HeardIs (s : List ℕ) : Type 0 where
  hears_nothing : heard s ≡ nothing → HeardIs s
  hears : (h : Heading) (p : List ℕ) → heard s ≡ good_current h p → HeardIs s

pub heard_is : (s : List ℕ) → HeardIs s
heard_is s = go (heard s) refl
  where
    go : (x : Heard) → heard s ≡ x → HeardIs s
    go nothing e = hears_nothing e
    go (good_current h p) e = hears h p e

pub silent : {A : Type 0} (s : List ℕ) (h : Heading) (p : List ℕ) → heard s ≡ nothing → heard s ≡ good_current h p → A
silent s h p e f = let z : ◌≡◌ {A = ℕ} 0 1 = cc in absurd (omega arith)

pub heard_same : (s : List ℕ) (h i : Heading) (p q : List ℕ) → heard s ≡ good_current h p → heard s ≡ good_current i q → (h ≡ i) × (p ≡ q)
heard_same s h i p q e f = (cc, cc)

-- one account after the other
pub account_append : (room : ℕ → Bool) (a : Account) (xs ys : List (List ℕ)) → account room a (xs ++ ys) ≡ account room (account room a xs) ys
unfolding account
account_append room a [] ys = refl
account_append room a (x ∷ xs) ys = account_append room (account_after room a (heard x)) xs ys

-- sections that find no room fix nothing
pub account_none : (room : ℕ → Bool) (fed : List (List ℕ)) → ((s : List ℕ) → In s fed → (h : Heading) (p : List ℕ) → heard s ≡ good_current h p → room h.last ≡ false)
    → account room idle fed ≡ idle
unfolding account begins_after
account_none room [] f = refl
account_none room (s ∷ fed) f = go (heard_is s) ∙ account_none room fed (λ t i. f t (In.tail i))
  where
    go : HeardIs s → account room (account_after room idle (heard s)) fed ≡ account room idle fed
    go (hears_nothing e) = rw (e, counted_nothing room idle)
    go (hears h p e) = rw (e, counted_none room h p (f s (In.head refl) h p e) idle refl)

-- ---- room

-- a fixed table found room
abbrev FoundRoom : (ℕ → Bool) → Account → Type 0
FoundRoom room idle = Unit {0}
FoundRoom room (table t S) = room t.last ≡ true

begun_room : (room : ℕ → Bool) (a : Account) (h : Heading) (p : List ℕ) → FoundRoom room a → FoundRoom room (begun room a h p)
unfolding begun
begun_room room a h p r = go (room h.last) refl
  where
    go : (b : Bool) → room h.last ≡ b → FoundRoom room (if b then table h (record { number = h.number; contents = p } ∷ []) else a)
    go true e = e
    go false e = r

counted_room : (room : ℕ → Bool) (a : Account) (x : Heard) → FoundRoom room a → FoundRoom room (account_after room a x)
unfolding account_after
counted_room room a nothing r = r
counted_room room idle (good_current h p) r = begun_room room idle h p r
counted_room room (table t S) (good_current h p) r = go (is_newer t h) (same_table t h)
  where
    go : (newer same : Bool)
        → FoundRoom room
        (if newer then begun room (table t S) h p else if same then table t (S ++ record { number = h.number; contents = p } ∷ []) else table t S)
    go true same = begun_room room (table t S) h p r
    go false true = r
    go false false = r

account_room : (room : ℕ → Bool) (a : Account) (fed : List (List ℕ)) → FoundRoom room a → FoundRoom room (account room a fed)
unfolding account
account_room room a [] r = r
account_room room a (s ∷ fed) r = account_room room (account_after room a (heard s)) fed (counted_room room a (heard s) r)

pub table_room : (room : ℕ → Bool) (fed : List (List ℕ)) (t : Heading) (S : List Section) → account room idle fed ≡ table t S → room t.last ≡ true
table_room room fed t S e = rw e at (account_room room idle fed tt)

-- ---- the table's heading

module _ (h : Heading) where
  same_first : (first : ℕ) (i : Heading) → same_table (heading_at h first) i ≡ same_table h i
  unfolding same_table heading_at
  same_first first i = refl

  newer_first : (first : ℕ) (i : Heading) → is_newer (heading_at h first) i ≡ is_newer h i
  unfolding is_newer heading_at
  newer_first first i = refl

  pub begins_first : (first : ℕ) (a : Account) → begins_after a (heading_at h first) ≡ begins_after a h
  unfolding begins_after is_newer heading_at
  begins_first first idle = refl
  begins_first first (table t S) = refl

  same_own : (k : ℕ) → same_table h (heading_at h k) ≡ true
  unfolding same_table heading_at
  same_own k = simp (eq-eqb h.kind h.kind refl, eq-eqb h.extension h.extension refl, eq-eqb h.version h.version refl, eq-eqb h.last h.last refl)

  -- none of the table's own sections is ahead of it
  pub own_not_newer : (k : ℕ) → is_newer h (heading_at h k) ≡ false
  own_not_newer k = same_not_newer h (heading_at h k) (same_own k)

  number_at : (k : ℕ) → (heading_at h k).number ≡ k
  unfolding heading_at
  number_at k = refl

-- ---- the sections counted

-- each has the contents that the table has for its number
unfoldable pub Ours : (ℕ → List ℕ) → List Section → Type 0
Ours sections S = (s : Section) → In s S → s.contents ≡ payload_of (sections s.number)

-- after more is fed to a table with the sections S
pub record Grown (room : ℕ → Bool) (t : Heading) (last : ℕ) (sections : ℕ → List ℕ) (S : List Section) (fed : List (List ℕ)) : Type 0 where
  pub now : List Section
  pub is : account room (table t S) fed ≡ table t now
  pub ours : Ours sections now
  pub keeps : (k : ℕ) → Present k S → Present k now
  pub gains : (k : ℕ) → k ≤ last → In (sections k) fed → Present k now

module _ (room : ℕ → Bool) (h : Heading) (sections : ℕ → List ℕ) (cut : CutInto h sections) (first : ℕ) where
  abbrev t : Heading
  t = heading_at h first

  abbrev OneOf : List ℕ → Type 0
  OneOf s = (i : Heading) (p : List ℕ) → heard s ≡ good_current i p → same_table h i ≡ true → (k : ℕ) × (k ≤ h.last) × (s ≡ sections k)

  -- if it is of a newer table it finds no room
  abbrev Behind : List ℕ → Type 0
  Behind s = (i : Heading) (p : List ℕ) → heard s ≡ good_current i p → is_newer h i ≡ true → room i.last ≡ false

  -- a byte string that is section k of the table is heard as it
  own : (s : List ℕ) (k : ℕ) → k ≤ h.last → s ≡ sections k → heard s ≡ good_current (heading_at h k) (payload_of (sections k))
  unfolding CutInto
  own s k l e = ap heard e ∙ cut k l

  pub known : (s : List ℕ) (i : Heading) (p : List ℕ) → heard s ≡ good_current i p → (k : ℕ) → k ≤ h.last → s ≡ sections k
      → (i.number ≡ k) × (p ≡ payload_of (sections k))
  known s i p e k l q = let m = heard_same s _ _ _ _ e (own s k l q) in (ap (λ (j : Heading). j.number) m.0 ∙ number_at h k, m.1)

  -- one byte string makes U of the sections S, and more is fed to them
  after : (s : List ℕ) (fed : List (List ℕ)) (S U : List Section) → account room (table t S) (s ∷ fed) ≡ account room (table t U) fed
      → ((k : ℕ) → Present k S → Present k U) → ((k : ℕ) → k ≤ h.last → sections k ≡ s → Present k U)
      → Grown room t h.last sections U fed → Grown room t h.last sections S (s ∷ fed)
  after s fed S U e keeps gains g =
      record {
        now = g.now;
        is = e ∙ g.is;
        ours = g.ours;
        keeps = λ k p. g.keeps k (keeps k p);
        gains = λ k l i. go k l (Memᴰ.cases_cons i);
      }
    where
      go : (k : ℕ) → k ≤ h.last → (sections k ≡ s) ⊎ In (sections k) fed → Present k g.now
      go k l (inl q) = g.keeps k (gains k l q)
      go k l (inr i) = g.gains k l i

  -- a stranger's section leaves the table
  stays : (s : List ℕ) → Behind s → (S : List Section) (i : Heading) (p : List ℕ) → heard s ≡ good_current i p → same_table h i ≡ false
      → account_after room (table t S) (heard s) ≡ table t S
  unfolding begins_after
  stays s behind S i p e f = rw e (go (is_newer h i) refl)
    where
      go : (b : Bool) → is_newer h i ≡ b → account_after room (table t S) (good_current i p) ≡ table t S
      go true b = counted_none room i p (behind i p e b) (table t S) (newer_first h first i ∙ b)
      go false b = counted_other room i p t S (newer_first h first i ∙ b) (same_first h first i ∙ f)

  pub grows : (fed : List (List ℕ)) → ((s : List ℕ) → In s fed → OneOf s) → ((s : List ℕ) → In s fed → Behind s)
      → (S : List Section) → Ours sections S → Grown room t h.last sections S fed
  unfolding account Ours
  grows [] one behind S o = record { now = S; is = refl; ours = o; keeps = λ k p. p; gains = λ k l i. absurd (Memᴰ.not-nil i) }
  grows (s ∷ fed) one behind S o =
      go (heard_is s) (λ U u. grows fed (λ r i. one r (In.tail i)) (λ r i. behind r (In.tail i)) U u)
    where
      go : HeardIs s → ((U : List Section) → Ours sections U → Grown room t h.last sections U fed) → Grown room t h.last sections S (s ∷ fed)
      go (hears_nothing e) next =
          after s fed S S (rw (e, counted_nothing room (table t S))) (λ k p. p) (λ k l q. silent s _ _ e (own s k l (sym q))) (next S o)
      go (hears i p e) next = by (same_table h i) refl
        where
          by : (b : Bool) → same_table h i ≡ b → Grown room t h.last sections S (s ∷ fed)
          by false f =
              after s fed S S (rw (stays s (behind s (In.head refl)) S i p e f)) (λ k p. p)
              (λ k l q. never (same_table h i) (ap (same_table h) (heard_same s _ _ _ _ e (own s k l (sym q))).0 ∙ same_own h k) f) (next S o)
          by true f =
              let x : Section = record { number = i.number; contents = p } in
              let k = one s (In.head refl) i p e f in
              let m = known s i p e k.0 k.1 k.2 in
              let c : p ≡ payload_of (sections i.number) = m.1 ∙ ap (λ (j : ℕ). payload_of (sections j)) (sym m.0) in
              after s fed S (S ++ x ∷ []) (rw (e, counted_same room i p t S (same_first h first i ∙ f)))
              (λ j p. present_front j S (x ∷ []) p) (λ j l q. present_last S x j (known s i p e j l (sym q)).0)
              (next (S ++ x ∷ []) (all_more (λ (u : Section). u.contents ≡ payload_of (sections u.number)) S x o c))
