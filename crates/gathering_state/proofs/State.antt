-- Laws of a gathering's state: what a possible one is known to be, that it stays possible and its counts right, and how places stand in the store.
use Prim.Native.Nat.{ℕ, ◌+◌, ◌-◌, ◌*◌, ◌≤◌, ◌<◌, max}
use mathlib.Core.Path.{◌≡◌, refl, sym, ◌∙◌, ap}
use mathlib.Core.Bool.{Bool, true, false, not, ◌&&◌, ◌||◌, false≢true}
use native.Mathlib.Omega.{arith}
use borrow.Author.Tests.{not-true, eq-eqb, ne_eqb, eqb-true, eqb-false, le-leb, leb-true, lt-ltb, ltb-true}
use lib.Dec.{eqb, leb, ltb}
use lib.ListN.{length, get_or, set, take, drop, replicate, length-take}
use lib.Seq.{drop-set-lt, take-set-lt, get_or-take, get_or-set_same}
use Rattle.section_reader.specs.Section.{is_kind}
use Rattle.section_reader.specs.declared.Heading.{Heading}
use Rattle.gathering_state.specs.Lists.{greatest, total, held_count, Surveyed}
use Rattle.gathering_state.specs.State.{fresh_state, is_fresh, lengths, is_begun, possible_of, nothing_begun, missing_afresh, bytes_afresh, CountsRight, place, has_room, opened, with_section, spoiled_state}
use Rattle.gathering_state.specs.declared.Gathering.{Gathering}
use Rattle.ground_choices.proofs.Tests.{both, refuted}
use Rattle.gathering_state.proofs.Lists.{greatest_at, greatest_parts, greatest_take, greatest_set, greatest_zeros, zeros_greatest, total_set, total_none, total_most, held_most, held_set, held_none, held_fewer}

-- ---- places

-- the payloads of two numbers are apart
pub place_apart : (j k : ℕ) → j < k → place j + 4084 ≤ place k
unfolding place
place_apart j k h = omega arith

-- a store with room for a table's numbers has each whole payload in it
pub place_within : (bytes last k : ℕ) → has_room bytes last ≡ true → k ≤ last → place k + 4084 ≤ bytes
unfolding place has_room
place_within bytes last k e h = let f = leb-true ((last + 1) * 4084) bytes e in omega arith

-- ---- the fresh state

pub record Fresh (g : Gathering) : Type 0 where
  pub kind : g.kind ≡ 0
  pub extension : g.extension ≡ 0
  pub version : g.version ≡ 0
  pub last : g.last ≡ 0
  pub spoiled : g.spoiled ≡ 0
  pub none : greatest g.held ≡ 0
  pub missing : g.missing ≡ 0
  pub bytes : g.bytes ≡ 0

module _ (g : Gathering) where
  pub fresh_fields : is_fresh g ≡ true → Fresh g
  unfolding is_fresh
  fresh_fields e =
      let b = both _ (eqb g.bytes 0) e in
      let m = both _ (eqb g.missing 0) b.0 in
      let h = both _ (eqb (greatest g.held) 0) m.0 in
      let s = both _ (eqb g.spoiled 0) h.0 in
      let n = both _ (eqb g.last 0) s.0 in
      let v = both _ (eqb g.version 0) n.0 in
      let x = both (eqb g.kind 0) (eqb g.extension 0) v.0 in
      record {
        kind = eqb-true _ _ x.0;
        extension = eqb-true _ _ x.1;
        version = eqb-true _ _ v.1;
        last = eqb-true _ _ n.1;
        spoiled = eqb-true _ _ s.1;
        none = eqb-true _ _ h.1;
        missing = eqb-true _ _ m.1;
        bytes = eqb-true _ _ b.1;
      }

  pub not_fresh : (Fresh g → ⊥) → false ≡ is_fresh g
  not_fresh f = refuted (is_fresh g) (λ e. f (fresh_fields e))

-- states are equal by their fields
same_state : (g f : Gathering) → g.bytes ≡ f.bytes → g.missing ≡ f.missing → g.extension ≡ f.extension → g.kind ≡ f.kind → g.version ≡ f.version
    → g.last ≡ f.last → g.spoiled ≡ f.spoiled → g.held ≡ f.held → g ≡ f
same_state g f y m a b c d e h =
    λ i. record { bytes = y i; missing = m i; extension = a i; kind = b i; version = c i; last = d i; spoiled = e i; held = h i }

-- "exactly the fresh one"
pub fresh_is : (g : Gathering) → length g.held ≡ 256 → is_fresh g ≡ true → g ≡ fresh_state
unfolding fresh_state
fresh_is g l e =
    let f = fresh_fields g e in
    same_state g fresh_state f.bytes f.missing f.extension f.kind f.version f.last f.spoiled
    (greatest_zeros g.held f.none ∙ ap (λ (n : ℕ). replicate n 0) l)

pub fresh_one : is_fresh fresh_state ≡ true
unfolding is_fresh fresh_state greatest
fresh_one = refl

-- ---- a begun state

-- the state of a table, of which perhaps nothing is held yet
pub record OfTable (g : Gathering) : Type 0 where
  pub kind : is_kind g.kind ≡ true
  pub version : g.version ≤ 31
  pub spoiled : g.spoiled ≤ 1
  pub above : greatest (drop (g.last + 1) g.held) ≡ 0
  pub short : greatest g.held ≤ 4085
  pub missing : g.missing ≡ g.last + 1 - held_count (lengths g)
  pub bytes : g.bytes ≡ total (lengths g)

pub record Begun (g : Gathering) : Type 0 where
  pub of_table : OfTable g
  pub some : 0 < greatest g.held

module _ (g : Gathering) where
  pub begun_fields : is_begun g ≡ true → Begun g
  unfolding is_begun
  begun_fields e =
      let y = both _ (eqb g.bytes (total (lengths g))) e in
      let m = both _ (eqb g.missing (g.last + 1 - held_count (lengths g))) y.0 in
      let f = both _ (leb (greatest g.held) 4085) m.0 in
      let a = both _ (eqb (greatest (drop (g.last + 1) g.held)) 0) f.0 in
      let b = both _ (ltb 0 (greatest g.held)) a.0 in
      let d = both _ (leb g.spoiled 1) b.0 in
      let k = both _ (leb g.version 31) d.0 in
      record {
        of_table =
            record {
              kind = k.0;
              version = leb-true _ _ k.1;
              spoiled = leb-true _ _ d.1;
              above = eqb-true _ _ a.1;
              short = leb-true _ _ f.1;
              missing = eqb-true _ _ m.1;
              bytes = eqb-true _ _ y.1;
            };
        some = ltb-true _ _ b.1;
      }

  pub begun_test : Begun g → true ≡ is_begun g
  unfolding is_begun
  begun_test b =
      let o = b.of_table in
      sym (simp (o.kind, le-leb _ _ o.version, le-leb _ _ o.spoiled, lt-ltb _ _ b.some, eq-eqb _ _ o.above, le-leb _ _ o.short, eq-eqb _ _ o.missing, eq-eqb _ _ o.bytes))

  pub not_begun : (Begun g → ⊥) → false ≡ is_begun g
  not_begun f = refuted (is_begun g) (λ e. f (begun_fields e))

-- the tests of a begun state, by what the pass over its lengths tells
abbrev pub begun_by : Gathering → ℕ → ℕ → ℕ → ℕ → Bool
begun_by g most held bytes above =
    is_kind g.kind && leb g.version 31 && leb g.spoiled 1 && eqb above 0 && not (eqb most 0) && leb most 4085
    && eqb (g.missing + held) (g.last + 1) && eqb g.bytes bytes

-- they decide
pub begun_seen : (g : Gathering) (most held bytes above : ℕ) → Surveyed g.held (g.last + 1) most held bytes above
    → begun_by g most held bytes above ≡ is_begun g
unfolding lengths
begun_seen g most held bytes above v = same _ _ there back
  where
    parts : greatest g.held ≡ max most above
    parts = let p = greatest_parts (g.last + 1) g.held in let m = v.most_is in let a = v.above_is in omega arith

    few : held ≤ g.last + 1
    few =
        let f = held_most (take (g.last + 1) g.held) in
        let l = length-take (g.last + 1) g.held in
        let h = v.held_is in
        omega arith

    there : begun_by g most held bytes above ≡ true → is_begun g ≡ true
    there e =
        let y = both _ (eqb g.bytes bytes) e in
        let m = both _ (eqb (g.missing + held) (g.last + 1)) y.0 in
        let f = both _ (leb most 4085) m.0 in
        let b = both _ (not (eqb most 0)) f.0 in
        let a = both _ (eqb above 0) b.0 in
        let d = both _ (leb g.spoiled 1) a.0 in
        let k = both _ (leb g.version 31) d.0 in
        let none = eqb-true _ _ a.1 in
        let some = eqb-false _ _ (not-true _ b.1) in
        let short = leb-true _ _ f.1 in
        let counted = eqb-true _ _ m.1 in
        let whole = parts in
        let low = few in
        let h = v.held_is in
        sym (begun_test g
        (record {
          of_table =
              record {
                kind = k.0;
                version = leb-true _ _ k.1;
                spoiled = leb-true _ _ d.1;
                above = sym v.above_is ∙ none;
                short = omega arith;
                missing = omega arith;
                bytes = eqb-true _ _ y.1 ∙ v.bytes_is;
              };
          some = omega arith;
        }))

    back : is_begun g ≡ true → begun_by g most held bytes above ≡ true
    back e =
        let b = begun_fields g e in
        let o = b.of_table in
        let whole = parts in
        let low = few in
        let h = v.held_is in
        let a = v.above_is in
        let some = b.some in
        let none = o.above in
        let short = o.short in
        let missing = o.missing in
        simp (o.kind, le-leb _ _ o.version, le-leb _ _ o.spoiled, eq-eqb above 0 (omega arith), ne_eqb most 0 (omega arith), le-leb most 4085 (omega arith), eq-eqb (g.missing + held) (g.last + 1) (omega arith), eq-eqb g.bytes bytes (o.bytes ∙ sym v.bytes_is))

    same : (x y : Bool) → (x ≡ true → y ≡ true) → (y ≡ true → x ≡ true) → x ≡ y
    same true y f h = sym (f refl)
    same false true f h = h refl
    same false false f h = refl

-- the tests of its other numbers, and of what the pass tells alone: the first are asked before the pass
abbrev pub of_table_by : Gathering → Bool
of_table_by g = is_kind g.kind && leb g.version 31 && leb g.spoiled 1

abbrev pub lengths_by : Gathering → ℕ → ℕ → ℕ → ℕ → Bool
lengths_by g most held bytes above =
    eqb above 0 && not (eqb most 0) && leb most 4085 && eqb (g.missing + held) (g.last + 1) && eqb g.bytes bytes

pub begun_told : (g : Gathering) (most held bytes above : ℕ) → Surveyed g.held (g.last + 1) most held bytes above → of_table_by g ≡ true
    → lengths_by g most held bytes above ≡ is_begun g
begun_told g most held bytes above v e =
    ap (λ t. t && eqb above 0 && not (eqb most 0) && leb most 4085 && eqb (g.missing + held) (g.last + 1) && eqb g.bytes bytes) (sym e)
    ∙ begun_seen g most held bytes above v

pub begun_not : (g : Gathering) → of_table_by g ≡ false → false ≡ is_begun g
unfolding is_begun
begun_not g e =
    ap (λ t. t && ltb 0 (greatest g.held) && eqb (greatest (drop (g.last + 1) g.held)) 0 && leb (greatest g.held) 4085
    && eqb g.missing (g.last + 1 - held_count (lengths g)) && eqb g.bytes (total (lengths g))) (sym e)

-- ---- possible states

zero_no_kind : (k : ℕ) → k ≡ 0 → is_kind k ≡ true → ⊥
unfolding is_kind
zero_no_kind k e f = false≢true (rw e at f)

module _ (g : Gathering) where
  pub possible_none : g.kind ≡ 0 → possible_of g ≡ is_fresh g
  unfolding possible_of
  possible_none k = rw (← not_begun g (λ b. zero_no_kind g.kind k b.of_table.kind)) (or_false (is_fresh g))
    where
      or_false : (b : Bool) → b || false ≡ b
      or_false true = refl
      or_false false = refl

  pub possible_some : (g.kind ≡ 0 → ⊥) → possible_of g ≡ is_begun g
  unfolding possible_of
  possible_some k = rw (← not_fresh g (λ f. k f.kind))

  pub possible_fresh : possible_of g ≡ true → nothing_begun g ≡ true → Fresh g
  unfolding nothing_begun
  possible_fresh p k = fresh_fields g (sym (possible_none (eqb-true _ _ k)) ∙ p)

  pub possible_begun : possible_of g ≡ true → nothing_begun g ≡ false → Begun g
  unfolding nothing_begun
  possible_begun p k = begun_fields g (sym (possible_some (eqb-false _ _ k)) ∙ p)

  pub possible_short : possible_of g ≡ true → greatest g.held ≤ 4085
  possible_short p = go (nothing_begun g) refl
    where
      go : (b : Bool) → nothing_begun g ≡ b → greatest g.held ≤ 4085
      go true k = let f = possible_fresh p k in omega arith
      go false k = (possible_begun p k).of_table.short

  pub begun_kind : Begun g → g.kind ≡ 0 → ⊥
  begun_kind b e = zero_no_kind g.kind e b.of_table.kind

  pub begun_some : Begun g → nothing_begun g ≡ false
  unfolding nothing_begun
  begun_some b = ne_eqb g.kind 0 (begun_kind b)

  pub begun_possible : Begun g → possible_of g ≡ true
  begun_possible b = possible_some (begun_kind b) ∙ sym (begun_test g b)

pub fresh_possible : possible_of fresh_state ≡ true
unfolding fresh_state
fresh_possible = possible_none fresh_state refl ∙ fresh_one

-- ---- the kept numbers

-- in every possible state they are right
pub counts_right : (g : Gathering) → possible_of g ≡ true → CountsRight g
unfolding missing_afresh bytes_afresh lengths
counts_right g p = go (nothing_begun g) refl
  where
    go : (b : Bool) → nothing_begun g ≡ b → CountsRight g
    go true k =
        let f = possible_fresh g p k in
        let low = greatest_take (g.last + 1) g.held in
        let n = f.none in
        let t = total_none (take (g.last + 1) g.held) (omega arith) in
        record { missing = rw k f.missing; bytes = f.bytes ∙ sym t }
    go false k = let o = (possible_begun g p k).of_table in record { missing = rw k o.missing; bytes = o.bytes }

-- a table's first section leaves as many missing as its last number says, and its own bytes are held
pub first_counts : (h : Heading) (n : ℕ) → let g = with_section (opened h) h.number n in (g.missing ≡ h.last) × (g.bytes ≡ n)
unfolding with_section opened
first_counts h n = (omega arith, omega arith)

-- ---- a possible state stays possible

-- a table is opened with nothing held
pub opened_table : (h : Heading) → is_kind h.kind ≡ true → h.version ≤ 31 → OfTable (opened h)
unfolding opened lengths
opened_table h kind version =
    let none = replicate {A = ℕ} 256 0 in
    let z = zeros_greatest 256 in
    let parts = greatest_parts (h.last + 1) none in
    let t = total_none (take (h.last + 1) none) (omega arith) in
    let c = held_none (take (h.last + 1) none) (omega arith) in
    record { kind = kind; version = version; spoiled = omega arith; above = omega arith; short = omega arith; missing = omega arith; bytes = sym t }

-- a number of the table that is not held
module _ (g : Gathering) (k : ℕ) (o : OfTable g) (long : length g.held ≡ 256) (low : k ≤ 255) (within : k ≤ g.last) (new : get_or g.held k 0 ≡ 0) where
  listed : k < length (take (g.last + 1) g.held)
  listed = let l = length-take (g.last + 1) g.held in omega arith

  unheld : get_or (take (g.last + 1) g.held) k 0 ≡ 0
  unheld = get_or-take (g.last + 1) g.held k 0 (omega arith) ∙ new

  -- it is among the missing, and there is room to count its bytes
  pub unheld_counts : (1 ≤ g.missing) × (g.bytes ≤ 1045504)
  unfolding lengths
  unheld_counts =
      let f = held_fewer (take (g.last + 1) g.held) k listed unheld in
      let l = length-take (g.last + 1) g.held in
      let m = greatest_take (g.last + 1) g.held in
      let short = o.short in
      let t = total_most (take (g.last + 1) g.held) (omega arith) in
      let e = o.missing in
      let y = o.bytes in
      (omega arith, omega arith)

  -- and once it is taken, the state is begun
  pub section_begun : (n : ℕ) → n ≤ 4084 → Begun (with_section g k n)
  unfolding with_section lengths
  section_begun n most =
      let at = get_or-set_same g.held k (n + 1) 0 (omega arith) in
      let some = greatest_at (set g.held k (n + 1)) k in
      let first = take-set-lt (g.last + 1) g.held k (n + 1) (omega arith) in
      let c = held_set (take (g.last + 1) g.held) k n listed unheld in
      let t = total_set (take (g.last + 1) g.held) k n listed unheld in
      let e = o.missing in
      let y = o.bytes in
      record {
        of_table =
            record {
              kind = o.kind;
              version = o.version;
              spoiled = o.spoiled;
              above = rw (drop-set-lt (g.last + 1) g.held k (n + 1) (omega arith)) o.above;
              short = greatest_set g.held k (n + 1) 4085 o.short (omega arith);
              missing = rw first (omega arith);
              bytes = rw first (omega arith);
            };
        some = omega arith;
      }

-- a contradiction changes the mark alone
pub spoiled_begun : (g : Gathering) → Begun g → Begun (spoiled_state g)
unfolding spoiled_state lengths
spoiled_begun g b =
    let o = b.of_table in
    record {
      of_table =
          record { kind = o.kind; version = o.version; spoiled = omega arith; above = o.above; short = o.short; missing = o.missing; bytes = o.bytes };
      some = b.some;
    }
