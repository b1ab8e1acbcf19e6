-- Whether all of a table is there: what a box finds is told by the account that it stands for, and a whole table's joined payloads are its body.
use Prim.Native.Nat.{ℕ, zero, suc, ◌+◌, ◌-◌, ◌≤◌, ◌<◌}
use Rattle.std.specs.Prelude.{Ok, Err}
use mathlib.Core.Path.{◌≡◌, refl, sym, ◌∙◌, ap}
use mathlib.Core.Bool.{Bool, true, false}
use mathlib.Core.List.{List, [], ◌∷◌}
use native.Mathlib.Omega.{arith}
use borrow.Author.Tests.{ltb-true, ltb-false, ne_eqb}
use lib.Dec.{ltb}
use lib.ListN.{length, get_or, length-take}
use lib.Seq.{get_or-take}
use Rattle.ground_refusal.specs.declared.Refusal.TheVariants.{Contradiction, Missing}
use Rattle.section_reader.specs.declared.Heading.{Heading}
use Rattle.gathering_state.specs.Lists.{smallest_missing, part}
use Rattle.gathering_state.specs.State.{place, has_room, lengths, held_payload}
use Rattle.gathering_state.specs.declared.Gathering.{Gathering}
use Rattle.gathering_state.proofs.Lists.{missing_before}
use Rattle.gathering_state.proofs.State.{begun_possible, begun_some, fresh_possible}
use Rattle.gathering_hand_out.specs.Handing.{body_held as joined_body, complete_of}
use Rattle.gathering_hand_out.proofs.Handing.{missing_some, Whole, complete_fresh, complete_spoiled, complete_calm, whole_complete}
use Rattle.gathering_account.specs.Account.{Section, Account, idle, table, Agree, Present, Covered, Complete, contents_of, in_order, body_of}
use Rattle.gathering_account.specs.Gathers.{Box, SmallestMissing}
use Rattle.gathering_account.proofs.Keeping.{Kept, kept_agree}
use Rattle.gathering_account.proofs.Standing.{Fixed, Stands, fresh_stands, calm_stands, spoiled_stands, fresh_none}
use Rattle.gathering_account.proofs.Joining.{contents_are, joined_order}

pub data Finds (g : Gathering) (store : List ℕ) : Account → Type 0 where
  finds_nothing : complete_of g (length store) ≡ Err (Missing 0) → Finds g store idle
  finds_differing : {t : Heading} {S : List Section} → (Agree S → ⊥) → complete_of g (length store) ≡ Err Contradiction → Finds g store (table t S)
  finds_missing : {t : Heading} {S : List Section} (k : ℕ) → Agree S → SmallestMissing k t.last S
      → complete_of g (length store) ≡ Err (Missing k) → Finds g store (table t S)
  finds_whole : {t : Heading} {S : List Section} → Complete (table t S) → complete_of g (length store) ≡ Ok tt
      → joined_body g store ≡ body_of (table t S) → Finds g store (table t S)

-- the smallest missing number is missing
missing_here : (s : List ℕ) → smallest_missing s < length s → get_or s (smallest_missing s) 0 ≡ 0
unfolding smallest_missing
missing_here [] h = absurd (omega arith)
missing_here (zero ∷ ns) h = refl
missing_here (suc n ∷ ns) h =
    let e = ne_eqb (suc n) 0 (λ z. omega arith) in
    rw e (missing_here ns (let l = rw e at h in omega arith))

-- ---- a table's box that is not spoiled

module _ (g : Gathering) (store : List ℕ) (t : Heading) (S : List Section) (x : Fixed g (length store) t) (calm : g.spoiled ≡ 0) (kept : Kept g store S) where
  roomy : has_room (length store) g.last ≡ true
  roomy = rw x.same.last x.roomy

  long : length (lengths g) ≡ t.last + 1
  unfolding lengths
  long = let a = x.long in let b = x.same.last in let c = x.last_high in simp length-take (omega arith)

  at : (k : ℕ) → k < length (lengths g) → get_or (lengths g) k 0 ≡ get_or g.held k 0
  unfolding lengths
  at k l = let a = long in let b = x.same.last in get_or-take (g.last + 1) g.held k 0 (omega arith)

  -- every number below the smallest missing one is present
  present : (k : ℕ) → k < length (lengths g) → k < smallest_missing (lengths g) → Present k S
  present k l m = kept.only k (λ e. missing_before (lengths g) k m (at k l ∙ e))

  absent : (k : ℕ) → k < length (lengths g) → get_or (lengths g) k 0 ≡ 0 → Present k S → ⊥
  unfolding Present
  absent k l e s = kept.held s.0 s.1 (ap (λ (j : ℕ). get_or g.held j 0) s.2 ∙ sym (at k l) ∙ e)

  covered : length (lengths g) ≤ smallest_missing (lengths g) → Covered t.last S
  unfolding Covered
  covered m k l = let a = long in present k (omega arith) (omega arith)

  -- the joined payloads
  payload_is : (k : ℕ) → k < length (lengths g) → Present k S → part store (place k) (get_or (lengths g) k 0 - 1) ≡ contents_of k S
  unfolding held_payload
  payload_is k l s =
      rw (at k l) (sym (contents_are k (held_payload g store k) S (λ s i e. sym (kept.stored s i) ∙ ap (held_payload g store) e) s))

  body_is : Covered t.last S → joined_body g store ≡ body_of (table t S)
  unfolding joined_body body_of Covered
  body_is c =
      let a = long in
      joined_order place store S (lengths g) (λ k l. payload_is k l (c k (omega arith))) ∙ ap (λ (n : ℕ). in_order n S) long

  whole : length (lengths g) ≤ smallest_missing (lengths g) → Whole g (length store)
  whole m = record { possible = begun_possible g x.begun; begun = begun_some g x.begun; roomy = roomy; calm = calm; full = m }

  calm_finds : (b : Bool) → ltb (smallest_missing (lengths g)) (length (lengths g)) ≡ b → Finds g store (table t S)
  unfolding Complete
  calm_finds true e =
      let a = long in
      let k = smallest_missing (lengths g) in
      let l = ltb-true (smallest_missing (lengths g)) (length (lengths g)) e in
      let s : SmallestMissing k t.last S = record {
        of_table = omega arith;
        missing = absent k l (missing_here (lengths g) l);
        smallest = λ j i. present j (omega arith) i;
      } in
      finds_missing k (kept_agree kept) s
      (complete_calm g (length store) (begun_possible g x.begun) (begun_some g x.begun) roomy calm ∙ sym (missing_some (lengths g) k refl l))
  calm_finds false e =
      let m = ltb-false (smallest_missing (lengths g)) (length (lengths g)) e in
      let c = covered m in
      finds_whole (c, kept_agree kept) (whole_complete g (length store) (whole m)) (body_is c)

-- ---- any box

pub finds : (bytes : ℕ) (box : Box) {a : Account} → Stands bytes box a → Finds box.state box.store a
finds bytes box (fresh_stands z l) = finds_nothing (complete_fresh box.state (length box.store) (rw z fresh_possible) (rw z fresh_none))
finds bytes box (calm_stands {t} {S} x l z k) =
    calm_finds box.state box.store t S (rw l x) z k (ltb (smallest_missing (lengths box.state)) (length (lengths box.state))) refl
finds bytes box (spoiled_stands {t} {S} x l z k o) =
    let b = x.begun in
    finds_differing k
    (complete_spoiled box.state (length box.store) (begun_possible box.state b) (begun_some box.state b) (rw (x.same.last, l) x.roomy) z)
