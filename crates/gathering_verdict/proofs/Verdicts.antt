-- Laws of the verdict: what leads to each, and what is known where it is given.
use Prim.Native.Nat.{ℕ, ◌+◌, ◌-◌, ◌≤◌}
use Rattle.std.specs.Prelude.{Result, Ok, Err}
use mathlib.Core.Path.{◌≡◌, refl, sym, ◌∙◌}
use mathlib.Core.Bool.{Bool, true, false, not, ◌||◌, false≢true}
use mathlib.Core.List.{List}
use native.Mathlib.Omega.{arith}
use borrow.Author.Tests.{eq-eqb, ne_eqb, eqb-true, eqb-false}
use lib.Dec.{eqb}
use lib.ListN.{length, get_or, take, drop}
use Rattle.ground_refusal.specs.declared.Refusal.{Refusal}
use Rattle.ground_refusal.specs.declared.Refusal.TheVariants.{NotCurrent, OtherHeading, StoreTooShort, Contradiction, ImpossibleState}
use Rattle.ground_equal.specs.Same.{same_bytes}
use Rattle.ground_equal.proofs.Same.{same_refl, same_is}
use Rattle.section_reader.specs.Section.{heading_of, payload_of, read_section}
use Rattle.section_reader.specs.declared.Heading.{Heading}
use Rattle.section_reader.proofs.Accepting.{accepted, accepted_length, accepted_short}
use Rattle.gathering_state.specs.State.{possible_of, nothing_begun, has_room, held_payload}
use Rattle.gathering_state.specs.declared.Gathering.{Gathering}
use Rattle.gathering_state.proofs.State.{Begun, possible_begun}
use Rattle.gathering_tables.specs.Tables.{is_newer}
use Rattle.gathering_tables.proofs.Tables.{SameTable, same_fields}
use Rattle.gathering_verdict.specs.Deciding.{fixed_heading, agrees, begins, number_verdict, good_verdict, section_verdict, verdict_of}
use Rattle.gathering_verdict.specs.declared.Verdict.{Verdict}
use Rattle.gathering_verdict.specs.declared.Verdict.TheVariants.{Repeat, Contradict, Begin, Take}

-- ---- the heading

-- the section has the gathering's heading
abbrev pub SameHeading : Gathering → Heading → Type 0
SameHeading g h = SameTable (fixed_heading g) h

module _ (g : Gathering) (h : Heading) where
  pub agrees_is : agrees g h ≡ true → SameHeading g h
  unfolding agrees
  agrees_is e = same_fields (fixed_heading g) h e

  -- nothing begun: every section begins
  pub begins_none : g.kind ≡ 0 → true ≡ begins g h
  unfolding begins nothing_begun
  begins_none k = simp (eq-eqb _ _ k)

  -- else a newer table's section
  pub begins_newer : (g.kind ≡ 0 → ⊥) → begins g h ≡ is_newer (fixed_heading g) h
  unfolding begins nothing_begun
  begins_newer k = rw (ne_eqb g.kind 0 k)

  -- what does not begin finds a table begun
  pub further_begun : begins g h ≡ false → nothing_begun g ≡ false
  unfolding begins
  further_begun e = go (nothing_begun g) refl
    where
      go : (b : Bool) → nothing_begun g ≡ b → b ≡ false
      go true k = absurd (false≢true (sym e ∙ rw k))
      go false k = refl

-- ---- what leads to each verdict

-- a good section of the gathering's table that none of 8 to 11 stops
pub record Heard (g : Gathering) (store : List ℕ) (h : Heading) : Type 0 where
  pub current : h.current ≡ true
  pub further : begins g h ≡ false
  pub agreed : agrees g h ≡ true
  pub roomy : has_room (length store) h.last ≡ true
  pub calm : g.spoiled ≡ 0

-- a good section that none of 8 to 10 stops, by the tests
pub record Past (g : Gathering) (store : List ℕ) (h : Heading) : Type 0 where
  pub current : not h.current ≡ false
  pub known : not (begins g h || agrees g h) ≡ false
  pub roomy : not (has_room (length store) h.last) ≡ false

module _ (g : Gathering) (store : List ℕ) (h : Heading) (payload : List ℕ) where
  pub number_new : get_or g.held h.number 0 ≡ 0 → number_verdict g store h payload ≡ Ok (Take h)
  unfolding number_verdict
  number_new e = rw (eq-eqb _ _ e)

  module _ (e : get_or g.held h.number 0 ≡ 0 → ⊥) where
    pub number_same : same_bytes (held_payload g store h.number) payload ≡ true → number_verdict g store h payload ≡ Ok Repeat
    unfolding number_verdict
    number_same t = rw (ne_eqb _ _ e, t)

    pub number_other : same_bytes (held_payload g store h.number) payload ≡ false → number_verdict g store h payload ≡ Ok Contradict
    unfolding number_verdict
    number_other t = rw (ne_eqb _ _ e, t)

  -- by the tests, in their order
  pub good_old : not h.current ≡ true → good_verdict g store h payload ≡ Err NotCurrent
  unfolding good_verdict
  good_old c = rw c

  module _ (c : not h.current ≡ false) where
    pub good_other : not (begins g h || agrees g h) ≡ true → good_verdict g store h payload ≡ Err OtherHeading
    unfolding good_verdict
    good_other a = rw (c, a)

    pub good_short : not (begins g h || agrees g h) ≡ false → not (has_room (length store) h.last) ≡ true
        → good_verdict g store h payload ≡ Err StoreTooShort
    unfolding good_verdict
    good_short a r = rw (c, a, r)

  module _ (p : Past g store h) where
    pub good_begins : begins g h ≡ true → good_verdict g store h payload ≡ Ok (Begin h)
    unfolding good_verdict
    good_begins b = rw (p.current, p.known, p.roomy, b)

    module _ (b : begins g h ≡ false) where
      pub good_spoiled : (g.spoiled ≡ 0 → ⊥) → good_verdict g store h payload ≡ Err Contradiction
      unfolding good_verdict
      good_spoiled s = rw (p.current, p.known, p.roomy, b, ne_eqb _ _ s)

      pub good_further : g.spoiled ≡ 0 → good_verdict g store h payload ≡ number_verdict g store h payload
      unfolding good_verdict
      good_further s = rw (p.current, p.known, p.roomy, b, eq-eqb _ _ s)

module _ (g : Gathering) (store s : List ℕ) where
  pub verdict_impossible : possible_of g ≡ false → verdict_of g store s ≡ Err ImpossibleState
  unfolding verdict_of
  verdict_impossible p = rw p

  module _ (p : possible_of g ≡ true) where
    pub verdict_bad : (r : Refusal) → read_section s ≡ Err r → verdict_of g store s ≡ Err r
    unfolding verdict_of section_verdict
    verdict_bad r e = rw (p, e)

    pub verdict_good : (h : Heading) (n : ℕ) → read_section s ≡ Ok (h, n) → verdict_of g store s ≡ good_verdict g store h (payload_of s)
    unfolding verdict_of section_verdict
    verdict_good h n e = rw (p, e)

-- what feeding has to know of a good section
pub record Sized (s : List ℕ) (h : Heading) (n : ℕ) : Type 0 where
  pub long : length s ≡ n + 12
  pub short : n ≤ 4084
  pub numbered : h.number ≤ h.last
  pub versioned : h.version ≤ 31

pub sized : (s : List ℕ) (h : Heading) (n : ℕ) → read_section s ≡ Ok (h, n) → Sized s h n
unfolding heading_of
sized s h n e =
    let a = accepted s h n e in
    record { long = accepted_length s h n a; short = accepted_short s h n a; numbered = rw a.heading a.ordered; versioned = rw a.heading (omega arith) }

-- the part of it that is handed on is its payload
pub payload_part : (s : List ℕ) (h : Heading) (n : ℕ) → Sized s h n → take (8 + n - 8) (drop 8 s) ≡ payload_of s
unfolding payload_of
payload_part s h n q = let l = q.long in let e : 8 + n - 8 ≡ length s - 12 = omega arith in rw e

-- ---- what is known where a verdict is given

-- the ways out for a good section
pub data Decided (g : Gathering) (store : List ℕ) (h : Heading) (payload : List ℕ) : Result Verdict Refusal → Type 0 where
  old : h.current ≡ false → Decided g store h payload (Err NotCurrent)
  other : h.current ≡ true → begins g h ≡ false → agrees g h ≡ false → Decided g store h payload (Err OtherHeading)
  short : h.current ≡ true → begins g h || agrees g h ≡ true → has_room (length store) h.last ≡ false → Decided g store h payload (Err StoreTooShort)
  begun : h.current ≡ true → begins g h ≡ true → has_room (length store) h.last ≡ true → Decided g store h payload (Ok (Begin h))
  spoiled : h.current ≡ true → begins g h ≡ false → agrees g h ≡ true → has_room (length store) h.last ≡ true → (g.spoiled ≡ 0 → ⊥)
      → Decided g store h payload (Err Contradiction)
  new : Heard g store h → get_or g.held h.number 0 ≡ 0 → Decided g store h payload (Ok (Take h))
  again : Heard g store h → (get_or g.held h.number 0 ≡ 0 → ⊥) → held_payload g store h.number ≡ payload → Decided g store h payload (Ok Repeat)
  clash : Heard g store h → (get_or g.held h.number 0 ≡ 0 → ⊥) → (held_payload g store h.number ≡ payload → ⊥) → Decided g store h payload (Ok Contradict)

module _ (g : Gathering) (store : List ℕ) (h : Heading) (payload : List ℕ) where
  decided_number : Heard g store h → (n : Bool) → eqb (get_or g.held h.number 0) 0 ≡ n → (b : Bool) → same_bytes (held_payload g store h.number) payload ≡ b
      → Decided g store h payload (number_verdict g store h payload)
  decided_number d true e b f = let z = eqb-true _ _ e in rw (number_new g store h payload z) (new d z)
  decided_number d false e true f = let z = eqb-false _ _ e in rw (number_same g store h payload z f) (again d z (same_is _ _ f))
  decided_number d false e false f = let z = eqb-false _ _ e in rw (number_other g store h payload z f) (clash d z (λ q. false≢true (sym f ∙ rw q (same_refl payload))))

  decided_by : (c : Bool) → h.current ≡ c → (b : Bool) → begins g h ≡ b → (a : Bool) → agrees g h ≡ a → (r : Bool) → has_room (length store) h.last ≡ r
      → (s : Bool) → eqb g.spoiled 0 ≡ s → Decided g store h payload (good_verdict g store h payload)
  decided_by false c b o a p r q s x = rw (good_old g store h payload (rw c)) (old c)
  decided_by true c false o false p r q s x = rw (good_other g store h payload (rw c) (rw (o, p))) (other c o p)
  decided_by true c true o a p false q s x = rw (good_short g store h payload (rw c) (rw o) (rw q)) (short c (rw o) q)
  decided_by true c true o a p true q s x =
      rw (good_begins g store h payload (record { current = rw c; known = rw o; roomy = rw q }) o) (begun c o q)
  decided_by true c false o true p false q s x = rw (good_short g store h payload (rw c) (rw (o, p)) (rw q)) (short c (rw (o, p)) q)
  decided_by true c false o true p true q false x =
      let z = eqb-false _ _ x in
      rw (good_spoiled g store h payload (record { current = rw c; known = rw (o, p); roomy = rw q }) o z) (spoiled c o p q z)
  decided_by true c false o true p true q true x =
      let z = eqb-true _ _ x in
      let d : Heard g store h = record { current = c; further = o; agreed = p; roomy = q; calm = z } in
      rw (good_further g store h payload (record { current = rw c; known = rw (o, p); roomy = rw q }) o z)
      (decided_number d (eqb (get_or g.held h.number 0) 0) refl (same_bytes (held_payload g store h.number) payload) refl)

  pub decided : Decided g store h payload (good_verdict g store h payload)
  decided =
      decided_by h.current refl (begins g h) refl (agrees g h) refl (has_room (length store) h.last) refl (eqb g.spoiled 0) refl

-- a verdict by which a section with the heading h is taken, as the first of its table or as a further one
pub data TakenBy (h : Heading) (v : Result Verdict Refusal) : Type 0 where
  as_first : v ≡ Ok (Begin h) → TakenBy h v
  as_further : v ≡ Ok (Take h) → TakenBy h v

-- a further section of the gathering's table: its number is one of the table's, and not held
pub record Further (g : Gathering) (h : Heading) : Type 0 where
  pub begun : Begun g
  pub within : h.number ≤ g.last
  pub new : get_or g.held h.number 0 ≡ 0

-- what is known of a section that is taken: the store has room for its table
pub record TakeIs (g : Gathering) (store s : List ℕ) (h : Heading) (v : Result Verdict Refusal) : Type 0 where
  pub length_of : ℕ
  pub reads : read_section s ≡ Ok (h, length_of)
  pub roomy : has_room (length store) h.last ≡ true
  pub further : v ≡ Ok (Take h) → Further g h

module _ (g : Gathering) (store s : List ℕ) (h : Heading) where
  not_refused : {A : Type 0} (r : Refusal) → TakenBy h (Err r) → A
  not_refused r (as_first e) = let z : ◌≡◌ {A = ℕ} 0 1 = cc in absurd (omega arith)
  not_refused r (as_further e) = let z : ◌≡◌ {A = ℕ} 0 1 = cc in absurd (omega arith)

  module _ (p : possible_of g ≡ true) where
    heard_further : (i : Heading) (n : ℕ) → read_section s ≡ Ok (i, n) → Heard g store i → get_or g.held i.number 0 ≡ 0 → Further g i
    heard_further i n r d z =
        let q = sized s i n r in
        let a = agrees_is g i d.agreed in
        let last = a.last in
        record { begun = possible_begun g p (further_begun g i d.further); within = omega arith; new = z }

    take_good : (i : Heading) (n : ℕ) → read_section s ≡ Ok (i, n) → {v : Result Verdict Refusal} → Decided g store i (payload_of s) v → TakenBy h v → TakeIs g store s h v
    take_good i n r (begun c b q) (as_first e) =
        let same : i ≡ h = cc in
        rw (← same) (record { length_of = n; reads = r; roomy = q; further = λ t. let z : ◌≡◌ {A = ℕ} 0 1 = cc in absurd (omega arith) })
    take_good i n r (new d z) (as_further e) =
        let same : i ≡ h = cc in
        rw (← same) (record { length_of = n; reads = r; roomy = d.roomy; further = λ t. heard_further i n r d z })
    take_good i n r (begun c b q) (as_further e) = let z : ◌≡◌ {A = ℕ} 0 1 = cc in absurd (omega arith)
    take_good i n r (new d z) (as_first e) = let z : ◌≡◌ {A = ℕ} 0 1 = cc in absurd (omega arith)
    take_good i n r (old c) t = not_refused NotCurrent t
    take_good i n r (other c b a) t = not_refused OtherHeading t
    take_good i n r (short c b q) t = not_refused StoreTooShort t
    take_good i n r (spoiled c b a q z) t = not_refused Contradiction t
    take_good i n r (again d z q) (as_first e) = let z : ◌≡◌ {A = ℕ} 0 1 = cc in absurd (omega arith)
    take_good i n r (again d z q) (as_further e) = let z : ◌≡◌ {A = ℕ} 0 1 = cc in absurd (omega arith)
    take_good i n r (clash d z q) (as_first e) = let z : ◌≡◌ {A = ℕ} 0 1 = cc in absurd (omega arith)
    take_good i n r (clash d z q) (as_further e) = let z : ◌≡◌ {A = ℕ} 0 1 = cc in absurd (omega arith)

    take_read : (a : Result (Heading × ℕ) Refusal) → read_section s ≡ a → TakenBy h (verdict_of g store s) → TakeIs g store s h (verdict_of g store s)
    take_read (Err r) f t = not_refused r (rw (verdict_bad g store s p r f) at t)
    take_read (Ok (i, n)) f t =
        rw (verdict_good g store s p i n f) (take_good i n f (decided g store i (payload_of s)) (rw (verdict_good g store s p i n f) at t))

  pub take_is : TakenBy h (verdict_of g store s) → TakeIs g store s h (verdict_of g store s)
  take_is t = go (possible_of g) refl
    where
      go : (b : Bool) → possible_of g ≡ b → TakeIs g store s h (verdict_of g store s)
      go true p = take_read p (read_section s) refl t
      go false p = not_refused ImpossibleState (rw (verdict_impossible g store s p) at t)
