-- The ways that a verdict can go, and what is known of a section that is taken or that contradicts.
use Prim.Native.Nat.{ℕ}
use Rattle.std.specs.Prelude.{Result, Ok, Err}
use mathlib.Core.Path.{◌≡◌, refl, sym, ◌∙◌}
use mathlib.Core.Bool.{Bool, true, false}
use mathlib.Core.List.{List}
use native.Mathlib.Omega.{arith}
use borrow.Author.Tests.{eqb-true, eqb-false}
use lib.Dec.{eqb}
use lib.ListN.{get_or}
use Rattle.ground_refusal.specs.declared.Refusal.{Refusal}
use Rattle.ground_refusal.specs.declared.Refusal.TheVariants.{NotCurrent, OtherHeading, Contradiction}
use Rattle.ground_equal.specs.Same.{same_bytes}
use Rattle.section_reader.specs.Section.{payload_of, read_section}
use Rattle.section_reader.specs.declared.Heading.{Heading}
use Rattle.gathering_state.specs.State.{possible_of}
use Rattle.gathering_state.proofs.State.{Begun, possible_begun}
use Rattle.gathering_verdict.specs.Deciding.{agrees, begins}
use Rattle.gathering_verdict.specs.declared.Verdict.{Verdict}
use Rattle.gathering_verdict.specs.declared.Verdict.TheVariants.{Repeat, Contradict, Begin, Take}
use Rattle.gathering_verdict.proofs.Verdicts.{agrees_is, further_begun, Further, sized, TakenBy, as_first, as_further}
use Rattle.rooms_state.specs.State.{room_payload}
use Rattle.rooms_state.specs.declared.Part.{Part}
use Rattle.rooms_verdict.specs.Deciding.{number_verdict, good_verdict, verdict_of}
use Rattle.rooms_verdict.proofs.Verdicts.{number_new, number_same, number_other, good_old, good_other, good_begins, good_spoiled, good_further}
use Rattle.rooms_verdict.proofs.Verdicts.{verdict_bad, verdict_good}

-- a good section of the gathering's table that none of 8 to 11 stops
pub record Heard (p : Part) (h : Heading) : Type 0 where
  pub further : begins p.gathering h ≡ false
  pub agreed : agrees p.gathering h ≡ true

-- the ways out for a good section
pub data Decided (p : Part) (h : Heading) : Result Verdict Refusal → Type 0 where
  stopped : (r : Refusal) → Decided p h (Err r)
  begun : Decided p h (Ok (Begin h))
  new : Heard p h → get_or p.gathering.held h.number 0 ≡ 0 → Decided p h (Ok (Take h))
  again : Decided p h (Ok Repeat)
  clash : Heard p h → Decided p h (Ok Contradict)

module _ (p : Part) (store : List ℕ) (h : Heading) (payload : List ℕ) where
  decided_number : Heard p h → (n : Bool) → eqb (get_or p.gathering.held h.number 0) 0 ≡ n
      → (b : Bool) → same_bytes (room_payload p store h.number) payload ≡ b → Decided p h (number_verdict p store h payload)
  decided_number d true e b f = let z = eqb-true _ _ e in rw (number_new p store h payload z) (new d z)
  decided_number d false e true f = rw (number_same p store h payload (eqb-false _ _ e) f) again
  decided_number d false e false f = rw (number_other p store h payload (eqb-false _ _ e) f) (clash d)

  decided_by : (c : Bool) → h.current ≡ c → (b : Bool) → begins p.gathering h ≡ b → (a : Bool) → agrees p.gathering h ≡ a
      → (s : Bool) → eqb p.gathering.spoiled 0 ≡ s → Decided p h (good_verdict p store h payload)
  decided_by false c b o a q s x = rw (good_old p store h payload (rw c)) (stopped NotCurrent)
  decided_by true c false o false q s x = rw (good_other p store h payload (rw c) (rw (o, q))) (stopped OtherHeading)
  decided_by true c true o a q s x = rw (good_begins p store h payload (rw c) (rw o) o) begun
  decided_by true c false o true q false x = rw (good_spoiled p store h payload (rw c) (rw (o, q)) o (eqb-false _ _ x)) (stopped Contradiction)
  decided_by true c false o true q true x =
      rw (good_further p store h payload (rw c) (rw (o, q)) o (eqb-true _ _ x))
      (decided_number (record { further = o; agreed = q }) (eqb (get_or p.gathering.held h.number 0) 0) refl
      (same_bytes (room_payload p store h.number) payload) refl)

  decided : Decided p h (good_verdict p store h payload)
  decided = decided_by h.current refl (begins p.gathering h) refl (agrees p.gathering h) refl (eqb p.gathering.spoiled 0) refl

-- what is known of a section that is taken
pub record TakeIs (p : Part) (s : List ℕ) (h : Heading) (v : Result Verdict Refusal) : Type 0 where
  pub length_of : ℕ
  pub reads : read_section s ≡ Ok (h, length_of)
  pub further : v ≡ Ok (Take h) → Further p.gathering h

module _ (p : Part) (store s : List ℕ) (ok : possible_of p.gathering ≡ true) where
  heard_begun : (i : Heading) → Heard p i → Begun p.gathering
  heard_begun i d = possible_begun p.gathering ok (further_begun p.gathering i d.further)

  module _ (h : Heading) where
    not_refused : {A : Type 0} (r : Refusal) → TakenBy h (Err r) → A
    not_refused r (as_first e) = let z : ◌≡◌ {A = ℕ} 0 1 = cc in absurd (omega arith)
    not_refused r (as_further e) = let z : ◌≡◌ {A = ℕ} 0 1 = cc in absurd (omega arith)

    heard_further : (i : Heading) (n : ℕ) → read_section s ≡ Ok (i, n) → Heard p i → get_or p.gathering.held i.number 0 ≡ 0 → Further p.gathering i
    heard_further i n r d z =
        let q = sized s i n r in
        let a = agrees_is p.gathering i d.agreed in
        let last = a.last in
        record { begun = heard_begun i d; within = omega arith; new = z }

    take_good : (i : Heading) (n : ℕ) → read_section s ≡ Ok (i, n) → {v : Result Verdict Refusal} → Decided p i v → TakenBy h v → TakeIs p s h v
    take_good i n r begun (as_first e) =
        let same : i ≡ h = cc in
        rw (← same) (record { length_of = n; reads = r; further = λ t. let z : ◌≡◌ {A = ℕ} 0 1 = cc in absurd (omega arith) })
    take_good i n r (new d z) (as_further e) =
        let same : i ≡ h = cc in
        rw (← same) (record { length_of = n; reads = r; further = λ t. heard_further i n r d z })
    take_good i n r begun (as_further e) = let z : ◌≡◌ {A = ℕ} 0 1 = cc in absurd (omega arith)
    take_good i n r (new d z) (as_first e) = let z : ◌≡◌ {A = ℕ} 0 1 = cc in absurd (omega arith)
    take_good i n r (stopped f) t = not_refused f t
    take_good i n r again (as_first e) = let z : ◌≡◌ {A = ℕ} 0 1 = cc in absurd (omega arith)
    take_good i n r again (as_further e) = let z : ◌≡◌ {A = ℕ} 0 1 = cc in absurd (omega arith)
    take_good i n r (clash d) (as_first e) = let z : ◌≡◌ {A = ℕ} 0 1 = cc in absurd (omega arith)
    take_good i n r (clash d) (as_further e) = let z : ◌≡◌ {A = ℕ} 0 1 = cc in absurd (omega arith)

    pub take_is : TakenBy h (verdict_of p store s) → TakeIs p s h (verdict_of p store s)
    take_is t = go (read_section s) refl
      where
        go : (a : Result (Heading × ℕ) Refusal) → read_section s ≡ a → TakeIs p s h (verdict_of p store s)
        go (Err r) f = not_refused r (rw (verdict_bad p store s r f) at t)
        go (Ok (i, n)) f = rw (verdict_good p store s i n f) (take_good i n f (decided p store i (payload_of s)) (rw (verdict_good p store s i n f) at t))

  -- only a section of a begun table contradicts
  clash_good : (i : Heading) {v : Result Verdict Refusal} → Decided p i v → v ≡ (Ok Contradict) → Begun p.gathering
  clash_good i (clash d) e = heard_begun i d
  clash_good i (stopped r) e = let z : ◌≡◌ {A = ℕ} 0 1 = cc in absurd (omega arith)
  clash_good i begun e = let z : ◌≡◌ {A = ℕ} 0 1 = cc in absurd (omega arith)
  clash_good i (new d q) e = let z : ◌≡◌ {A = ℕ} 0 1 = cc in absurd (omega arith)
  clash_good i again e = let z : ◌≡◌ {A = ℕ} 0 1 = cc in absurd (omega arith)

  pub clash_begun : verdict_of p store s ≡ (Ok Contradict) → Begun p.gathering
  clash_begun e = go (read_section s) refl
    where
      go : (a : Result (Heading × ℕ) Refusal) → read_section s ≡ a → Begun p.gathering
      go (Err r) f = let q = sym (verdict_bad p store s r f) ∙ e in let z : ◌≡◌ {A = ℕ} 0 1 = cc in absurd (omega arith)
      go (Ok (i, n)) f = clash_good i (decided p store i (payload_of s)) (sym (verdict_good p store s i n f) ∙ e)
