-- Feeding and handing out go through their lines as they are listed; the versions of a possible state and of a section are at most 31, so that 9 is
-- given for what is neither the gathering's table nor a newer one.
use Prim.Native.Nat.{ℕ, ◌≤◌}
use mathlib.Core.Path.{◌≡◌, refl, sym, ap, ◌∙◌}
use mathlib.Core.Bool.{Bool, true, false, not, ◌&&◌, ◌||◌, true≢false}
use mathlib.Core.List.{List, [], ◌∷◌, ◌++◌}
use native.Mathlib.Omega.{arith}
use borrow.Author.Tests.{not-false}
use lib.Dec.{eqb}
use lib.ListN.{length, get_or}
use Rattle.std.specs.Prelude.{if◌then◌else◌, Result, Ok, Err}
use Rattle.ground_refusal.specs.declared.Refusal.{Refusal}
use Rattle.ground_refusal.specs.declared.Refusal.TheVariants.{NotCurrent, OtherHeading, StoreTooShort, Contradiction, ImpossibleState}
use Rattle.ground_equal.specs.Same.{same_bytes}
use Rattle.section_reader.specs.Section.{heading_of, payload_of, read_section}
use Rattle.gathering_state.specs.State.{possible_of, nothing_begun, has_room, held_payload}
use Rattle.gathering_state.specs.declared.Gathering.{Gathering}
use Rattle.gathering_state.proofs.State.{possible_fresh, possible_begun}
use Rattle.gathering_tables.specs.Tables.{is_other}
use Rattle.gathering_tables.proofs.Tables.{other_exactly}
use Rattle.gathering_verdict.specs.Deciding.{fixed_heading, agrees, begins, number_verdict, good_verdict, section_verdict, verdict_of}
use Rattle.gathering_feed.specs.Feeding.{answer_by, fed_of}
use Rattle.gathering_verdict.specs.declared.Verdict.{Verdict}
use Rattle.gathering_verdict.specs.declared.Verdict.TheVariants.{Repeat, Contradict, Begin, Take}
use Rattle.gathering_feed.specs.declared.Answer.{Answer}
use Rattle.gathering_feed.specs.declared.Answer.TheVariants.{Taken, HeldAlready}
use Rattle.gathering_hand_out.specs.Handing.{body_held, missing_of, complete_of, handed_if_room, handed_by, handed_of}
use Rattle.promises_orders.specs.Order.{Line, ◌when◌, None, AsListed}
use Rattle.promises_orders.specs.Sections.{section_lines}
use Rattle.gathering_pack.specs.Packing.{packed_by, packed_of, packing_of}
use Rattle.promises_orders.specs.Gathering.{is_held, contradicts_held, feeding_lines, FedAsListed, complete_lines, handing_lines}
use Rattle.promises_orders.proofs.Order.{Told, outcome, outcome_told, outcome_behind, first_not, rest_not, none_append, by_lines}
use Rattle.promises_orders.proofs.Fed.{fed_value, fed_refused, fed_taken, fed_held}

-- ---- feeding

module _ (g : Gathering) (store s : List ℕ) where
  -- the lines before 11, where 9 has this condition
  abbrev lines_with : Bool → List Line
  lines_with other =
      ImpossibleState when not (possible_of g)
      ∷ section_lines s
      ++ NotCurrent when not (heading_of s).current
      ∷ OtherHeading when other
      ∷ StoreTooShort when not (has_room (length store) (heading_of s).last)
      ∷ []

  abbrev before_last : List Line
  before_last = lines_with (not (nothing_begun g) && is_other (fixed_heading g) (heading_of s))

  -- 11, and what is answered behind it
  abbrev last : Line
  last = Contradiction when (contradicts_held g store s || not (begins g (heading_of s)) && not (eqb g.spoiled 0))

  abbrev value : Result Answer Refusal
  value = fed_value (is_held g s)

  -- what feeding decides behind them
  abbrev behind : Result Verdict Refusal
  behind =
      if begins g (heading_of s) then Ok (Begin (heading_of s)) else
      if not (eqb g.spoiled 0) then Err Contradiction else
      number_verdict g store (heading_of s) (payload_of s)

  -- 9, of a possible state
  version_low : possible_of g ≡ true → g.version ≤ 31
  version_low p = go (nothing_begun g) refl
    where
      go : (b : Bool) → nothing_begun g ≡ b → g.version ≤ 31
      go true k = let f = possible_fresh g p k in omega arith
      go false k = (possible_begun g p k).of_table.version

  section_low : (heading_of s).version ≤ 31
  unfolding heading_of
  section_low = omega arith

  pub other_line : possible_of g ≡ true → not (begins g (heading_of s) || agrees g (heading_of s)) ≡ (not (nothing_begun g) && is_other (fixed_heading g) (heading_of s))
  unfolding begins agrees
  other_line p = rw (other_exactly (fixed_heading g) (heading_of s) (version_low p) section_low) (go (nothing_begun g) _ _)
    where
      go : (none newer same : Bool) → not (none || newer || same) ≡ (not none && not (newer || same))
      go true newer same = refl
      go false newer same = refl

  section_decides : section_verdict g store s (read_section s) ≡ outcome Err (section_lines s) (good_verdict g store (heading_of s) (payload_of s))
  unfolding read_section section_lines section_verdict outcome heading_of
  section_decides = outcome_told (section_verdict g store s) Err Err (λ r. refl) (section_lines s) (Ok (heading_of s, _))

  decides_by : verdict_of g store s ≡ outcome Err (lines_with (not (begins g (heading_of s) || agrees g (heading_of s)))) behind
  unfolding verdict_of good_verdict section_lines outcome
  decides_by = ap (λ v. if not (possible_of g) then Err ImpossibleState else v) section_decides

  decides : verdict_of g store s ≡ outcome Err before_last behind
  unfolding outcome
  decides = decides_by ∙ go (possible_of g) refl
    where
      go : (b : Bool) → possible_of g ≡ b
          → outcome Err (lines_with (not (begins g (heading_of s) || agrees g (heading_of s)))) behind ≡ outcome Err before_last behind
      go true p = ap (λ other. outcome Err (lines_with other) behind) (other_line p)
      go false p = rw p

  last_line : None before_last → answer_by behind ≡ outcome Err (last ∷ []) value
  unfolding outcome answer_by number_verdict contradicts_held is_held
  last_line n =
      let p = not-false _ (first_not n) in
      let t = (none_append (section_lines s) _ (rest_not n)).1 in
      let number = (heading_of s).number in
      go (begins g (heading_of s)) (agrees g (heading_of s)) (eqb g.spoiled 0) (eqb (get_or g.held number 0) 0)
      (same_bytes (held_payload g store number) (payload_of s))
      (other_line p ∙ first_not (rest_not t))
    where
      go : (first same calm new equal : Bool) → not (first || same) ≡ false
          → answer_by
          (if first then Ok (Begin (heading_of s)) else
          if not calm then Err Contradiction else
          if new then Ok (Take (heading_of s)) else
          if equal then (Ok Repeat) else (Ok Contradict))
          ≡ (if same && (not first && not new) && not equal || not first && not calm then Err Contradiction else
          if not first && not new then (Ok HeldAlready) else (Ok Taken))
      go true true calm new equal e = refl
      go true false calm new equal e = refl
      go false false calm new equal e = absurd (true≢false e)
      go false true true true equal e = refl
      go false true true false true e = refl
      go false true true false false e = refl
      go false true false true equal e = refl
      go false true false false true e = refl
      go false true false false false e = refl

  feeds : (fed_of g store s).answer ≡ outcome Err (feeding_lines g store s) value
  unfolding fed_of feeding_lines section_lines outcome answer_by
  feeds =
      ap answer_by decides
      ∙ outcome_told answer_by Err Err (λ r. refl) before_last behind
      ∙ outcome_behind Err before_last last_line

  pub feeding_as_listed : FedAsListed g store s
  feeding_as_listed =
      record {
        refused_exactly = fed_refused (feeding_lines g store s) (is_held g s) _ feeds;
        taken_exactly = fed_taken (feeding_lines g store s) (is_held g s) _ feeds;
        held_exactly = fed_held (feeding_lines g store s) (is_held g s) _ feeds;
      }

-- ---- handing out

complete_told : Told Err (λ (a : Result Unit Refusal). a ≡ Ok tt)
complete_told = record { same = λ r r' e. cc; apart = λ r e. let z : ◌≡◌ {A = ℕ} 0 1 = cc in omega arith }

pub complete_as_listed : (g : Gathering) (bytes : ℕ) → AsListed Err (λ a. a ≡ Ok tt) (complete_lines g bytes) (complete_of g bytes)
unfolding complete_of missing_of complete_lines outcome
complete_as_listed g bytes = by_lines Err _ complete_told (complete_lines g bytes) (Ok tt) refl

handing_told : (n : ℕ) → Told Err (λ (a : Result ℕ Refusal). a ≡ Ok n)
handing_told n = record { same = λ r r' e. cc; apart = λ r e. let z : ◌≡◌ {A = ℕ} 0 1 = cc in omega arith }

module _ (g : Gathering) (store out : List ℕ) where
  hands : handed_of g store out ≡ outcome Err (handing_lines g store out) (Ok (length (body_held g store)))
  unfolding handed_of handed_by complete_of missing_of handed_if_room complete_lines handing_lines outcome
  hands =
      outcome_told (λ c. handed_by c (length (body_held g store)) (length out)) Err Err (λ r. refl)
      (complete_lines g (length store)) (Ok tt)

  pub handing_as_listed : AsListed Err (λ a. a ≡ Ok (length (body_held g store))) (handing_lines g store out) (handed_of g store out)
  handing_as_listed = rw hands (by_lines Err _ (handing_told _) (handing_lines g store out) _ refl)

module _ (g : Gathering) (store : List ℕ) where
  packs : (packing_of g store).answer ≡ outcome Err (complete_lines g (length store)) (Ok (length (body_held g store)))
  unfolding packing_of packed_of packed_by complete_of missing_of complete_lines outcome
  packs =
      outcome_told (λ c. packed_by c (length (body_held g store))) Err Err (λ r. refl)
      (complete_lines g (length store)) (Ok tt)

  pub packing_as_listed : AsListed Err (λ a. a ≡ Ok (length (body_held g store))) (complete_lines g (length store)) (packing_of g store).answer
  packing_as_listed = rw packs (by_lines Err _ (handing_told _) (complete_lines g (length store)) _ refl)
