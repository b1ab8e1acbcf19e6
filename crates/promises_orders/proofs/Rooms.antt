-- Two networks over one store go through their lines as they are listed.
use Prim.Native.Nat.{ℕ, ◌≤◌}
use mathlib.Core.Path.{◌≡◌, refl, ap, ◌∙◌}
use mathlib.Core.Bool.{Bool, true, false, not, ◌&&◌, ◌||◌, true≢false}
use mathlib.Core.List.{List, [], ◌∷◌, ◌++◌}
use mathlib.Core.Option.{Option, none, some}
use native.Mathlib.Omega.{arith}
use lib.Dec.{eqb, ltb}
use lib.ListN.{length, get_or, replicate}
use Rattle.std.specs.Prelude.{if◌then◌else◌, Result, Ok, Err}
use Rattle.ground_refusal.specs.declared.Refusal.{Refusal}
use Rattle.ground_refusal.specs.declared.Refusal.TheVariants.{NotCurrent, OtherHeading, Contradiction, ImpossibleState, Missing, OutsideSet}
use Rattle.ground_refusal.specs.declared.Refusal.TheVariants.{OutputTooSmall, NoFreeRoom}
use Rattle.ground_equal.specs.Same.{same_bytes}
use Rattle.section_reader.specs.Section.{heading_of, payload_of, read_section}
use Rattle.gathering_state.specs.Lists.{smallest_missing}
use Rattle.gathering_state.specs.State.{nothing_begun, lengths, possible_of as gathering_possible}
use Rattle.gathering_tables.specs.Tables.{is_other}
use Rattle.gathering_verdict.specs.Deciding.{fixed_heading, agrees, begins}
use Rattle.gathering_verdict.specs.declared.Verdict.{Verdict}
use Rattle.gathering_verdict.specs.declared.Verdict.TheVariants.{Repeat, Contradict, Begin, Take}
use Rattle.gathering_feed.specs.Feeding.{answer_by}
use Rattle.gathering_feed.specs.declared.Answer.{Answer}
use Rattle.gathering_feed.specs.declared.Answer.TheVariants.{Taken, HeldAlready}
use Rattle.gathering_hand_out.specs.Handing.{missing_of, complete_of, handed_if_room, handed_by}
use Rattle.rooms_marks.specs.Rooms.{free_room}
use Rattle.rooms_state.specs.State.{rooms_in, room_payload, possible_of, Network, is_some, mine, theirs}
use Rattle.rooms_state.specs.declared.Part.{Part}
use Rattle.rooms_state.specs.declared.Networks.{Networks}
use Rattle.rooms_state.proofs.Facts.{networks_are, sound_of}
use Rattle.rooms_verdict.specs.Deciding.{number_verdict, good_verdict, section_verdict, verdict_of}
use Rattle.rooms_feed.specs.Feeding.{opened_part, base, room_for, roomed, room_verdict, part_fed, fed_for, fed_of}
use Rattle.rooms_hand_out.specs.Handing.{body_in, part_handed, handed_for, handed_of}
use Rattle.rooms_end.specs.Ending.{ended_for, ended_of}
use Rattle.rooms_count.specs.Counting.{held, free, held_of, free_of}
use Rattle.rooms_account.proofs.Always.{own_room}
use Rattle.promises_orders.specs.Order.{Line, ◌when◌, None, AsListed}
use Rattle.promises_orders.specs.Sections.{section_lines}
use Rattle.promises_orders.specs.Gathering.{is_held}
use Rattle.promises_orders.specs.Rooms.{part_for, other_for, network_lines, contradicts_room, is_full, part_lines, networks_feeding_lines, fed_value}
use Rattle.promises_orders.specs.Rooms.{networks_handing_lines, counting_lines}
use Rattle.promises_orders.proofs.Order.{Told, outcome, outcome_told, outcome_behind, first_not, rest_not, none_append, by_lines}
use Rattle.promises_orders.proofs.Gathering.{other_line}

-- ---- feeding one network's part, where it is possible as a gathering by itself

module _ (n : ℕ) (p q : Part) (store s : List ℕ) (ok : gathering_possible p.gathering ≡ true) where
  abbrev lines_with : Bool → List Line
  lines_with other = section_lines s ++ NotCurrent when not (heading_of s).current ∷ OtherHeading when other ∷ []

  abbrev before_last : List Line
  before_last = lines_with (not (nothing_begun p.gathering) && is_other (fixed_heading p.gathering) (heading_of s))

  -- 11 and 35, and what is answered behind them
  abbrev last_lines : List Line
  last_lines =
      Contradiction when (contradicts_room p store s || not (begins p.gathering (heading_of s)) && not (eqb p.gathering.spoiled 0))
      ∷ NoFreeRoom when (not (is_held p.gathering s) && is_full n p q s)
      ∷ []

  abbrev value : Result Answer Refusal
  value = if is_held p.gathering s then (Ok HeldAlready) else (Ok Taken)

  -- what is decided behind 9
  abbrev behind : Result Verdict Refusal
  behind =
      if begins p.gathering (heading_of s) then Ok (Begin (heading_of s)) else
      if not (eqb p.gathering.spoiled 0) then Err Contradiction else
      number_verdict p store (heading_of s) (payload_of s)

  -- a verdict with its room, told
  abbrev told : Result Verdict Refusal → Result Answer Refusal
  told v = answer_by (roomed v (room_for n p q.rooms v))

  section_decides : section_verdict p store s (read_section s) ≡ outcome Err (section_lines s) (good_verdict p store (heading_of s) (payload_of s))
  unfolding read_section section_lines section_verdict outcome heading_of
  section_decides = outcome_told (section_verdict p store s) Err Err (λ r. refl) (section_lines s) (Ok (heading_of s, _))

  decides : verdict_of p store s ≡ outcome Err before_last behind
  unfolding verdict_of good_verdict section_lines outcome
  decides = section_decides ∙ ap (λ other. outcome Err (lines_with other) behind) (other_line p.gathering store s ok)

  last_lines_lem : None before_last → told behind ≡ outcome Err last_lines value
  unfolding outcome answer_by number_verdict contradicts_room is_held roomed room_for base opened_part is_full
  last_lines_lem passed =
      let t = (none_append (section_lines s) _ passed).1 in
      let number = (heading_of s).number in
      go (begins p.gathering (heading_of s)) (agrees p.gathering (heading_of s)) (eqb p.gathering.spoiled 0)
      (eqb (get_or p.gathering.held number 0) 0) (same_bytes (room_payload p store number) (payload_of s))
      (other_line p.gathering store s ok ∙ first_not (rest_not t))
    where
      begun : (full : Bool) → answer_by (if full then Err NoFreeRoom else Ok (Begin (heading_of s))) ≡ (if full then Err NoFreeRoom else (Ok Taken))
      begun true = refl
      begun false = refl

      further : (full : Bool) → answer_by (if full then Err NoFreeRoom else Ok (Take (heading_of s))) ≡ (if full then Err NoFreeRoom else (Ok Taken))
      further true = refl
      further false = refl

      go : (first same calm new equal : Bool) → not (first || same) ≡ false
          → told
          (if first then Ok (Begin (heading_of s)) else
          if not calm then Err Contradiction else
          if new then Ok (Take (heading_of s)) else
          if equal then (Ok Repeat) else (Ok Contradict))
          ≡ (if same && (not first && not new) && not equal || not first && not calm then Err Contradiction else
          if not (not first && not new) && eqb (free_room n (if first then replicate 256 0 else p.rooms) q.rooms) 0 then Err NoFreeRoom else
          if not first && not new then (Ok HeldAlready) else (Ok Taken))
      go true true calm new equal e = begun (eqb (free_room n (replicate 256 0) q.rooms) 0)
      go true false calm new equal e = begun (eqb (free_room n (replicate 256 0) q.rooms) 0)
      go false false calm new equal e = absurd (true≢false e)
      go false true true true equal e = further (eqb (free_room n p.rooms q.rooms) 0)
      go false true true false true e = refl
      go false true true false false e = refl
      go false true false true equal e = refl
      go false true false false true e = refl
      go false true false false false e = refl

  feeds : (part_fed n p q.rooms store s).answer ≡ outcome Err (part_lines n p q store s) value
  unfolding part_fed room_verdict part_lines section_lines outcome roomed answer_by
  feeds =
      ap told decides
      ∙ outcome_told told Err Err (λ r. refl) before_last behind
      ∙ outcome_behind Err before_last last_lines_lem

-- ---- feeding

fed_apart : (r : Refusal) (held : Bool) → Err r ≡ (if held then (Ok HeldAlready) else (Ok Taken)) → ⊥
fed_apart r true e = let z : ◌≡◌ {A = ℕ} 0 1 = cc in omega arith
fed_apart r false e = let z : ◌≡◌ {A = ℕ} 0 1 = cc in omega arith

-- the state is possible, and then each part is by itself
own_possible : (i : Network) (x : Networks) (bytes : ℕ) → possible_of x bytes ≡ true → gathering_possible (mine i x).gathering ≡ true
own_possible i x bytes ok = (sound_of i x (networks_are x bytes ok)).own.possible

module _ (x : Networks) (store s : List ℕ) where
  networks_feed : (o : Option Network) → (fed_of o x store s).answer ≡ outcome Err (networks_feeding_lines o x store s) (fed_value o x s)
  unfolding fed_of fed_for networks_feeding_lines network_lines fed_value is_some part_for other_for outcome
  networks_feed none = refl
  networks_feed (some i) = go (possible_of x (length store)) refl
    where
      go : (b : Bool) → possible_of x (length store) ≡ b
          → (fed_for i x store s).answer
          ≡ (if not (possible_of x (length store)) then Err ImpossibleState else
          outcome Err (part_lines (rooms_in (length store)) (mine i x) (theirs i x) store s) (if is_held (mine i x).gathering s then (Ok HeldAlready) else (Ok Taken)))
      go true e = rw e (feeds (rooms_in (length store)) (mine i x) (theirs i x) store s (own_possible i x (length store) e))
      go false e = rw e

  pub networks_feeding_as_listed : (o : Option Network)
      → AsListed Err (λ a. a ≡ fed_value o x s) (networks_feeding_lines o x store s) (fed_of o x store s).answer
  unfolding fed_value
  networks_feeding_as_listed o =
      rw (networks_feed o)
      (by_lines Err _ (record { same = λ r r' e. cc; apart = λ r. fed_apart r (is_held (part_for o x).gathering s) })
      (networks_feeding_lines o x store s) (fed_value o x s) refl)

-- ---- handing out

handing_told : (n : ℕ) → Told Err (λ (a : Result ℕ Refusal). a ≡ Ok n)
handing_told n = record { same = λ r r' e. cc; apart = λ r e. let z : ◌≡◌ {A = ℕ} 0 1 = cc in omega arith }

module _ (x : Networks) (store out : List ℕ) where
  networks_hand : (o : Option Network) → (part_for o x).gathering.last ≤ 255
      → handed_of o x store out ≡ outcome Err (networks_handing_lines o x store out) (Ok (length (body_in (part_for o x) store)))
  unfolding handed_of handed_for part_handed handed_by complete_of missing_of handed_if_room networks_handing_lines network_lines is_some part_for outcome
  networks_hand none l = refl
  networks_hand (some i) l = go (possible_of x (length store)) refl
    where
      go : (b : Bool) → possible_of x (length store) ≡ b
          → handed_for i x store out
          ≡ (if not (possible_of x (length store)) then Err ImpossibleState else
          if nothing_begun (mine i x).gathering then Err (Missing 0) else
          if not (eqb (mine i x).gathering.spoiled 0) then Err Contradiction else
          if ltb (smallest_missing (lengths (mine i x).gathering)) (length (lengths (mine i x).gathering))
          then Err (Missing (smallest_missing (lengths (mine i x).gathering))) else
          if ltb (length out) (length (body_in (mine i x) store)) then Err OutputTooSmall else
          Ok (length (body_in (mine i x) store)))
      go true e =
          rw (e, own_possible i x (length store) e, own_room (mine i x).gathering.last l)
          (by_tests (nothing_begun (mine i x).gathering) (not (eqb (mine i x).gathering.spoiled 0))
          (ltb (smallest_missing (lengths (mine i x).gathering)) (length (lengths (mine i x).gathering))))
        where
          by_tests : (a b c : Bool)
              → handed_by
              (if a then Err (Missing 0) else
              if b then Err Contradiction else
              if c then Err (Missing (smallest_missing (lengths (mine i x).gathering))) else (Ok tt))
              (length (body_in (mine i x) store)) (length out)
              ≡ (if a then Err (Missing 0) else
              if b then Err Contradiction else
              if c then Err (Missing (smallest_missing (lengths (mine i x).gathering))) else
              if ltb (length out) (length (body_in (mine i x) store)) then Err OutputTooSmall else
              Ok (length (body_in (mine i x) store)))
          by_tests true b c = refl
          by_tests false true c = refl
          by_tests false false true = refl
          by_tests false false false = refl
      go false e = rw e

  pub networks_handing_as_listed : (o : Option Network) → (part_for o x).gathering.last ≤ 255
      → AsListed Err (λ a. a ≡ Ok (length (body_in (part_for o x) store))) (networks_handing_lines o x store out) (handed_of o x store out)
  networks_handing_as_listed o l =
      rw (networks_hand o l) (by_lines Err _ (handing_told _) (networks_handing_lines o x store out) _ refl)

-- ---- ending and counting

module _ (x : Networks) (bytes : ℕ) where
  networks_end : (o : Option Network) → (ended_of o x bytes).answer ≡ outcome Err (network_lines o x bytes) (Ok tt)
  unfolding ended_of ended_for network_lines is_some outcome
  networks_end none = refl
  networks_end (some i) = go (possible_of x bytes) refl
    where
      go : (b : Bool) → possible_of x bytes ≡ b → (ended_for i x bytes).answer ≡ (if not (possible_of x bytes) then Err ImpossibleState else (Ok tt))
      go true e = rw e
      go false e = rw e

  ending_told : Told Err (λ (a : Result Unit Refusal). a ≡ Ok tt)
  ending_told = record { same = λ r r' e. cc; apart = λ r e. let z : ◌≡◌ {A = ℕ} 0 1 = cc in omega arith }

  pub networks_ending_as_listed : (o : Option Network) → AsListed Err (λ (a : Result Unit Refusal). a ≡ Ok tt) (network_lines o x bytes) (ended_of o x bytes).answer
  networks_ending_as_listed o =
      rw (networks_end o)
      (by_lines Err _ ending_told (network_lines o x bytes) (Ok tt) refl)

  counting_told : (n : ℕ) → Told Err (λ (a : Result ℕ Refusal). a ≡ Ok n)
  counting_told n = record { same = λ r r' e. cc; apart = λ r e. let z : ◌≡◌ {A = ℕ} 0 1 = cc in omega arith }

  pub held_as_listed : AsListed Err (λ a. a ≡ Ok (held x)) (counting_lines x bytes) (held_of x bytes)
  unfolding held_of counting_lines outcome
  held_as_listed = by_lines Err _ (counting_told _) (counting_lines x bytes) (Ok (held x)) refl

  pub free_as_listed : AsListed Err (λ a. a ≡ Ok (free x bytes)) (counting_lines x bytes) (free_of x bytes)
  unfolding free_of counting_lines outcome
  free_as_listed = by_lines Err _ (counting_told _) (counting_lines x bytes) (Ok (free x bytes)) refl
