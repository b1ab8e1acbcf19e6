-- The slow gathering's feeds and handing out go through their lines as they are listed.
use Prim.Native.Nat.{ℕ, ◌+◌}
use Rattle.ground_refusal.specs.declared.Refusal.{Refusal}
use mathlib.Core.Path.{◌≡◌, refl, ap, ◌∙◌}
use mathlib.Core.Bool.{Bool, true, false, not, ◌&&◌, ◌||◌}
use mathlib.Core.List.{List, [], ◌∷◌, ◌++◌}
use native.Mathlib.Omega.{arith}
use lib.Dec.{leb}
use lib.ListN.{length, take}
use Rattle.std.specs.Prelude.{if◌then◌else◌, Result, Ok, Err}
use Rattle.ground_refusal.specs.declared.Refusal.TheVariants as refusal
use Rattle.section_reader.specs.Section.{heading_of, payload_of, read_section}
use Rattle.section_reader.specs.declared.Heading.{Heading}
use Rattle.gathering_state.specs.State.{has_room}
use Rattle.gathering_tables.specs.Tables.{same_table, is_newer}
use Rattle.gathering_feed.specs.declared.Answer.{Answer}
use Rattle.gathering_feed.specs.declared.Answer.TheVariants.{Taken, HeldAlready}
use Rattle.gathering_hand_out.specs.Handing.{handed_if_room}
use Rattle.gathering_account.specs.Account.{Section, Account, idle, table, in_order, body_of}
use Rattle.gathering_account.specs.Answering.{present, differs, agreeing, answer_of_table, answer_of_first, answer_of_good, answer_of_read, answer_to}
use Rattle.teaching_rows.specs.Rows.{whole_in_use}
use Rattle.teaching_table.specs.Table.{account_in}
use Rattle.teaching_feed.specs.Feeding.{row_fits, answer_of}
use Rattle.teaching_hand_out.specs.Asking.{handed_table, handed_to, handed_of}
use Rattle.promises_orders.specs.Order.{Line, ◌when◌, AsListed}
use Rattle.promises_orders.specs.Sections.{section_lines}
use Rattle.promises_orders.specs.Teaching.{good_lines, is_repeated, teaching_lines, TaughtAsListed, account_lines, teaching_handing_lines}
use Rattle.promises_orders.proofs.Order.{Told, outcome, outcome_told, by_lines}
use Rattle.promises_orders.proofs.Fed.{fed_value, fed_refused, fed_taken, fed_held}

-- ---- feeding

module _ (room : ℕ → Bool) (h : Heading) (p : List ℕ) where
  good_answers : (a : Account) → answer_of_good room a h p ≡ outcome Err (good_lines room a h p) (fed_value (is_repeated a h))
  unfolding answer_of_good answer_of_first answer_of_table good_lines is_repeated outcome
  good_answers idle = refl
  good_answers (table t S) =
      go (is_newer t h) (same_table t h) (room h.last) (differs (record { number = h.number; contents = p }) S || not (agreeing S)) (present h.number S)
    where
      go : (newer same roomy clash repeat : Bool)
          → (if newer then (if not roomy then Err refusal.StoreTooShort else (Ok Taken)) else
          if not same then Err refusal.OtherHeading else
          if clash then Err refusal.Contradiction else
          if repeat then (Ok HeldAlready) else (Ok Taken))
          ≡ (if not newer && not same then Err refusal.OtherHeading else
          if newer && not roomy then Err refusal.StoreTooShort else
          if not newer && clash then Err refusal.Contradiction else
          if not newer && repeat then (Ok HeldAlready) else (Ok Taken))
      go true same true clash repeat = refl
      go true same false clash repeat = refl
      go false false roomy clash repeat = refl
      go false true roomy true repeat = refl
      go false true roomy false true = refl
      go false true roomy false false = refl

module _ (buffer : List ℕ) (used store : ℕ) (s : List ℕ) where
  abbrev a : Account
  a = account_in store (take used buffer)

  abbrev held : Bool
  held = is_repeated a (heading_of s)

  -- 1 to 7, then 8, then the rest
  section_answers : answer_to (has_room store) a s
      ≡ outcome Err (section_lines s)
      (if not (heading_of s).current then Err refusal.NotCurrent else answer_of_good (has_room store) a (heading_of s) (payload_of s))
  unfolding answer_to answer_of_read read_section section_lines outcome heading_of
  section_answers = outcome_told (answer_of_read (has_room store) a s) Err Err (λ r. refl) (section_lines s) (Ok (heading_of s, _))

  kept_answers : answer_to (has_room store) a s
      ≡ outcome Err (section_lines s ++ refusal.NotCurrent when not (heading_of s).current ∷ good_lines (has_room store) a (heading_of s) (payload_of s))
      (fed_value held)
  unfolding section_lines outcome
  kept_answers =
      section_answers
      ∙ ap (λ x. outcome Err (section_lines s) (if not (heading_of s).current then Err refusal.NotCurrent else x))
      (good_answers (has_room store) (heading_of s) (payload_of s) a)

  answers : answer_of buffer used store s ≡ outcome Err (teaching_lines buffer used store s) (fed_value held)
  unfolding answer_of teaching_lines outcome
  answers =
      ap (λ x. if not (row_fits (length buffer) used (length s)) then Err refusal.TeachingBufferFull else
      if not (whole_in_use buffer used) then Err refusal.ImpossibleState else x) kept_answers

  pub teaching_as_listed : TaughtAsListed buffer used store s
  teaching_as_listed =
      record {
        refused_exactly = fed_refused (teaching_lines buffer used store s) held _ answers;
        taken_exactly = fed_taken (teaching_lines buffer used store s) held _ answers;
        held_exactly = fed_held (teaching_lines buffer used store s) held _ answers;
      }

-- ---- handing out

module _ (buffer : List ℕ) (used store : ℕ) (out : List ℕ) where
  account_hands : (a : Account) → handed_to a (length out) ≡ outcome Err (account_lines a (length out)) (Ok (length (body_of a)))
  unfolding handed_to handed_table handed_if_room account_lines body_of outcome
  account_hands idle = refl
  account_hands (table t S) = refl

  hands : handed_of buffer used store out
      ≡ outcome Err (teaching_handing_lines buffer used store (length out)) (Ok (length (body_of (account_in store (take used buffer)))))
  unfolding handed_of teaching_handing_lines outcome
  hands = ap (λ x. if not (whole_in_use buffer used) then Err refusal.ImpossibleState else x) (account_hands (account_in store (take used buffer)))

  told : (n : ℕ) → Told Err (λ (a : Result ℕ Refusal). a ≡ Ok n)
  told n = record { same = λ r r' e. cc; apart = λ r e. let z : ◌≡◌ {A = ℕ} 0 1 = cc in omega arith }

  pub teaching_handing_as_listed : AsListed Err (λ x. x ≡ Ok (length (body_of (account_in store (take used buffer)))))
      (teaching_handing_lines buffer used store (length out)) (handed_of buffer used store out)
  teaching_handing_as_listed = rw hands (by_lines Err _ (told _) (teaching_handing_lines buffer used store (length out)) _ refl)
