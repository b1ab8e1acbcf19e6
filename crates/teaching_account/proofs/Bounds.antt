-- What a buffer of bytes can tell has bounds: its heading is well-formed, at most 256 sections are missing, and no body is longer than 256 payloads.
use Prim.Native.Nat.{ℕ, zero, suc, ◌+◌, ◌-◌, ◌*◌, ◌≤◌}
use mathlib.Core.Path.{◌≡◌, refl, sym, ap, ◌∙◌}
use mathlib.Core.Bool.{Bool, true, false, not}
use mathlib.Core.List.Memᴰ
use mathlib.Core.List.{List, [], ◌∷◌, ◌++◌, Memᴰ as In}
use mathlib.Core.Logic.{◌⊎◌, inl, inr}
use native.Mathlib.Omega.{arith}
use lib.ListN.{length, take, drop, replicate, length-replicate}
use Rattle.ground_refusal.proofs.Exits.{ok_pair_inj}
use Rattle.std.specs.Prelude.{if◌then◌else◌, Ok, Err}
use Rattle.ground_refusal.specs.declared.Refusal.TheVariants.{ImpossibleState}
use Rattle.crc.specs.Crc.{AreBytes}
use Rattle.section_reader.specs.Section.{WellFormed}
use Rattle.section_reader.specs.declared.Heading.{Heading}
use Rattle.section_reader.proofs.RoundTrip.{good_printed}
use Rattle.gathering_state.specs.State.{has_room}
use Rattle.gathering_hand_out.proofs.Handing.{handed_whole, body_most_lem}
use Rattle.gathering_account.specs.Account.{good_current, heard, Section, Account, idle, table, account}
use Rattle.gathering_account.specs.Latest.{Latest, none_begun, begun_with}
use Rattle.gathering_account.specs.Answering.{present, undisputed}
use Rattle.gathering_account.specs.Gathers.{Box, fresh_box, box_after, ByteStrings, handing}
use Rattle.gathering_account.proofs.Bytes.{bytes_take, bytes_drop}
use Rattle.gathering_account.proofs.Latest.{latest}
use Rattle.gathering_account.proofs.Standing.{stands_few}
use Rattle.gathering_account.proofs.Feeds.{fresh_run}
use Rattle.gathering_account.proofs.Demand3.{handing_answers}
use Rattle.teaching_rows.specs.Rows.{length_bytes, length_in, row_begins, strings_first, strings_in, whole_in_use}
use Rattle.teaching_questions.specs.Questions.{said, absent_count}
use Rattle.teaching_questions.proofs.Saying.{said_section}
use Rattle.teaching_table.specs.Table.{account_in}
use Rattle.teaching_hand_out.specs.Asking.{headed_to, lacking_table, lacking_to, handed_to, heading_of, lacking_of, handed_of}
use Rattle.teaching_account.proofs.Handing.{answers_told}

-- no answer both refuses and does not
neither : {A : Type 0} → ◌≡◌ {A = ℕ} 0 1 → A
neither z = absurd (omega arith)

-- ---- the strings of bytes are bytes

first_bytes : (n : ℕ) (b : List ℕ) → AreBytes b → ByteStrings (strings_first n b)
unfolding strings_first ByteStrings
first_bytes zero b a = λ s i. absurd (Memᴰ.not-nil i)
first_bytes (suc n) b a = go (row_begins b) (first_bytes n (drop (length_bytes + length_in b) b) (bytes_drop (length_bytes + length_in b) b a))
  where
    rest : List (List ℕ)
    rest = strings_first n (drop (length_bytes + length_in b) b)

    go : (r : Bool) → ByteStrings rest → ByteStrings (if r then take (length_in b) (drop length_bytes b) ∷ rest else [])
    go false next = λ s i. absurd (Memᴰ.not-nil i)
    go true next = λ s i. by s (Memᴰ.cases_cons i)
      where
        by : (s : List ℕ) → (s ≡ take (length_in b) (drop length_bytes b)) ⊎ In s rest → AreBytes s
        by s (inl e) = rw e (bytes_take (length_in b) (drop length_bytes b) (bytes_drop length_bytes b a))
        by s (inr j) = next s j

strings_bytes : (b : List ℕ) → AreBytes b → ByteStrings (strings_in b)
unfolding strings_in
strings_bytes b a = first_bytes (length b) b a

-- ---- the heading

section_formed : (s : List ℕ) (h : Heading) (p : List ℕ) → heard s ≡ good_current h p → AreBytes s → WellFormed h
unfolding said
section_formed s h p f a = (good_printed s h (length s - 12) a (said_section s h (ap said f)).reads).formed

module _ (buffer : List ℕ) (used store : ℕ) (are_bytes : AreBytes buffer) where
  abbrev b : List ℕ
  b = take used buffer

  strings : ByteStrings (strings_in b)
  strings = strings_bytes b (bytes_take used buffer are_bytes)

  table_formed : (t : Heading) (S : List Section) → account_in store b ≡ table t S → WellFormed t
  unfolding account_in ByteStrings
  table_formed t S e = go (account (has_room store) idle (strings_in b)) (latest (has_room store) (strings_in b)) e
    where
      go : (x : Account) → Latest (has_room store) (strings_in b) x → x ≡ table t S → WellFormed t
      go x (none_begun none) q = neither (cc)
      go x (begun_with before after s is h p f roomy first behind) q =
          let same : h ≡ t = cc in
          let inside : In s (strings_in b) = rw is (Memᴰ.append_right before (Memᴰ.head refl)) in
          rw same at (section_formed s h p f (strings s inside))

  pub heading_formed : (t : Heading) → heading_of buffer used store ≡ Ok t → WellFormed t
  unfolding heading_of headed_to
  heading_formed t e = go (whole_in_use buffer used) (account_in store b) refl e
    where
      go : (w : Bool) (x : Account) → account_in store b ≡ x → (if not w then Err ImpossibleState else headed_to x) ≡ Ok t → WellFormed t
      go false x q e = neither (cc)
      go true idle q e = neither (cc)
      go true (table h S) q e = let same : h ≡ t = cc in rw same at (table_formed h S q)

  -- ---- what is missing

  count_most : (n : ℕ) (S : List Section) → absent_count n S ≤ n
  unfolding absent_count
  count_most zero S = omega arith
  count_most (suc n) S = go (present n S) (count_most n S)
    where
      go : (c : Bool) → absent_count n S ≤ n → absent_count n S + (if c then 0 else 1) ≤ suc n
      go true h = omega arith
      go false h = omega arith

  pub missing_most : (n k : ℕ) → lacking_of buffer used store ≡ Ok (n, k) → n ≤ 256
  unfolding lacking_of lacking_to lacking_table
  missing_most n k e = go (whole_in_use buffer used) (account_in store b) refl e
    where
      go : (w : Bool) (x : Account) → account_in store b ≡ x → (if not w then Err ImpossibleState else lacking_to x) ≡ Ok (n, k) → n ≤ 256
      go false x q e = neither (cc)
      go true idle q e = neither (cc)
      go true (table t S) q e =
          let same = ok_pair_inj e in
          omega (arith, same.0, count_most (t.last + 1) (undisputed S), (table_formed t S q).last_high)

  -- ---- the body: it is the one of a quick gathering that was fed what is kept

  abbrev quick : Box
  quick = box_after (fresh_box (replicate store 0)) (strings_in b)

  hands_out : (out : List ℕ) → handed_to (account_in store b) (length out) ≡ handing quick out
  unfolding account_in
  hands_out out =
      ap (λ n. handed_to (account (has_room n) idle (strings_in b)) (length out)) (sym (length-replicate store 0))
      ∙ (answers_told (handing_answers (replicate store 0) (strings_in b) strings out)).0

  pub taught_most : (out : List ℕ) (n : ℕ) → handed_of buffer used store out ≡ Ok n → n ≤ 256 * 4084
  unfolding handed_of
  taught_most out n e = go (whole_in_use buffer used) e
    where
      go : (w : Bool) → (if not w then Err ImpossibleState else handed_to (account_in store b) (length out)) ≡ Ok n → n ≤ 256 * 4084
      go false e = neither (cc)
      go true e =
          let whole = handed_whole quick.state quick.store out n (sym (hands_out out) ∙ e) in
          let most = body_most_lem quick.state quick.store (stands_few (fresh_run (replicate store 0) (strings_in b) strings)) whole.0.possible in
          omega (arith, most, whole.1)
