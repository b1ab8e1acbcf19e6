-- What leads to each answer of the account: a law for each way out of the code.
use Prim.Native.Nat.{ℕ, ◌-◌}
use Rattle.std.specs.Prelude.{Result, Ok, Err}
use mathlib.Core.Path.{◌≡◌, sym, ap, ◌∙◌}
use mathlib.Core.Bool.{Bool, true, false}
use mathlib.Core.List.{List}
use lib.ListN.{length, take, drop}
use Rattle.ground_refusal.specs.declared.Refusal.{Refusal}
use Rattle.ground_refusal.specs.declared.Refusal.TheVariants.{NotCurrent, OtherHeading, StoreTooShort, Contradiction}
use Rattle.section_reader.specs.Section.{payload_of, read_section}
use Rattle.section_reader.specs.declared.Heading.{Heading}
use Rattle.gathering_state.specs.State.{has_room}
use Rattle.gathering_tables.specs.Tables.{same_table, is_newer}
use Rattle.gathering_feed.specs.declared.Answer.{Answer}
use Rattle.gathering_feed.specs.declared.Answer.TheVariants.{Taken, HeldAlready}
use Rattle.gathering_account.specs.Account.{Section as Carried, Account, idle}
use Rattle.gathering_account.specs.Latest.{sections_of_table}
use Rattle.gathering_account.specs.Answering.{present, differs, agreeing, answer_of_table, answer_of_first, answer_of_good, answer_of_read, answer_to}
use Rattle.teaching_rows.specs.Rows.{strings_in}
use Rattle.teaching_questions.specs.Questions.{section}
use Rattle.teaching_questions.proofs.Walking.{to_end}
use Rattle.teaching_table.specs.Table.{account_in}
use Rattle.teaching_table.proofs.Fixing.{Found}

-- ---- a section that begins its table

module _ (room : ℕ → Bool) (h : Heading) where
  pub first_short : room h.last ≡ false → Err StoreTooShort ≡ answer_of_first room h
  unfolding answer_of_first
  first_short r = rw r

  pub first_taken : room h.last ≡ true → (Ok Taken) ≡ answer_of_first room h
  unfolding answer_of_first
  first_taken r = rw r

-- ---- a section of the fixed table: p is its payload, as the code cuts it out

module _ (S : List Carried) (k : ℕ) (s p : List ℕ) (e : p ≡ payload_of s) (d : Bool) (q : d ≡ differs (section k p) S) where
  differing : differs (section k (payload_of s)) S ≡ d
  differing = sym (q ∙ ap (λ x. differs (section k x) S) e)

  pub table_clash : d ≡ true → Err Contradiction ≡ answer_of_table S (section k (payload_of s))
  unfolding answer_of_table
  table_clash f = rw (differing, f)

  module _ (f : d ≡ false) where
    pub table_spoiled : agreeing S ≡ false → Err Contradiction ≡ answer_of_table S (section k (payload_of s))
    unfolding answer_of_table
    table_spoiled a = rw (differing, f, a)

    module _ (a : agreeing S ≡ true) where
      pub table_again : present k S ≡ true → (Ok HeldAlready) ≡ answer_of_table S (section k (payload_of s))
      unfolding answer_of_table
      table_again c = rw (differing, f, a, c)

      pub table_new : present k S ≡ false → (Ok Taken) ≡ answer_of_table S (section k (payload_of s))
      unfolding answer_of_table
      table_new c = rw (differing, f, a, c)

-- ---- a good, current section

module _ (store : ℕ) (b : List ℕ) (h : Heading) (p : List ℕ) (r : Result Answer Refusal) where
  abbrev Answers : Type 0
  Answers = r ≡ answer_of_good (has_room store) (account_in store b) h p

  pub good_first : account_in store b ≡ idle → r ≡ answer_of_first (has_room store) h → Answers
  unfolding answer_of_good
  good_first i f = rw i f

  module _ (t : Heading) (from : ℕ) (x : Found store b t from) where
    pub good_newer : is_newer t h ≡ true → r ≡ answer_of_first (has_room store) h → Answers
    unfolding answer_of_good
    good_newer n f = rw (x.is, n) f

    pub good_other : is_newer t h ≡ false → same_table t h ≡ false → r ≡ Err OtherHeading → Answers
    unfolding answer_of_good
    good_other n o f = rw (x.is, n, o) f

    -- the strings of the table, as the code cuts them off
    pub good_same : is_newer t h ≡ false → same_table t h ≡ true
        → r ≡ answer_of_table (sections_of_table t (strings_in (take (length b - from) (drop from b)))) (section h.number p) → Answers
    unfolding answer_of_good
    good_same n o f = rw (x.is, n, o) (f ∙ ap (λ y. answer_of_table (sections_of_table t (strings_in y)) (section h.number p)) (to_end b from))

-- ---- any byte string

module _ (room : ℕ → Bool) (a : Account) (s : List ℕ) where
  pub to_bad : (r : Refusal) → read_section s ≡ Err r → Err r ≡ answer_to room a s
  unfolding answer_to answer_of_read
  to_bad r e = rw e

  module _ (h : Heading) (n : ℕ) (e : read_section s ≡ Ok (h, n)) where
    pub to_old : h.current ≡ false → Err NotCurrent ≡ answer_to room a s
    unfolding answer_to answer_of_read
    to_old c = rw (e, c)

    good_is : h.current ≡ true → answer_to room a s ≡ answer_of_good room a h (payload_of s)
    unfolding answer_to answer_of_read
    good_is c = rw (e, c)

    pub to_good : h.current ≡ true → (r : Result Answer Refusal) → r ≡ answer_of_good room a h (payload_of s) → r ≡ answer_to room a s
    to_good c r f = f ∙ sym (good_is c)
