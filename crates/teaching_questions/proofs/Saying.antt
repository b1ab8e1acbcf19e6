-- Laws of one byte string: what is said of it tells what was heard, and what it is to a table.
use Prim.Native.Nat.{ℕ, ◌-◌, ◌≤◌, ◌<◌}
use Rattle.std.specs.Prelude.{Result, Ok, Err, Option, Some, None, is_some}
use Rattle.std.specs.Result.{result_ok}
use mathlib.Core.Bool.{Bool, true, false, false≢true}
use mathlib.Core.List.{List, [], ◌∷◌}
use mathlib.Core.Path.{◌≡◌, refl, sym, ap, ◌∙◌}
use native.Mathlib.Omega.{arith}
use lib.ListN.{length, take, drop, length-drop}
use lib.Seq.{length-take-le}
use Rattle.ground_refusal.specs.declared.Refusal.{Refusal}
use Rattle.ground_numbers.specs.Sizes.{payload_most}
use Rattle.section_reader.specs.Section.{payload_of, read_section, heading_of}
use Rattle.section_reader.specs.declared.Heading.{Heading}
use Rattle.section_reader.proofs.Accepting.{accepted, framed_long}
use Rattle.gathering_tables.specs.Tables.{same_table}
use Rattle.gathering_account.specs.Account.{Heard, nothing, good_current, heard}
use Rattle.gathering_account.specs.Latest.{section_of_table}
use Rattle.gathering_account.proofs.Hearing.{ReadAs, as_good, as_bad, read_as, heard_bad, heard_old, heard_good}
use Rattle.teaching_questions.specs.Questions.{said, section}

-- ---- said and heard

module _ (s : List ℕ) where
  pub say_bad : (r : Refusal) → read_section s ≡ Err r → None ≡ said (heard s)
  unfolding said
  say_bad r e = sym (ap said (heard_bad s r e))

  module _ (h : Heading) (n : ℕ) (e : read_section s ≡ Ok (h, n)) where
    pub say_old : h.current ≡ false → None ≡ said (heard s)
    unfolding said
    say_old c = sym (ap said (heard_old s h n e c))

    pub say_good : h.current ≡ true → Some h ≡ said (heard s)
    unfolding said
    say_good c = sym (ap said (heard_good s h n e c))

-- a good, current section: how it was read, and what is known of it
pub record Current (s : List ℕ) (h : Heading) : Type 0 where
  pub reads : read_section s ≡ Ok (h, length s - 12)
  pub current : h.current ≡ true
  pub is : heard s ≡ good_current h (payload_of s)
  pub long : 12 ≤ length s
  pub short : length s ≤ 4096
  pub versioned : h.version < 256

current_good : (s : List ℕ) (h : Heading) (n : ℕ) → read_section s ≡ Ok (h, n) → h.current ≡ true → Current s h
unfolding heading_of
current_good s h n e c =
    let a = accepted s h n e in
    let l = framed_long s a.framed in
    record {
      reads = e ∙ ap (λ b. Ok (h, b)) a.size;
      current = c;
      is = heard_good s h n e c;
      long = l.0;
      short = l.1;
      versioned = rw a.heading (omega arith);
    }

none_said : {A B : Type 0} {x : B} → None ≡ Some x → A
none_said e = absurd (false≢true (ap is_some e))

abbrev held_or : {A : Type 0} → A → Option A → A
held_or x None = x
held_or x (Some y) = y

some_inj : {A : Type 0} {x y : A} → ◌≡◌ {A = Option A} (Some x) (Some y) → x ≡ y
some_inj {x = x} e = ap (held_or x) e

-- what was read, where only a good answer is kept
module _ (s : List ℕ) where
  pub read_nothing : (r : Result (Heading × ℕ) Refusal) → r ≡ read_section s → None ≡ result_ok r → None ≡ said (heard s)
  read_nothing (Err why) e q = say_bad s why (sym e)
  read_nothing (Ok x) e q = none_said q

  pub read_good : (r : Result (Heading × ℕ) Refusal) → r ≡ read_section s → (x : Heading × ℕ) → Some x ≡ result_ok r → read_section s ≡ Ok x
  read_good (Err why) e x q = none_said (sym q)
  read_good (Ok y) e x q = sym e ∙ ap Ok (sym (some_inj q))

module _ (s : List ℕ) where
  pub said_section : (h : Heading) → said (heard s) ≡ Some h → Current s h
  unfolding said
  said_section h q = go (read_as s)
    where
      go : ReadAs s → Current s h
      go (as_bad r e) = none_said (say_bad s r e ∙ q)
      go (as_good h' n e) = by h'.current refl
        where
          by : (c : Bool) → h'.current ≡ c → Current s h
          by false c = none_said (say_old s h' n e c ∙ q)
          by true c = let same : h' ≡ h = let f = say_good s h' n e c ∙ q in cc in rw same at (current_good s h' n e c)

  pub said_nothing : said (heard s) ≡ None → heard s ≡ nothing
  unfolding said
  said_nothing q = go (heard s) refl q
    where
      go : (x : Heard) → heard s ≡ x → said x ≡ None → heard s ≡ nothing
      go nothing e f = e
      go (good_current h p) e f = none_said (sym f)

-- ---- what it is to a table

module _ (t : Heading) (s : List ℕ) where
  pub nothing_section : said (heard s) ≡ None → section_of_table t (heard s) ≡ []
  unfolding section_of_table
  nothing_section q = ap (section_of_table t) (said_nothing s q)

  module _ (h : Heading) (c : Current s h) where
    pub other_section : same_table t h ≡ false → section_of_table t (heard s) ≡ []
    unfolding section_of_table
    other_section e = ap (section_of_table t) c.is ∙ rw e

    pub own_section : same_table t h ≡ true → section_of_table t (heard s) ≡ section h.number (payload_of s) ∷ []
    unfolding section_of_table
    own_section e = ap (section_of_table t) c.is ∙ rw e

-- ---- its payload

-- as the code cuts it out
pub payload_part : (s : List ℕ) → take (length s - 4 - 8) (drop 8 s) ≡ payload_of s
unfolding payload_of
payload_part s = let e : length s - 4 - 8 ≡ length s - 12 = omega arith in rw e

pub payload_short : (s : List ℕ) → 12 ≤ length s → length s ≤ 4096 → length (payload_of s) ≤ payload_most
unfolding payload_of
payload_short s l h = omega (arith, length-take-le (length s - 12) (drop 8 s) (omega (arith, length-drop 8 s)))
