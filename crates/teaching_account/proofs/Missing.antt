-- What the quick gathering counts as missing is what the account lacks: a number is held exactly if a section of it is there.
use Prim.Native.Nat.{ℕ, zero, suc, ◌+◌, ◌-◌, ◌≤◌, ◌<◌}
use mathlib.Core.Path.{◌≡◌, refl, sym, ap, ap₂, ◌∙◌}
use mathlib.Core.Bool.{Bool, true, false, false≢true}
use mathlib.Core.List.{List, [], ◌∷◌, ◌++◌}
use native.Mathlib.Omega.{arith}
use borrow.Author.Tests.{eq-eqb, ne_eqb, eqb-true, eqb-false}
use lib.Dec.{eqb}
use lib.ListN.{length, get_or, take}
use lib.Seq.{take-suc}
use Rattle.std.specs.Prelude.{if◌then◌else◌}
use Rattle.ground_choices.proofs.Tests.{refuted}
use Rattle.gathering_state.specs.Lists.{held_count}
use Rattle.gathering_state.specs.State.{lengths}
use Rattle.gathering_state.specs.declared.Gathering.{Gathering}
use Rattle.section_reader.specs.declared.Heading.{Heading}
use Rattle.gathering_account.specs.Account.{Section, Account, idle, table, Present}
use Rattle.gathering_account.specs.Answering.{present}
use Rattle.gathering_account.specs.Gathers.{Box}
use Rattle.gathering_account.proofs.Agreeing.{present_is, is_present, agree_agreeing}
use Rattle.gathering_account.proofs.Undisputed.{undisputed_all}
use Rattle.gathering_account.proofs.Keeping.{Kept, kept_agree}
use Rattle.gathering_account.proofs.Standing.{Fixed, Stands, fresh_stands, calm_stands, spoiled_stands}
use Rattle.teaching_questions.specs.Questions.{absent_from, absent_count}
use Rattle.teaching_hand_out.specs.Asking.{lacking_table, lacking_to}
use Rattle.teaching_account.specs.Lockstep.{SameMissing}

-- ---- one number

module _ {g : Gathering} {store : List ℕ} {S : List Section} (kept : Kept g store S) (k : ℕ) where
  -- a number is there if it is held, and not if it is not
  held_there : (get_or g.held k 0 ≡ 0 → ⊥) → present k S ≡ true
  held_there h = is_present k S (kept.only k h)

  unheld_absent : get_or g.held k 0 ≡ 0 → present k S ≡ false
  unfolding Present
  unheld_absent z =
      sym (refuted (present k S) (λ e. let x = present_is k S e in kept.held x.0 x.1 (ap (λ j. get_or g.held j 0) x.2 ∙ z)))

  there_held : present k S ≡ true → get_or g.held k 0 ≡ 0 → ⊥
  there_held e z = false≢true (sym (unheld_absent z) ∙ e)

-- ---- the count

held_last : (xs : List ℕ) (x : ℕ) → held_count (xs ++ x ∷ []) ≡ held_count xs + (if eqb x 0 then 0 else 1)
unfolding held_count
held_last [] x = go (eqb x 0)
  where
    go : (b : Bool) → (if b then 0 else 1) ≡ 0 + (if b then 0 else 1)
    go true = refl
    go false = refl
held_last (y ∷ xs) x = go (eqb y 0) (held_last xs x)
  where
    go : (b : Bool) → held_count (xs ++ x ∷ []) ≡ held_count xs + (if eqb x 0 then 0 else 1)
        → (if b then held_count (xs ++ x ∷ []) else suc (held_count (xs ++ x ∷ [])))
        ≡ (if b then held_count xs else suc (held_count xs)) + (if eqb x 0 then 0 else 1)
    go true e = e
    go false e = ap suc e ∙ omega arith

module _ {g : Gathering} {store : List ℕ} {S : List Section} (kept : Kept g store S) where
  -- one number more is missing or held
  one_more : (n : ℕ) → (if present n S then 0 else 1) + (if eqb (get_or g.held n 0) 0 then 0 else 1) ≡ 1
  one_more n = go (eqb (get_or g.held n 0) 0) refl
    where
      go : (b : Bool) → eqb (get_or g.held n 0) 0 ≡ b → (if present n S then 0 else 1) + (if b then 0 else 1) ≡ 1
      go true e = rw (unheld_absent kept n (eqb-true _ _ e))
      go false e = rw (held_there kept n (eqb-false _ _ e))

  absent_none : absent_count 0 S + held_count (take 0 g.held) ≡ 0
  unfolding absent_count held_count
  absent_none = refl

  absent_next : (n : ℕ) → absent_count (suc n) S ≡ absent_count n S + (if present n S then 0 else 1)
  unfolding absent_count
  absent_next n = refl

  absent_held : (n : ℕ) → n ≤ length g.held → absent_count n S + held_count (take n g.held) ≡ n
  absent_held zero h = absent_none
  absent_held (suc n) h =
      let before = absent_held n (omega arith) in
      let more = ap held_count (take-suc g.held n 0 (omega arith)) ∙ held_last (take n g.held) (get_or g.held n 0) in
      omega (arith, before, more, absent_next n, one_more n)

-- ---- by what a box stands for

-- the state's count, of the sections that it keeps
counted : {g : Gathering} {store : List ℕ} {bytes : ℕ} {t : Heading} {S : List Section} → Fixed g bytes t → Kept g store S
    → g.missing ≡ absent_count (t.last + 1) S
unfolding lengths
counted {g} {store} {bytes} {t} {S} x kept =
    let all = absent_held kept (t.last + 1) (omega (arith, x.long, x.last_high)) in
    let count = x.begun.of_table.missing ∙ ap (λ n. n + 1 - held_count (take (n + 1) g.held)) x.same.last in
    omega (arith, all, count)

pub stands_missing : {bytes : ℕ} {box : Box} {a : Account} → Stands bytes box a → SameMissing (lacking_to a) box.state
unfolding SameMissing lacking_to lacking_table
stands_missing (fresh_stands z l) = (refl, z)
stands_missing (spoiled_stands {t} {S} x l z d kept) = counted x kept
stands_missing (calm_stands {t} {S} x l z kept) = rw (undisputed_all S (agree_agreeing S (kept_agree kept))) (counted x kept)
