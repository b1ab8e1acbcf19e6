-- Whole bodies: what a dry walk from the start says of a body, and what a wet one after it leaves on the tape.
use Prim.Native.Nat.{ℕ, ◌+◌, ◌-◌, ◌≤◌, ◌<◌}
use mathlib.Core.Path.{◌≡◌, refl, sym, ap, ap₂, ◌∙◌, subst}
use mathlib.Core.List.{List}
use mathlib.Core.Bool.{Bool, true, false}
use native.Mathlib.Omega.{arith}
use lib.ListN.{length}
use lib.Dec.{leb, eqb}
use borrow.Author.Tests.{eqb-true, eqb-false}
use Rattle.std.specs.Prelude.{if◌then◌else◌, Result, Ok, Err, IsErr, IsErrAnd}
use Rattle.ground_placing.specs.Placed.{placed}
use Rattle.ground_refusal.specs.declared.Refusal.{Refusal}
use Rattle.ground_refusal.proofs.Exits.{passed_on}
use Rattle.ground_refusal.specs.declared.Refusal.TheVariants.{OtherKind, OutputTooSmall, TooLarge}
use Rattle.body_formats.specs.Reading.{need}
use Rattle.body_formats.specs.Format.{Format, nothing}
use Rattle.body_formats.specs.Answers.{step_of}
use Rattle.ground_numbers.specs.Sizes.{body_most}
use Rattle.body_formats.specs.Body.{reading, body_read, opened}
use Rattle.body_formats.proofs.Outcomes.{found_inj}
use Rattle.body_formats.proofs.Classes.{Bytes}
use Rattle.body_formats.proofs.Readers.{body_no}
use Rattle.body_formats.proofs.Laying.{table, LaidOut, laid_no, laid_small, laid_done}
use Rattle.body_walk.specs.Walked.{Walked, body_end, entries_needed}
use Rattle.body_walk.proofs.Pairs.{went_on, stopped}

-- an opened body is read from its start
reading_is : {A : Type 0} (F : Format A) (own kind : ℕ) (s : List ℕ) (q : ℕ) → Ok q ≡ opened own kind s → reading F own kind s ≡ F.parse s (length s) 0
unfolding opened body_read reading nothing
reading_is {A} F own kind s q o = go (eqb kind own) (leb (length s) body_most) o
  where
    go : (a b : Bool) → Ok q ≡ step_of (need a OtherKind (need b TooLarge (nothing.parse s (length s) 0)))
        → need a OtherKind (need b TooLarge (F.parse s (length s) 0)) ≡ F.parse s (length s) 0
    go true true e = refl
    go true false e = absurd (let z : ◌≡◌ {A = ℕ} 0 1 = cc in omega arith)
    go false b e = absurd (let z : ◌≡◌ {A = ℕ} 0 1 = cc in omega arith)

-- a body that is not opened
pub lay_shut : {A : Type 0} {F : Format A} (own kind : ℕ) {s tape : List ℕ} {x : Result ℕ Refusal} {e : Refusal} {r : Result ℕ Refusal} → x ≡ Err e → x ≡ opened own kind s
    → IsErr r × IsErrAnd r (λ y. y ≡ e) → LaidOut F own kind s tape tape r
lay_shut {A} {F} own kind {s} {tape} {e = e} h o p = rw (passed_on p) (laid_no F own kind s tape e (body_no _ _ _ _ _ (sym h ∙ o)))

module _ {A : Type 0} {F : Format A} (own kind : ℕ) {s : List ℕ} {q : ℕ} (o : Ok q ≡ opened own kind s) where
  module _ {room : ℕ} {wet : Bool} {t : List ℕ} {y : Result (ℕ × ℕ) Refusal} {t' : List ℕ} (w : Walked F s (length s) (Ok (0, room)) wet t y t') where
    read_stop : {e : Refusal} → y ≡ Err e → Err e ≡ body_read F own kind s
    unfolding body_read
    read_stop h = ap step_of (sym (reading_is F own kind s q o ∙ stopped w h))

    read_end_lem : {end left : ℕ} → y ≡ Ok (end, left) → Ok end ≡ body_read F own kind s
    unfolding body_read
    read_end_lem h = ap step_of (sym (reading_is F own kind s q o ∙ (went_on w h).1))

    -- the walk's answer is the reader's
    pub read_walked : {r : Result ℕ Refusal} → r ≡ body_end y → r ≡ body_read F own kind s
    read_walked e = e ∙ go y refl
      where
        go : (z : Result (ℕ × ℕ) Refusal) → y ≡ z → body_end z ≡ body_read F own kind s
        go (Ok (end, left)) h = read_end_lem h
        go (Err r) h = read_stop h

  -- laying: a dry walk, and where all fits a wet one
  module _ {tape : List ℕ} {y : Result (ℕ × ℕ) Refusal} {mid : List ℕ} (w : Walked F s (length s) (Ok (0, length tape + 1)) false tape y mid) where
    unlaid : {r : Result ℕ Refusal} → LaidOut F own kind s tape tape r → LaidOut F own kind s tape mid r
    unlaid {r} d = subst (λ now. LaidOut F own kind s tape now r) (sym (w.dry refl)) d

    lay_stop : {e : Refusal} → y ≡ Err e → LaidOut F own kind s tape mid (Err e)
    lay_stop {e} h = unlaid (laid_no F own kind s tape e (read_stop w h))

    module _ {end left : ℕ} (h : y ≡ Ok (end, left)) where
      -- what was walked is the body's table
      entries : F.tape (went_on w h).0 0 ≡ F.tape (table F own kind s end (read_end_lem w h)).0 0
      entries = ap (λ a. F.tape a 0) (found_inj (sym (went_on w h).1 ∙ sym (reading_is F own kind s q o) ∙ (table F own kind s end (read_end_lem w h)).1)).0

      lay_small : left ≡ 0 → LaidOut F own kind s tape mid (Err OutputTooSmall)
      lay_small z = unlaid (laid_small F own kind s tape end (read_end_lem w h) (length (F.tape (went_on w h).0 0)) (ap length entries) (omega (arith, (went_on w h).2)))

      lay_done : Bytes s → 0 < left → {z : Result (ℕ × ℕ) Refusal} {tape' : List ℕ} → Walked F s (length s) (Ok (0, length tape + 1)) true mid z tape' → {n : ℕ}
          → n ≡ length tape + 1 - left
          → LaidOut F own kind s tape tape' (Ok n)
      lay_done b fits {z} {tape'} v {n} e =
          let a = went_on w h in
          let same = w.dry refl in
          let small : length (F.tape a.0 0) ≤ length tape = omega (arith, a.2) in
          let start : length mid + 1 - (length tape + 1) ≡ 0 = omega (arith, ap length same) in
          let put = v.laid refl 0 (length tape + 1) refl (record { bytes = b; part = omega arith; here = omega arith }) a.0 end a.1 (omega arith) (omega (arith, ap length same)) in
          laid_done F own kind s tape end (read_end_lem w h) n (omega (arith, a.2, ap length entries)) (omega (arith, a.2)) tape'
          (put ∙ ap₂ (λ d k. placed d k (F.tape a.0 0)) same start ∙ ap (placed tape 0) entries)

    -- what the dry walk says decides: why nothing is laid, or how many entries the wet one lays
    pub lay_no : {e : Refusal} {r : Result ℕ Refusal} → Err e ≡ entries_needed (length tape + 1) y → IsErr r × IsErrAnd r (λ z. z ≡ e) → LaidOut F own kind s tape mid r
    lay_no {e} g p = rw (passed_on p) (go y refl g)
      where
        small : (end left : ℕ) → y ≡ Ok (end, left) → (t : Bool) → (t ≡ true → left ≡ 0)
            → Err e ≡ (if t then Err OutputTooSmall else Ok (length tape + 1 - left))
            → LaidOut F own kind s tape mid (Err e)
        small end left h true z k = subst (λ r. LaidOut F own kind s tape mid r) (sym k) (lay_small h (z refl))
        small end left h false z k = absurd (let z : ◌≡◌ {A = ℕ} 0 1 = cc in omega arith)

        go : (x : Result (ℕ × ℕ) Refusal) → y ≡ x → Err e ≡ entries_needed (length tape + 1) x → LaidOut F own kind s tape mid (Err e)
        go (Ok (end, left)) h k = small end left h (eqb left 0) (eqb-true left 0) k
        go (Err r) h k = subst (λ r. LaidOut F own kind s tape mid r) (sym k) (lay_stop h)

    module _ {n : ℕ} (g : Ok n ≡ entries_needed (length tape + 1) y) (b : Bytes s) where
      pub lay_all : {z : Result (ℕ × ℕ) Refusal} {tape' : List ℕ} → Walked F s (length s) (Ok (0, length tape + 1)) true mid z tape' → LaidOut F own kind s tape tape' (Ok n)
      lay_all {z} {tape'} v = go y refl g
        where
          fits : (end left : ℕ) → y ≡ Ok (end, left) → (t : Bool) → (t ≡ false → left ≡ 0 → ⊥)
              → Ok n ≡ (if t then Err OutputTooSmall else Ok (length tape + 1 - left))
              → LaidOut F own kind s tape tape' (Ok n)
          fits end left h false f k = lay_done h b (let z = f refl in omega (arith, z)) v (let z : n ≡ length tape + 1 - left = cc in z)
          fits end left h true f k = absurd (let z : ◌≡◌ {A = ℕ} 0 1 = cc in omega arith)

          go : (x : Result (ℕ × ℕ) Refusal) → y ≡ x → Ok n ≡ entries_needed (length tape + 1) x → LaidOut F own kind s tape tape' (Ok n)
          go (Ok (end, left)) h k = fits end left h (eqb left 0) (eqb-false left 0) k
          go (Err r) h k = absurd (let z : ◌≡◌ {A = ℕ} 0 1 = cc in omega arith)
