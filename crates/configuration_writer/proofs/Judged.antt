-- Laws of a pen through values that are judged together: the day and the time of the clock, and the bytes of a return address.
use Prim.Native.Nat.{ℕ, ◌+◌, ◌≤◌}
use Rattle.std.specs.Prelude.{Result, Ok, Err}
use mathlib.Core.Path.{◌≡◌, sym, ap, ◌∙◌}
use mathlib.Core.List.{List}
use mathlib.Core.Bool.{true, false, ◌&&◌}
use lib.ListN.{length, take, drop}
use lib.Dec.{leb}
use Rattle.ground_refusal.specs.declared.Refusal.{Refusal}
use Rattle.ground_refusal.specs.declared.Refusal.TheVariants.{PastPart, OutsideSet, ImpossibleDay}
use Rattle.ground_refusal.proofs.Exits.{ok_pair_inj}
use Rattle.time_days.specs.Calendar.{day_of}
use Rattle.body_formats.specs.Reading.{found, refused, Fault, fine, faulty, unless}
use Rattle.body_formats.specs.Format.{Format, span, ◌▷◌, only, rest}
use Rattle.body_formats.proofs.Outcomes.{found_inj}
use Rattle.body_pen.specs.Penned.{penned, counted}
use Rattle.body_pen.proofs.Leaves.{refused_here, span_length, stopped}
use Rattle.body_pen.proofs.Pairs.{form_parts, pair_pen, told, told_pen, untold_pen, only_fine, only_faulty, only_stopped}
use Rattle.configuration_addresses.specs.Address.{length_fits, is_address}
use Rattle.configuration.specs.Configuration.{day_fault, address_fault}

-- ---- three numbers

-- what is wrong with a day, and with a time
abbrev pub date_fault : ℕ → ℕ → ℕ → ℕ → Fault
date_fault year month day at = day_fault (day_of year month day) at

abbrev pub clock_fault : ℕ → ℕ → ℕ → ℕ → Fault
clock_fault hour minute second at = unless (leb hour 23 && (leb minute 59 && leb second 59)) (ImpossibleDay at)

-- one law for both, over what is wrong with three numbers
module _ (judge : ℕ → ℕ → ℕ → ℕ → Fault) (C D E : Format ℕ) (pool tape : List ℕ) (x : Result (ℕ × ℕ) Refusal) where
  -- a refusal of one of them stands
  pub first_stopped : (u : Refusal) → Err u ≡ counted C pool tape x → Err u ≡ penned (only (λ a at. judge a.0 a.1.0 a.1.1 at) (C ▷ (D ▷ E))) pool tape x
  first_stopped u e =
      only_stopped _ (C ▷ (D ▷ E)) pool tape x u (simp pair_pen
      (stopped E pool tape _ u (sym (stopped D pool tape _ u (sym (untold_pen C pool tape x u e))))))

  module _ (a : ℕ × ℕ) (n : ℕ) (p : Ok (a, n) ≡ counted C pool tape x) where
    pub second_stopped : (u : Refusal) → Err u ≡ counted D pool tape (Ok a) → Err u ≡ penned (only (λ a at. judge a.0 a.1.0 a.1.1 at) (C ▷ (D ▷ E))) pool tape x
    second_stopped u e =
        only_stopped _ (C ▷ (D ▷ E)) pool tape x u (simp pair_pen
        (stopped E pool tape _ u (ap (penned D pool tape) (sym (told_pen C pool tape x a n p)) ∙ sym (untold_pen D pool tape (Ok a) u e))))

    module _ (b : ℕ × ℕ) (m : ℕ) (q : Ok (b, m) ≡ counted D pool tape (Ok a)) where
      second_pen : Ok b ≡ penned D pool tape (penned C pool tape x)
      second_pen = told_pen D pool tape (Ok a) b m q ∙ ap (penned D pool tape) (told_pen C pool tape x a n p)

      pub third_stopped : (u : Refusal) → Err u ≡ counted E pool tape (Ok b) → Err u ≡ penned (only (λ a at. judge a.0 a.1.0 a.1.1 at) (C ▷ (D ▷ E))) pool tape x
      third_stopped u e =
          only_stopped _ (C ▷ (D ▷ E)) pool tape x u (simp pair_pen (untold_pen E pool tape (Ok b) u e ∙ ap (penned E pool tape) second_pen))

      module _ (c : ℕ × ℕ) (l : ℕ) (r : Ok (c, l) ≡ counted E pool tape (Ok b)) where
        three_pen : Ok c ≡ penned (C ▷ (D ▷ E)) pool tape x
        three_pen = simp pair_pen (told_pen E pool tape (Ok b) c l r ∙ ap (penned E pool tape) second_pen)

        -- the numbers that the pen went through are those that were told
        three_told : (size k : ℕ) → x ≡ Ok (size, k) → (v : ℕ × (ℕ × ℕ)) (j : ℕ) → (C ▷ (D ▷ E)).form pool tape k ≡ found v j
            → judge v.0 v.1.0 v.1.1 k ≡ judge n m l k
        three_told size k h v j f =
            let f₁ = form_parts C (λ n. D ▷ E) pool tape k v j f in
            let f₂ = form_parts D (λ n. E) pool tape f₁.0 v.1 j f₁.2 in
            let t₁ = told C pool tape x size k h v.0 f₁.0 f₁.1 a n p in
            let t₂ = told D pool tape (Ok a) _ f₁.0 (ap Ok t₁.0) v.1.0 f₂.0 f₂.1 b m q in
            let t₃ = told E pool tape (Ok b) _ f₂.0 (ap Ok t₂.0) v.1.1 j f₂.2 c l r in
            rw (t₁.1, t₂.1, t₃.1)

        pub three_fine : ((at : ℕ) → judge n m l at ≡ fine) → Ok c ≡ penned (only (λ a at. judge a.0 a.1.0 a.1.1 at) (C ▷ (D ▷ E))) pool tape x
        three_fine g = three_pen ∙ sym (only_fine _ (C ▷ (D ▷ E)) pool tape x (λ size k h v j f. three_told size k h v j f ∙ g k))

        -- the refusal stands at the entry of the first number
        pub three_faulty : (refusal : ℕ → Refusal) → ((at : ℕ) → judge n m l at ≡ faulty (refusal at)) → (size at : ℕ) → x ≡ Ok (size, at)
            → Err (refusal at) ≡ penned (only (λ a at. judge a.0 a.1.0 a.1.1 at) (C ▷ (D ▷ E))) pool tape x
        three_faulty refusal g size at s =
            only_faulty _ (C ▷ (D ▷ E)) pool tape x (refusal at) (λ size' k h v j f.
            three_told size' k h v j f ∙ g k ∙ ap (λ i. faulty (refusal i)) (ok_pair_inj (sym h ∙ s)).1) c three_pen

-- ---- the bytes of a return address

module _ (kind : ℕ) (pool tape : List ℕ) (x : Result (ℕ × ℕ) Refusal) (size k : ℕ) (e : x ≡ Ok (size, k)) where
  pub address_none : (r : Refusal) → span pool tape k ≡ refused r → Err r ≡ penned (only (address_fault kind) rest) pool tape x
  unfolding only rest
  address_none r f = refused_here (only (address_fault kind) rest) pool tape x size k e r (rw f)

  module _ (a n : ℕ) (h : a + n ≤ length pool) (f : span pool tape k ≡ found (take n (drop a pool)) (k + 2)) where
    pub address_length_lem : length_fits kind n ≡ false → Err (PastPart k) ≡ penned (only (address_fault kind) rest) pool tape x
    unfolding only rest
    address_length_lem t = refused_here (only (address_fault kind) rest) pool tape x size k e (PastPart k) (rw (f, span_length pool a n h, t))

    laid : rest.form pool tape k ≡ found (take n (drop a pool)) (k + 2)
    unfolding rest
    laid = f

    module _ (t : length_fits kind n ≡ true) where
      pub address_outside : is_address kind (take n (drop a pool)) ≡ false → Err (OutsideSet k) ≡ penned (only (address_fault kind) rest) pool tape x
      unfolding only rest
      address_outside v = refused_here (only (address_fault kind) rest) pool tape x size k e (OutsideSet k) (rw (f, span_length pool a n h, t, v))

      address_fits : (at : ℕ) → is_address kind (take n (drop a pool)) ≡ true → address_fault kind (take n (drop a pool)) at ≡ fine
      address_fits at v = rw (span_length pool a n h, t, v)

      pub address_passed : is_address kind (take n (drop a pool)) ≡ true → penned (only (address_fault kind) rest) pool tape x ≡ penned rest pool tape (Ok (size, k))
      address_passed v =
          rw e
          (only_fine (address_fault kind) rest pool tape (Ok (size, k)) (λ z i g cs j w.
          let l = (ok_pair_inj g).1 in
          ap (λ b. address_fault kind b i) (sym (found_inj (sym laid ∙ ap (rest.form pool tape) l ∙ w)).0) ∙ address_fits i v))
