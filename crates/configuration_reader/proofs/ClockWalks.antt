-- Laws of days and times of day: three numbers judged together at the first of them.
use Prim.Native.Nat.{ℕ}
use Rattle.std.specs.Prelude.{Result, Ok, Err, IsErr, IsErrAnd}
use Rattle.ground_refusal.specs.declared.Refusal.{Refusal}
use mathlib.Core.Path.{◌≡◌, refl, sym, ap, ◌∙◌}
use mathlib.Core.List.{List}
use mathlib.Core.Bool.{Bool}
use Rattle.ground_refusal.specs.declared.Refusal.TheVariants.{ImpossibleDay}
use Rattle.body_formats.specs.Reading.{found, Fault, unless}
use Rattle.body_formats.specs.Format.{Format, only, count, followed, ◌▷◌}
use Rattle.body_formats.proofs.Outcomes.{found_inj, and_then_found}
use Rattle.body_formats.proofs.Leaves.{count_lawful}
use Rattle.body_formats.proofs.Parts.{followed_lawful}
use Rattle.body_walk.specs.Walked.{walk_onward, walked, walk_of, beside, judged_from, Walked, Counted}
use Rattle.body_walk.proofs.Pairs.{exits, walked_at, pair, judged_stop, only_walk}
use Rattle.body_walk.proofs.Counts.{value_found, stays_told}
use Rattle.configuration.specs.Configuration.{plain}

-- the first of two things is the number told, and the second was found where the walk came to
pair_told : {B : Type 0} {C : Format ℕ} (G : Format B) {s : List ℕ} {l : ℕ} {x : Result (ℕ × ℕ) Refusal} {wet : Bool} {t : List ℕ} {c : Result ((ℕ × ℕ) × ℕ) Refusal} {t₁ : List ℕ}
    → Counted C s l x wet t c t₁ → (z : ℕ × B) (p q room : ℕ) → x ≡ Ok (p, room) → (C ▷ G).parse s l p ≡ found z q
    → (z.0 ≡ beside c) × (m left : ℕ) × (walk_of c ≡ Ok (m, left)) × (G.parse s l m ≡ found z.1 q)
unfolding followed
pair_told {B} {C} G {s} {l} u z p q room e h =
    let i = and_then_found (C.parse s l p) _ z q h in
    let j = and_then_found (G.parse s l i.1) _ z q i.3 in
    let k = found_inj j.3 in (
      sym (ap (λ y. y.0) k.0) ∙ sym (value_found u i.0 p i.1 room e i.2),
      i.1,
      _,
      u.past.said ∙ ap (walked C s l) e ∙ walked_at C s l p room ∙ ap (walk_onward C room) i.2,
      j.2 ∙ ap (λ b. found b j.1) (ap (λ y. y.1) k.0) ∙ ap (found z.1) k.1,
    )

module _ (w : ℕ) {fault : ℕ × (ℕ × ℕ) → ℕ → Fault} (test : ℕ → ℕ → ℕ → Bool) (says : (z : ℕ × (ℕ × ℕ)) (at : ℕ) → fault z at ≡ unless (test z.0 z.1.0 z.1.1) (ImpossibleDay at))
    {s : List ℕ} {l : ℕ} {x : Result (ℕ × ℕ) Refusal} {wet : Bool} {t : List ℕ} where
  -- all of them are walked, and then a test of the three decides
  three_told : {a : Result ((ℕ × ℕ) × ℕ) Refusal} {t₁ : List ℕ} {b : Result ((ℕ × ℕ) × ℕ) Refusal} {t₂ : List ℕ} {c : Result ((ℕ × ℕ) × ℕ) Refusal} {t₃ : List ℕ} {r : Result (ℕ × ℕ) Refusal} (holds : Bool)
      → Counted (count w) s l x wet t a t₁ → Counted (count 1) s l (walk_of a) wet t₁ b t₂ → Counted (count 1) s l (walk_of b) wet t₂ c t₃
      → holds ≡ test (beside a) (beside b) (beside c) → r ≡ judged_from ImpossibleDay x holds (walk_of c)
      → Walked (only fault (plain w)) s l x wet t r t₃
  three_told {a} {b = b} {c = c} holds u v k h e =
      only_walk ImpossibleDay holds
      (λ z p q room i f.
      let first = pair_told (count 1 ▷ count 1) u z p q room i f in
      let second = pair_told (count 1) v z.1 first.1 q first.2 first.3 first.4 in
      let third : z.1.1 ≡ beside c = sym (value_found k z.1.1 second.1 q second.2 second.3 second.4) in
      let same : test z.0 z.1.0 z.1.1 ≡ holds = ap (λ y. test y z.1.0 z.1.1) first.0 ∙ ap (λ y. test (beside a) y z.1.1) second.0 ∙ ap (test (beside a) (beside b)) third ∙ sym h in
      says z p ∙ ap (λ y. unless y (ImpossibleDay p)) same)
      (pair (count_lawful w) (followed_lawful _ _ (count_lawful 1) (λ y. count_lawful 1)).formal u.past (pair (count_lawful 1) (count_lawful 1).formal v.past k.past))
      e

  -- the first, the second or the third is refused
  pub first_stop : {a : Result ((ℕ × ℕ) × ℕ) Refusal} {e : Refusal} {t₁ : List ℕ} {r : Result (ℕ × ℕ) Refusal} → a ≡ Err e → IsErr r × IsErrAnd r (λ y. y ≡ e)
      → Counted (count w) s l x wet t a t₁ → Walked (only fault (plain w)) s l x wet t r t₁
  first_stop h p u = exits p (three_told _ (rw h at u) stays_told stays_told refl (judged_stop ImpossibleDay x _))

  module _ {a : Result ((ℕ × ℕ) × ℕ) Refusal} {m : ℕ × ℕ} {i : ℕ} {t₁ : List ℕ} (f : a ≡ Ok (m, i)) (u : Counted (count w) s l x wet t a t₁) where
    pub second_stop : {b : Result ((ℕ × ℕ) × ℕ) Refusal} {e : Refusal} {t₂ : List ℕ} {r : Result (ℕ × ℕ) Refusal} → b ≡ Err e → IsErr r × IsErrAnd r (λ y. y ≡ e)
        → Counted (count 1) s l (Ok m) wet t₁ b t₂ → Walked (only fault (plain w)) s l x wet t r t₂
    second_stop h p v = exits p (three_told _ (rw f at u) (rw h at v) stays_told refl (judged_stop ImpossibleDay x _))

    module _ {b : Result ((ℕ × ℕ) × ℕ) Refusal} {n : ℕ × ℕ} {j : ℕ} {t₂ : List ℕ} (g : b ≡ Ok (n, j)) (v : Counted (count 1) s l (Ok m) wet t₁ b t₂) where
      pub third_stop : {c : Result ((ℕ × ℕ) × ℕ) Refusal} {e : Refusal} {t₃ : List ℕ} {r : Result (ℕ × ℕ) Refusal} → c ≡ Err e → IsErr r × IsErrAnd r (λ y. y ≡ e)
          → Counted (count 1) s l (Ok n) wet t₂ c t₃ → Walked (only fault (plain w)) s l x wet t r t₃
      third_stop h p k = exits p (three_told _ (rw f at u) (rw g at v) (rw h at k) refl (judged_stop ImpossibleDay x _))

      pub three_walk : {c : Result ((ℕ × ℕ) × ℕ) Refusal} {o : ℕ × ℕ} {k : ℕ} {t₃ : List ℕ} {r : Result (ℕ × ℕ) Refusal} {holds : Bool} → c ≡ Ok (o, k)
          → Counted (count 1) s l (Ok n) wet t₂ c t₃ → holds ≡ test i j k → r ≡ judged_from ImpossibleDay x holds (Ok o)
          → Walked (only fault (plain w)) s l x wet t r t₃
      three_walk h k e q = three_told _ (rw f at u) (rw g at v) (rw h at k) e q
