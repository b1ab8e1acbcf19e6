-- Laws of commands: what a tag says of the content, and a command walked by its tag.
use Prim.Native.Nat.{ℕ}
use Rattle.std.specs.Prelude.{Result, Ok, Err, IsErr, IsErrAnd}
use Rattle.ground_refusal.specs.declared.Refusal.{Refusal}
use mathlib.Core.Path.{◌≡◌, sym, ap, ◌∙◌, subst}
use mathlib.Core.List.{List}
use mathlib.Core.Bool.{Bool}
use Rattle.body_formats.specs.Format.{number, least_of}
use Rattle.body_formats.proofs.Parts.{number_lawful}
use Rattle.body_walk.specs.Walked.{Walked, Counted, walk_of, beside, entered}
use Rattle.body_walk.proofs.Pairs.{stays, exits}
use Rattle.body_walk.proofs.Counts.{counted_walk, told_walk, told_stop}
use Rattle.configuration.specs.Configuration.{other, order_of, said, least, command}
use Rattle.configuration.proofs.Orders.{other_tag}
use Rattle.configuration.proofs.Lawful.{said_filling, content_counts, content_lawful}

module _ (tag : ℕ) {s : List ℕ} {l : ℕ} {x : Result (ℕ × ℕ) Refusal} {wet : Bool} {t : List ℕ} {r : Result (ℕ × ℕ) Refusal} {t' : List ℕ} where
  pub by_tag : (k : ℕ) → tag ≡ k → Walked (said (order_of k)) s l x wet t r t' → Walked (said (order_of tag)) s l x wet t r t'
  by_tag k e w = subst (λ n. Walked (said (order_of n)) s l x wet t r t') (sym e) w

  pub by_other : (tag ≡ 1 → ⊥) → (tag ≡ 2 → ⊥) → (tag ≡ 3 → ⊥) → (tag ≡ 4 → ⊥) → (tag ≡ 5 → ⊥) → (tag ≡ 6 → ⊥) → (tag ≡ 7 → ⊥)
      → Walked (said other) s l x wet t r t' → Walked (said (order_of tag)) s l x wet t r t'
  by_other a b c d e f g w = subst (λ order. Walked (said order) s l x wet t r t') (sym (other_tag tag a b c d e f g)) w

-- the tag, then into a content that is not shorter than its least, and what the tag says fills it
module _ {s : List ℕ} {l : ℕ} {x : Result (ℕ × ℕ) Refusal} {wet : Bool} {t : List ℕ} {c : Result ((ℕ × ℕ) × ℕ) Refusal} {t₁ : List ℕ} (u : Counted (number 1) s l x wet t c t₁) where
  pub tag_stop : {e : Refusal} {r : Result (ℕ × ℕ) Refusal} → c ≡ Err e → IsErr r × IsErrAnd r (λ y. y ≡ e) → Walked command s l x wet t r t₁
  unfolding command
  tag_stop h p = told_stop (number_lawful 1) (λ tag. (content_lawful tag).formal) h p u

  module _ {at : ℕ × ℕ} {tag m : ℕ} {o : Result ((ℕ × ℕ) × ℕ) Refusal} (f : c ≡ Ok (at, tag)) (e : m ≡ least tag) (h : o ≡ entered (least_of 2 m) s l (Ok at)) where
    whole : {r : Result (ℕ × ℕ) Refusal} {t₂ : List ℕ} → Walked (said (order_of tag)) s (beside o) (walk_of o) wet t₁ r t₂ → Walked command s l x wet t r t₂
    unfolding command
    whole w =
        told_walk (number_lawful 1) (λ tag. (content_lawful tag).formal) (rw f at u)
        (counted_walk (content_counts tag) (said_filling (order_of tag)) (h ∙ ap (λ n. entered (least_of 2 n) s l (Ok at)) e) w)

    pub content_stop : {g : Refusal} {r : Result (ℕ × ℕ) Refusal} → o ≡ Err g → IsErr r × IsErrAnd r (λ y. y ≡ g) → Walked command s l x wet t r t₁
    content_stop i p = exits p (whole (let w : Walked (said (order_of tag)) s (beside o) (walk_of o) wet t₁ _ t₁ = stays (ap walk_of i) in w))

    pub command_walk : {inside : ℕ × ℕ} {end : ℕ} {r : Result (ℕ × ℕ) Refusal} {t₂ : List ℕ} → o ≡ Ok (inside, end)
        → Walked (said (order_of tag)) s end (Ok inside) wet t₁ r t₂ → Walked command s l x wet t r t₂
    command_walk i w = whole (rw i w)
