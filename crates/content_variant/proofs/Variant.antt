-- The laws of variants: what each way through the code answers, and what an opened body's width says.
use Prim.Native.Nat.{ℕ, ◌≤◌, ◌<◌}
use mathlib.Core.Path.{◌≡◌, refl, sym, ap, ◌∙◌}
use mathlib.Core.Bool.{Bool, true, false}
use native.Mathlib.Omega.{arith}
use lib.Dec.{leb, eqb}
use borrow.Author.Tests.{le-leb, lt-leb, leb-true, eq-eqb, ne_eqb, eqb-true}
use Rattle.std.specs.Prelude.{if◌then◌else◌, Result, Ok, Err}
use Rattle.ground_numbers.specs.Sizes.{content_kind, body_most}
use Rattle.ground_refusal.specs.Numbers.{refusal_place}
use Rattle.ground_refusal.specs.declared.Refusal.{Refusal}
use Rattle.ground_refusal.specs.declared.Refusal.TheVariants.{OtherKind, OutsideSet, TooLarge}
use Rattle.content_variant.specs.Variant.{width_of, by_width, opened}

-- ---- the width

module _ (v : ℕ) where
  pub width_24 : v ≡ 24 → Ok 3 ≡ width_of v
  unfolding width_of
  width_24 e = rw (eq-eqb v 24 e)

  pub width_32 : v ≡ 32 → Ok 4 ≡ width_of v
  unfolding width_of
  width_32 e = rw e

  pub no_width : (v ≡ 24 → ⊥) → (v ≡ 32 → ⊥) → Err (OutsideSet 0) ≡ width_of v
  unfolding width_of
  no_width a b = rw (ne_eqb v 24 a, ne_eqb v 32 b)

  -- a width is 3 or 4 bytes
  pub width_most : (w : ℕ) → Ok w ≡ width_of v → w ≤ 4
  unfolding width_of
  width_most w e = go (eqb v 24) (eqb v 32) e
    where
      go : (a b : Bool) → Ok w ≡ (if a then Ok 3 else if b then Ok 4 else Err (OutsideSet 0)) → w ≤ 4
      go true b f = let z : w ≡ 3 = cc in omega arith
      go false true f = let z : w ≡ 4 = cc in omega arith
      go false false f = absurd (let z : ◌≡◌ {A = ℕ} 0 1 = cc in omega arith)

  pub width_place : (r : Refusal) → Err r ≡ width_of v → refusal_place r ≡ 0
  unfolding width_of
  width_place r e = go (eqb v 24) (eqb v 32) e
    where
      go : (a b : Bool) → ◌≡◌ {A = Result ℕ Refusal} (Err r) (if a then Ok 3 else if b then Ok 4 else Err (OutsideSet 0)) → refusal_place r ≡ 0
      go true b f = absurd (let z : ◌≡◌ {A = ℕ} 0 1 = cc in omega arith)
      go false true f = absurd (let z : ◌≡◌ {A = ℕ} 0 1 = cc in omega arith)
      go false false f = let z : r ≡ OutsideSet 0 = cc in ap refusal_place z

-- ---- a body of n bytes

module _ (kind v n : ℕ) where
  pub other_kind : (kind ≡ content_kind → ⊥) → Err OtherKind ≡ opened kind v n
  unfolding opened
  other_kind h = rw (ne_eqb kind content_kind h)

  module _ (e : kind ≡ content_kind) where
    pub short_enough : n ≤ body_most → width_of v ≡ opened kind v n
    unfolding opened
    short_enough h = rw (eq-eqb kind content_kind e, le-leb n body_most h) (go (width_of v))
      where
        go : (x : Result ℕ Refusal) → x ≡ by_width x Ok Err
        go (Ok w) = refl
        go (Err r) = refl

    pub no_variant : (r : Refusal) → Err r ≡ width_of v → Err r ≡ opened kind v n
    unfolding opened
    no_variant r f = rw (eq-eqb kind content_kind e, ← f)

    pub too_large : (w : ℕ) → Ok w ≡ width_of v → body_most < n → Err TooLarge ≡ opened kind v n
    unfolding opened
    too_large w f h = rw (eq-eqb kind content_kind e, ← f, lt-leb n body_most h)

  -- what was asked of an opened body
  module _ (w : ℕ) (e : Ok w ≡ opened kind v n) where
    pub was_asked : (kind ≡ content_kind) × (Ok w ≡ width_of v) × (n ≤ body_most)
    unfolding opened
    was_asked = go (eqb kind content_kind) refl (width_of v) (leb n body_most) refl e
      where
        go : (a : Bool) → eqb kind content_kind ≡ a → (x : Result ℕ Refusal) → (b : Bool) → leb n body_most ≡ b
            → Ok w ≡ (if a then by_width x (λ u. if b then Ok u else Err TooLarge) Err else Err OtherKind)
            → (kind ≡ content_kind) × (Ok w ≡ x) × (n ≤ body_most)
        go true k (Ok u) true l f = (eqb-true kind content_kind k, f, leb-true n body_most l)
        go true k (Ok u) false l f = absurd (let z : ◌≡◌ {A = ℕ} 0 1 = cc in omega arith)
        go true k (Err r) b l f = absurd (let z : ◌≡◌ {A = ℕ} 0 1 = cc in omega arith)
        go false k x b l f = absurd (let z : ◌≡◌ {A = ℕ} 0 1 = cc in omega arith)

    pub opened_most : w ≤ 4
    opened_most = width_most v w was_asked.1

  -- what answers for a wrong kind and for a body that is too long as an opened body's refusals are answered, answers for the variant's width
  module _ (w : ℕ) (e : Ok w ≡ width_of v) {A : Type 0} (wide : ℕ → A) (refuse : Refusal → A) where
    pub opened_width : (eqb kind content_kind ≡ false → refuse OtherKind ≡ wide w) → (eqb kind content_kind ≡ true → leb n body_most ≡ false → refuse TooLarge ≡ wide w)
        → by_width (opened kind v n) wide refuse ≡ wide w
    unfolding opened
    opened_width other large = rw (← e) (go (eqb kind content_kind) (leb n body_most) other large)
      where
        go : (a b : Bool) → (a ≡ false → refuse OtherKind ≡ wide w) → (a ≡ true → b ≡ false → refuse TooLarge ≡ wide w)
            → by_width (if a then (if b then Ok w else Err TooLarge) else Err OtherKind) wide refuse ≡ wide w
        go true true f g = refl
        go true false f g = g refl refl
        go false b f g = f refl

  pub opened_place : (r : Refusal) → Err r ≡ opened kind v n → refusal_place r ≡ 0
  unfolding opened
  opened_place r e = go (eqb kind content_kind) (width_of v) refl (leb n body_most) e
    where
      go : (a : Bool) (x : Result ℕ Refusal) → width_of v ≡ x → (b : Bool)
          → Err r ≡ (if a then by_width x (λ u. if b then Ok u else Err TooLarge) Err else Err OtherKind) → refusal_place r ≡ 0
      go true (Ok u) k true f = absurd (let z : ◌≡◌ {A = ℕ} 0 1 = cc in omega arith)
      go true (Ok u) k false f = let z : r ≡ TooLarge = cc in ap refusal_place z
      go true (Err t) k b f = width_place v r (f ∙ sym k)
      go false x k b f = let z : r ≡ OtherKind = cc in ap refusal_place z
