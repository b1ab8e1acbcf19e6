-- The words of the request: what it is to concern a box, to be on, and to come first.
use Prim.Native.Nat.{ℕ, zero, suc, ◌<◌}
use Rattle.std.specs.Prelude.{Result, Ok, Err}
use Rattle.ground_refusal.specs.declared.Refusal.{Refusal}
use mathlib.Core.Path.{◌≡◌, refl, sym, ap, ◌∙◌}
use mathlib.Core.Bool.{Bool, true, false, ◌&&◌, ◌||◌, cond, false≢true}
use mathlib.Core.List.{List, [], ◌∷◌}
use native.Mathlib.Omega.{arith}
use borrow.Author.Tests.{eqb-true, eqb-false, ltb-true, lt-ltb}
use lib.Dec.{ltb, eqb}
use lib.ListN.{length, get_or}
use Rattle.time_fields.specs.Field.{moment_of}
use Rattle.time_fields.specs.Showing.{earlier, showing}
use Rattle.time_fields.specs.declared.Moment.{Moment}
use Rattle.time_fields.specs.declared.Showing.{Showing}
use Rattle.time_fields.specs.declared.Showing.TheVariants.{Before, On, Ended}
use Rattle.index.specs.Index.{Message}
use Rattle.screen_order.specs.Order.{comes_first, rank_by}
use Rattle.screen_order.proofs.Order as order
use Rattle.screen_code.specs.Code.{same, has}
use Rattle.screen_code.proofs.Same.{both, same_refl, same_is}
use Rattle.screen_choice.specs.Choice.{concerns, is_on, eligible, rank}
use Rattle.screen_promises.specs.Promise.{Words}

-- ---- to concern a box

has_one : (code : List ℕ) (rs : List (List ℕ)) → has code rs ≡ true → (k : ℕ) × (k < length rs) × (get_or rs k [] ≡ code)
unfolding has
has_one code [] e = absurd (false≢true e)
has_one code (r ∷ rs) e = go (same r code) refl (has_one code rs) e
  where
    go : (t : Bool) → same r code ≡ t → (has code rs ≡ true → (k : ℕ) × (k < length rs) × (get_or rs k [] ≡ code)) → (t || has code rs) ≡ true
        → (k : ℕ) × (k < length (r ∷ rs)) × (get_or (r ∷ rs) k [] ≡ code)
    go true s f e = (0, omega arith, same_is r code s)
    go false s f e = let x = f e in (suc x.0, (let h = x.1 in omega arith), x.2)

one_has : (code : List ℕ) (rs : List (List ℕ)) (k : ℕ) → k < length rs → get_or rs k [] ≡ code → has code rs ≡ true
unfolding has
one_has code [] k h e = absurd (omega arith)
one_has code (r ∷ rs) zero h e = rw (ap (λ (c : List ℕ). same c code) e ∙ same_refl code)
one_has code (r ∷ rs) (suc k) h e = go (same r code) (one_has code rs k (omega arith) e)
  where
    go : (t : Bool) → has code rs ≡ true → (t || has code rs) ≡ true
    go true f = refl
    go false f = f

-- ---- to be on

on_is : (x : Result Showing Refusal) → is_on x ≡ true → x ≡ Ok On
on_is (Ok On) e = refl
on_is (Ok Before) e = absurd (false≢true e)
on_is (Ok Ended) e = absurd (false≢true e)
on_is (Err r) e = absurd (false≢true e)

-- ---- to come first

starts_first : (i j : ℕ) (a b : Message) → a.level ≡ b.level → earlier (moment_of a.start) (moment_of b.start) ≡ true
    → comes_first (rank i a) (rank j b) ≡ true
unfolding rank rank_by earlier
starts_first i j a b l e = sym (order.agrees _ _ _ _ l) ∙ go (eqb d d') refl e
  where
    d : ℕ
    d = (moment_of a.start).day

    d' : ℕ
    d' = (moment_of b.start).day

    s : ℕ
    s = (moment_of a.start).second

    s' : ℕ
    s' = (moment_of b.start).second

    go : (t : Bool) → eqb d d' ≡ t → cond t (ltb s s') (ltb d d') ≡ true → comes_first (d ∷ s ∷ i ∷ []) (d' ∷ s' ∷ j ∷ []) ≡ true
    go true p f =
        let h = ltb-true s s' f in
        sym (order.agrees d d' _ _ (eqb-true d d' p)) ∙ sym (order.differs s s' _ _ (λ z. omega arith)) ∙ f
    go false p f = sym (order.differs d d' _ _ (eqb-false d d' p)) ∙ f

pub words : Words
unfolding concerns eligible rank rank_by
words =
    record {
      concerns_exactly = λ code m. (has_one code m.resources, λ x. one_has code m.resources x.0 x.1 x.2);
      eligible_exactly = λ code present m. (
        (λ e. let f = both (concerns code m) (is_on (showing m.start m.end present)) e in (f.0, on_is _ f.1)),
        (λ x. rw (x.0, x.1)),
      );
      smallest_level = λ i j a b h. sym (order.differs a.level b.level _ _ (λ z. omega arith)) ∙ lt-ltb a.level b.level h;
      earliest_start = starts_first;
      first_in_table = λ i j a b l m h.
          sym (order.agrees _ _ _ _ l) ∙ sym (order.agrees _ _ _ _ (ap (λ (x : Moment). x.day) m))
          ∙ sym (order.agrees _ _ _ _ (ap (λ (x : Moment). x.second) m)) ∙ sym (order.last i j) ∙ lt-ltb i j h;
      one_way = λ i j a b. order.one_way (rank i a) (rank j b);
    }
