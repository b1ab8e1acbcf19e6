-- Laws of the sections before the first contradiction: all of them where they agree, and as before where one more comes after a contradiction or is one.
use mathlib.Core.Path.{◌≡◌, refl, sym, ap, ◌∙◌}
use mathlib.Core.Bool.{Bool, true, false, false≢true}
use mathlib.Core.List.Memᴰ
use mathlib.Core.List.{List, [], ◌∷◌, ◌++◌, append_assoc, append-nil, Memᴰ as In}
use Rattle.std.specs.Prelude.{if◌then◌else◌}
use Rattle.gathering_account.specs.Account.{Section, Agree}
use Rattle.gathering_account.specs.Answering.{differs, agreeing, calm_from, undisputed}
use Rattle.gathering_account.proofs.Agreeing.{Alike, differs_not, alike_differs, agreeing_is, agree_agreeing}
use Rattle.gathering_account.proofs.Keeping.{all_more}

-- ---- sections that agree, and one more

pub agree_more : (S : List Section) (s : Section) → agreeing S ≡ true → differs s S ≡ false → agreeing (S ++ s ∷ []) ≡ true
unfolding Agree
agree_more S s a d =
    let f = differs_not s S d in
    let g = agreeing_is S a in
    agree_agreeing (S ++ s ∷ [])
    (λ t u i j.
    all_more (λ (x : Section). (y : Section) → In y (S ++ s ∷ []) → Alike x y) S s
    (λ x k. all_more (Alike x) S s (λ y l. g x y k l) (λ n. sym (f x k (sym n))))
    (all_more (Alike s) S s f (λ n. refl))
    t i u j)

pub agree_first : (B : List Section) (x : Section) (S : List Section) → agreeing (B ++ x ∷ S) ≡ true → differs x B ≡ false
unfolding Agree
agree_first B x S a =
    let g = agreeing_is (B ++ x ∷ S) a in
    alike_differs x B (λ t i. g x t (Memᴰ.append_right B (In.head refl)) (Memᴰ.append_left (x ∷ S) i))

surely : (b : Bool) → (b ≡ false → ⊥) → b ≡ true
surely true f = refl
surely false f = absurd (f refl)

-- ---- from some sections that agree on

pub calm_all : (B S : List Section) → agreeing (B ++ S) ≡ true → calm_from B S ≡ B ++ S
unfolding calm_from
calm_all B [] a = sym (append-nil B)
calm_all B (x ∷ S) a =
    let seam = append_assoc B (x ∷ []) S in
    rw (agree_first B x S a) (calm_all (B ++ x ∷ []) S (ap agreeing seam ∙ a) ∙ seam)

pub calm_stops : (B S U : List Section) → agreeing B ≡ true → agreeing (B ++ S) ≡ false → calm_from B (S ++ U) ≡ calm_from B S
unfolding calm_from
calm_stops B [] U b a = absurd (false≢true (sym a ∙ ap agreeing (append-nil B) ∙ b))
calm_stops B (x ∷ S) U b a =
    go (differs x B) refl (λ e. calm_stops (B ++ x ∷ []) S U (agree_more B x b e) (ap agreeing (append_assoc B (x ∷ []) S) ∙ a))
  where
    go : (d : Bool) → differs x B ≡ d → (differs x B ≡ false → calm_from (B ++ x ∷ []) (S ++ U) ≡ calm_from (B ++ x ∷ []) S)
        → (if d then B else calm_from (B ++ x ∷ []) (S ++ U)) ≡ (if d then B else calm_from (B ++ x ∷ []) S)
    go true e next = refl
    go false e next = next e

pub calm_last : (B S : List Section) (s : Section) → agreeing (B ++ S) ≡ true → agreeing ((B ++ S) ++ s ∷ []) ≡ false → calm_from B (S ++ s ∷ []) ≡ B ++ S
unfolding calm_from
calm_last B [] s b a =
    let b' = sym (ap agreeing (append-nil B)) ∙ b in
    let a' = sym (ap (λ C. agreeing (C ++ s ∷ [])) (append-nil B)) ∙ a in
    rw (surely (differs s B) (λ e. false≢true (sym a' ∙ agree_more B s b' e))) (sym (append-nil B))
calm_last B (x ∷ S) s b a =
    let seam = append_assoc B (x ∷ []) S in
    rw (agree_first B x S b)
    (calm_last (B ++ x ∷ []) S s (ap agreeing seam ∙ b) (ap (λ C. agreeing (C ++ s ∷ [])) seam ∙ a) ∙ seam)

-- ---- of all

agree_none : agreeing [] ≡ true
unfolding agreeing
agree_none = refl

module _ (S : List Section) where
  pub undisputed_all : agreeing S ≡ true → undisputed S ≡ S
  unfolding undisputed
  undisputed_all a = calm_all [] S a

  pub undisputed_more : (s : Section) → agreeing S ≡ false → undisputed (S ++ s ∷ []) ≡ undisputed S
  unfolding undisputed
  undisputed_more s a = calm_stops [] S (s ∷ []) agree_none a

  pub undisputed_clash : (s : Section) → agreeing S ≡ true → agreeing (S ++ s ∷ []) ≡ false → undisputed (S ++ s ∷ []) ≡ S
  unfolding undisputed
  undisputed_clash s b a = calm_last [] S s b a
