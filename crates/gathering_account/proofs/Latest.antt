-- The account of a run is that of the latest section that began a table: each one more that is fed counts, leaves all as it was, or begins.
use Prim.Native.Nat.{ℕ}
use mathlib.Core.Path.{◌≡◌, refl, sym, ◌∙◌, ap}
use mathlib.Core.Bool.{Bool, true, false}
use mathlib.Core.List.Memᴰ
use mathlib.Core.List.{List, [], ◌∷◌, ◌++◌, append-nil, append_assoc, Memᴰ as In}
use Rattle.ground_choices.proofs.Tests.{refuted}
use Rattle.section_reader.specs.declared.Heading.{Heading}
use Rattle.gathering_tables.specs.Tables.{same_table, is_newer}
use Rattle.gathering_tables.proofs.Tables.{same_not_newer}
use Rattle.gathering_account.specs.Account.{good_current, heard, Section, Account, idle, table, account_after, account}
use Rattle.gathering_account.specs.Latest.{begins_after, section_of_table, sections_of_table, Latest, none_begun, begun_with, NoneNewer}
use Rattle.gathering_account.proofs.Hearing.{counted_nothing, counted_first, counted_none, counted_same, counted_other}
use Rattle.gathering_account.proofs.Keeping.{all_more}
use Rattle.gathering_account.proofs.Standing.{never}
use Rattle.gathering_account.proofs.Growing.{HeardIs, hears_nothing, hears, heard_is, silent, heard_same, account_append}

pub sections_append : (t : Heading) (xs ys : List (List ℕ)) → sections_of_table t (xs ++ ys) ≡ sections_of_table t xs ++ sections_of_table t ys
unfolding sections_of_table
sections_append t [] ys = refl
sections_append t (x ∷ xs) ys =
    ap (λ (S : List Section). section_of_table t (heard x) ++ S) (sections_append t xs ys)
    ∙ sym (append_assoc (section_of_table t (heard x)) (sections_of_table t xs) (sections_of_table t ys))

-- what a section is to t's table
module _ (t h : Heading) (p : List ℕ) where
  pub own_section : same_table t h ≡ true → section_of_table t (good_current h p) ≡ record { number = h.number; contents = p } ∷ []
  unfolding section_of_table
  own_section e = rw e

  pub no_section : same_table t h ≡ false → section_of_table t (good_current h p) ≡ []
  unfolding section_of_table
  no_section e = rw e

  pub newer_other : is_newer t h ≡ true → same_table t h ≡ false
  newer_other n = sym (refuted (same_table t h) (λ e. never (is_newer t h) n (same_not_newer t h e)))

module _ (room : ℕ → Bool) (done : List (List ℕ)) (s : List ℕ) where
  -- it finds no room
  abbrev Unroomed : List ℕ → Type 0
  Unroomed r = (h : Heading) (p : List ℕ) → heard r ≡ good_current h p → room h.last ≡ false

  -- it begins its table
  begins : (a : Account) → a ≡ account room idle done → (h : Heading) (p : List ℕ) → heard s ≡ good_current h p → room h.last ≡ true → begins_after a h ≡ true
      → Latest room (done ++ s ∷ []) (account_after room a (heard s))
  unfolding sections_of_table
  begins a q h p e r b = rw (e, counted_first room h p r a b) (begun_with done [] s refl h p e r (rw q at b) (λ x i. absurd (Memᴰ.not-nil i)))

  -- after none that found room
  module _ (q : idle ≡ account room idle done) (none : (r : List ℕ) → In r done → Unroomed r) where
    still_none : Unroomed s → account_after room idle (heard s) ≡ idle → Latest room (done ++ s ∷ []) (account_after room idle (heard s))
    still_none f e = rw e (none_begun (all_more Unroomed done s none f))

    after_none : HeardIs s → Latest room (done ++ s ∷ []) (account_after room idle (heard s))
    unfolding begins_after
    after_none (hears_nothing e) = still_none (λ h p f. silent s h p e f) (ap (account_after room idle) e ∙ counted_nothing room idle)
    after_none (hears h p e) = go (room h.last) refl
      where
        go : (b : Bool) → room h.last ≡ b → Latest room (done ++ s ∷ []) (account_after room idle (heard s))
        go true r = begins idle q h p e r refl
        go false r =
            still_none (λ i p' f. ap (λ (j : Heading). room j.last) (heard_same s _ _ _ _ f e).0 ∙ r)
            (ap (account_after room idle) e ∙ counted_none room h p r idle refl)

  -- after one that began a table
  module _ (before after : List (List ℕ)) (r : List ℕ) (is : done ≡ before ++ r ∷ after) (t : Heading) (p : List ℕ) (e : heard r ≡ good_current t p)
      (roomy : room t.last ≡ true) (b : begins_after (account room idle before) t ≡ true) where
    -- if it is newer it finds no room
    abbrev Behind : List ℕ → Type 0
    Behind x = (h : Heading) (q : List ℕ) → heard x ≡ good_current h q → is_newer t h ≡ true → room h.last ≡ false

    abbrev S : List Section
    S = record { number = t.number; contents = p } ∷ sections_of_table t after

    module _ (behind : (x : List ℕ) → In x after → Behind x) where
      -- the table has these sections more
      further : (X : List Section) → section_of_table t (heard s) ≡ X → Behind s → account_after room (table t S) (heard s) ≡ table t (S ++ X)
          → Latest room (done ++ s ∷ []) (account_after room (table t S) (heard s))
      unfolding sections_of_table
      further X x f a =
          let more : sections_of_table t (after ++ s ∷ []) ≡ sections_of_table t after ++ X =
          sections_append t after (s ∷ []) ∙ ap (λ (Y : List Section). sections_of_table t after ++ Y) (append-nil (section_of_table t (heard s)) ∙ x) in
          rw (a, ← more)
          (begun_with before (after ++ s ∷ []) r (ap (λ (xs : List (List ℕ)). xs ++ s ∷ []) is ∙ append_assoc before (r ∷ after) (s ∷ [])) t p e roomy b
          (all_more Behind after s behind f))

      unmoved : section_of_table t (heard s) ≡ [] → Behind s → account_after room (table t S) (heard s) ≡ table t S
          → Latest room (done ++ s ∷ []) (account_after room (table t S) (heard s))
      unmoved x f a = further [] x f (a ∙ ap (table t) (sym (append-nil S)))

      after_one : table t S ≡ account room idle done → HeardIs s → Latest room (done ++ s ∷ []) (account_after room (table t S) (heard s))
      unfolding begins_after section_of_table
      after_one q (hears_nothing f) =
          unmoved (ap (section_of_table t) f) (λ h x g. silent s h x f g) (ap (account_after room (table t S)) f ∙ counted_nothing room (table t S))
      after_one q (hears h x f) = go (is_newer t h) refl (room h.last) refl (same_table t h) refl
        where
          heading : (i : Heading) (y : List ℕ) → heard s ≡ good_current i y → i ≡ h
          heading i y g = (heard_same s _ _ _ _ g f).0

          go : (newer : Bool) → is_newer t h ≡ newer → (has : Bool) → room h.last ≡ has → (same : Bool) → same_table t h ≡ same
              → Latest room (done ++ s ∷ []) (account_after room (table t S) (heard s))
          go true n true m same k = begins (table t S) q h x f m n
          go true n false m same k =
              unmoved (ap (section_of_table t) f ∙ no_section t h x (newer_other t h x n))
              (λ i y g z. ap (λ (j : Heading). room j.last) (heading i y g) ∙ m)
              (ap (account_after room (table t S)) f ∙ counted_none room h x m (table t S) n)
          go false n has m true k =
              further _ (ap (section_of_table t) f ∙ own_section t h x k)
              (λ i y g z. never (is_newer t h) (ap (is_newer t) (sym (heading i y g)) ∙ z) n)
              (ap (account_after room (table t S)) f ∙ counted_same room h x t S k)
          go false n has m false k =
              unmoved (ap (section_of_table t) f ∙ no_section t h x k)
              (λ i y g z. never (is_newer t h) (ap (is_newer t) (sym (heading i y g)) ∙ z) n)
              (ap (account_after room (table t S)) f ∙ counted_other room h x t S n k)

module _ (room : ℕ → Bool) where
  step : (done : List (List ℕ)) (s : List ℕ) (a : Account) → a ≡ account room idle done → Latest room done a
      → Latest room (done ++ s ∷ []) (account_after room a (heard s))
  step done s a q (none_begun none) = after_none room done s q none (heard_is s)
  step done s a q (begun_with before after r is t p e roomy b behind) = after_one room done s before after r is t p e roomy b behind q (heard_is s)

  more : (fed done : List (List ℕ)) (a : Account) → a ≡ account room idle done → Latest room done a → Latest room (done ++ fed) (account room a fed)
  unfolding account
  more [] done a q l = rw (append-nil done) l
  more (s ∷ fed) done a q l =
      rw (append_assoc done (s ∷ []) fed) at
      (more fed (done ++ s ∷ []) (account_after room a (heard s))
      (ap (λ (b : Account). account_after room b (heard s)) q ∙ sym (account_append room idle done (s ∷ []))) (step done s a q l))

  -- ---- the theorems

  pub latest : (fed : List (List ℕ)) → Latest room fed (account room idle fed)
  unfolding account
  latest fed = more fed [] idle refl (none_begun (λ s i. absurd (Memᴰ.not-nil i)))

  -- without a takeover a table begins where none was fixed
  pub first_alone : (fed : List (List ℕ)) → NoneNewer fed → (before after : List (List ℕ)) (s : List ℕ) → fed ≡ before ++ s ∷ after
      → (h : Heading) (p : List ℕ) → heard s ≡ good_current h p → begins_after (account room idle before) h ≡ true → account room idle before ≡ idle
  unfolding NoneNewer begins_after
  first_alone fed none before after s is h p e = go (account room idle before) (latest before)
    where
      go : (a : Account) → Latest room before a → begins_after a h ≡ true → a ≡ idle
      go a (none_begun f) b = refl
      go a (begun_with front rest r cut t q f roomy first behind) b =
          let r_in : In r fed = rw (is, cut) (Memᴰ.append_left (s ∷ after) (Memᴰ.append_right front (Memᴰ.head refl))) in
          let s_in : In s fed = rw is (Memᴰ.append_right before (Memᴰ.head refl)) in
          never (is_newer t h) b (none r s r_in s_in t h q p f e)
