-- What is promised: of an accepted body by the message that leads, of all others by the order of refusals.
use Prim.Native.Nat.{ℕ, ◌+◌}
use Rattle.std.specs.Prelude.{Result, Ok, Err, Option, Some, None}
use mathlib.Core.Path.{◌≡◌, refl, sym, ap, ap₂, ◌∙◌, subst}
use mathlib.Core.Bool.{Bool, true, false, cond, false≢true}
use mathlib.Core.List.{List}
use native.Mathlib.Omega.{arith}
use lib.ListN.{length}
use Rattle.ground_refusal.specs.Numbers.{refusal_number}
use Rattle.ground_refusal.specs.declared.Refusal.{Refusal}
use Rattle.ground_refusal.specs.declared.Refusal.TheVariants.{DigitAboveNine, ImpossibleDay, OutputTooSmall}
use Rattle.promises.proofs.Exits.{ok_inj, ok_pair_inj, err_inj}
use Rattle.crc.specs.Crc.{AreBytes}
use Rattle.time_fields.specs.Field.{is_instant}
use Rattle.time_fields.specs.declared.Moment.{Moment}
use Rattle.body_formats.specs.Reading.{Reading, found, refused}
use Rattle.body_formats.specs.Answers.{step_of}
use Rattle.body_formats.specs.Body.{reading, body_read}
use Rattle.index.specs.Index.{Message, Index, index, index_kind}
use Rattle.index_fields.specs.Asked.{message_part}
use Rattle.promises.specs.Demand2.{Holds}
use Rattle.promises.proofs.Demand2.{demand2}
use Rattle.screen_code.specs.Code.{is_code}
use Rattle.screen_choice.specs.Choice.{eligible, Numbered, Shown, Leader, nobody, leads, leader, shown_as, answer_of, chosen_in, choice_of}
use Rattle.screen_choice.proofs.Chosen as chosen
use Rattle.screen_promises.specs.Promise.{Allowed, Chooses, Within, is_given, Promise}
use Rattle.screen_promises.proofs.Least.{LeadsOf, leads_all, leads_shown, seen, only_one}
use Rattle.screen_promises.proofs.Words.{words}
use Rattle.screen_promises.proofs.Numbers.{read_given}
use Rattle.screen_promises.proofs.Within.{Parted, parted, few}

-- what stands in an answer that shows one
abbrev Choice : Type 0
Choice = Result (Option (ℕ × ℕ × ℕ)) Refusal

abbrev shown_or : ℕ × ℕ × ℕ → Option (ℕ × ℕ × ℕ) → ℕ × ℕ × ℕ
shown_or y (Some x) = x
shown_or y None = y

shown_inj : {j k a at m n : ℕ} → ◌≡◌ {A = Choice} (Ok (Some (j, a, m))) (Ok (Some (k, at, n))) → (j ≡ k) × (a ≡ at) × (m ≡ n)
shown_inj {j = j} {a = a} {m = m} e =
    let p = ap (shown_or (j, a, m)) (ok_inj e) in
    (ap (λ (x : ℕ × ℕ × ℕ). x.0) p, ap (λ (x : ℕ × ℕ × ℕ). x.1) p, ap (λ (x : ℕ × ℕ × ℕ). x.2) p)

-- ---- of an accepted body

module _ (kind : ℕ) (s code : List ℕ) (present : Moment) (t : Index) (b : AreBytes s) (c : is_code code ≡ true) (i : is_instant present ≡ true)
    (h : Holds index index_kind kind s t) where
  abbrev ms : List Message
  ms = t.messages

  choice_is : choice_of kind s code present ≡ answer_of s (leader code present nobody 0 ms)
  unfolding choice_of
  choice_is = rw (c, i, (demand2.indexes.reads_exactly kind s t b).1 h)

  part : (k : ℕ) (m : Message) → Numbered ms k m → Parted s k
  part k m p = let z : 0 + k ≡ k = omega arith in subst (Parted s) z (parted s b ms 0 1 (chosen.stand kind s b t h) k m p)

  has_part : (k : ℕ) (m : Message) → Numbered ms k m → (at : ℕ) × (n : ℕ) × (message_part s k ≡ Ok (at, n))
  has_part k m p = let r = part k m p in (r.at, r.size, r.is)

  -- what is answered of the one that leads
  shown_then : (l : Leader) → LeadsOf code present ms (length ms) l → (k at n : ℕ) → answer_of s l ≡ Ok (Some (k, at, n))
      → Shown code present ms k × (message_part s k ≡ Ok (at, n))
  shown_then nobody f k at n e = absurd (let z : ◌≡◌ {A = ℕ} 0 1 = cc in omega arith)
  shown_then (leads j m) f k at n e =
      let r = has_part j m f.0.is_there in
      let g = shown_inj (sym (ap (shown_as j) r.2) ∙ e) in
      (subst (Shown code present ms) g.0 (leads_shown code present ms j m f), sym (ap (message_part s) g.0) ∙ r.2 ∙ ap₂ (λ (a b : ℕ). Ok (a, b)) g.1 g.2)

  then_shown : (l : Leader) → LeadsOf code present ms (length ms) l → (k at n : ℕ) → Shown code present ms k → message_part s k ≡ Ok (at, n)
      → answer_of s l ≡ Ok (Some (k, at, n))
  then_shown nobody f k at n a e = absurd (f k a.message (seen code present ms k a.message a.is_there a.may))
  then_shown (leads j m) f k at n a e =
      let z = only_one code present ms j k (leads_shown code present ms j m f) a in
      ap (λ (x : ℕ). shown_as x (message_part s x)) z ∙ ap (shown_as k) e

  none_then : (l : Leader) → LeadsOf code present ms (length ms) l → answer_of s l ≡ (Ok None) → (k : ℕ) (m : Message) → Numbered ms k m
      → eligible code present m ≡ true → ⊥
  none_then nobody f e k m p may = f k m (seen code present ms k m p may)
  none_then (leads j m') f e k m p may =
      let r = has_part j m' f.0.is_there in
      let g : ◌≡◌ {A = Choice} (Ok (Some (j, r.0, r.1))) (Ok None) = sym (ap (shown_as j) r.2) ∙ e in
      let z : ◌≡◌ {A = ℕ} 0 1 = cc in omega arith

  then_none : (l : Leader) → LeadsOf code present ms (length ms) l → ((k : ℕ) (m : Message) → Numbered ms k m → eligible code present m ≡ true → ⊥)
      → answer_of s l ≡ Ok None
  then_none nobody f e = refl
  then_none (leads j m) f e = absurd (e j m f.0.is_there f.0.may)

  never_refused : (l : Leader) → LeadsOf code present ms (length ms) l → (r : Refusal) → answer_of s l ≡ Err r → ⊥
  never_refused nobody f r e = let z : ◌≡◌ {A = ℕ} 0 1 = cc in omega arith
  never_refused (leads j m) f r e =
      let x = has_part j m f.0.is_there in
      let g : ◌≡◌ {A = Choice} (Ok (Some (j, x.0, x.1))) (Err r) = sym (ap (shown_as j) x.2) ∙ e in
      let z : ◌≡◌ {A = ℕ} 0 1 = cc in omega arith

  chooses : Chooses kind s code present t
  chooses =
      let l = leader code present nobody 0 ms in
      let f = leads_all code present ms in
      record {
        shows_exactly = λ k at n. ((λ e. shown_then l f k at n (sym choice_is ∙ e)), (λ x. choice_is ∙ then_shown l f k at n x.0 x.1));
        has_part = has_part;
        none_exactly = ((λ e. none_then l f (sym choice_is ∙ e)), (λ x. choice_is ∙ then_none l f x));
        accepted = λ r e. never_refused l f r (sym choice_is ∙ e);
        determined = λ x y p q. sym (allowed_is x p) ∙ allowed_is y q;
      }
    where
      allowed_is : (x : Result (Option (ℕ × ℕ × ℕ)) Refusal) → Allowed s code present t x → choice_of kind s code present ≡ x
      allowed_is (Ok (Some (k, at, n))) p = choice_is ∙ then_shown (leader code present nobody 0 ms) (leads_all code present ms) k at n p.0 p.1
      allowed_is (Ok None) p = choice_is ∙ then_none (leader code present nobody 0 ms) (leads_all code present ms) p
      allowed_is (Err r) p = absurd p

  -- what is shown lies in the body
  shown_within : (k at n : ℕ) → choice_of kind s code present ≡ Ok (Some (k, at, n)) → Within s k at n
  shown_within k at n e =
      let x = (chooses.shows_exactly k at n).0 e in
      let m = x.0.message in
      let r = part k m x.0.is_there in
      let g = ok_pair_inj (sym r.is ∙ x.1) in
      let below = (seen code present ms k m x.0.is_there x.0.may).below in
      record {
        number = omega (arith, below, few kind s t h);
        in_body_lem = omega (arith, g.0, g.1, r.in_body_lem);
        body = let l = h.formed.short in let w = ap length h.body_is in omega (arith, l, w);
        part = omega (arith, g.1, r.short);
      }

-- ---- the refusals

reader_refused : (kind : ℕ) (s code : List ℕ) (present : Moment) → AreBytes s → is_code code ≡ true → is_instant present ≡ true → (r : Refusal)
    → choice_of kind s code present ≡ Err r → body_read index index_kind kind s ≡ Err r
unfolding choice_of body_read
reader_refused kind s code present b c i r e = go (reading index index_kind kind s) refl
  where
    asked : (x : Reading Index) → reading index index_kind kind s ≡ x → chosen_in code s present x ≡ Err r
    asked x f = sym (rw (c, i, f)) ∙ e

    go : (x : Reading Index) → reading index index_kind kind s ≡ x → step_of x ≡ Err r
    go (refused q) f = let g : Err q ≡ Err r = asked (refused q) f in let z : q ≡ r = cc in ap Err z
    go (found t q) f =
        let h = chosen.holds kind s b q (sym (ap step_of f)) in
        absurd ((chooses kind s code present h.0 b c i h.2).accepted r e)

-- what is shown was read, by a code and at an instant
within : (kind : ℕ) (s code : List ℕ) (present : Moment) → AreBytes s → (k at n : ℕ) → choice_of kind s code present ≡ Ok (Some (k, at, n)) → Within s k at n
unfolding choice_of body_read
within kind s code present b k at n e = go (is_code code) (is_instant present) (reading index index_kind kind s) refl refl refl e
  where
    go : (c i : Bool) (x : Reading Index) → is_code code ≡ c → is_instant present ≡ i → reading index index_kind kind s ≡ x
        → cond c (cond i (chosen_in code s present x) (Err (ImpossibleDay 0))) (Err (DigitAboveNine 0)) ≡ Ok (Some (k, at, n)) → Within s k at n
    go false i x c y f z = absurd (let w : ◌≡◌ {A = ℕ} 0 1 = cc in omega arith)
    go true false x c y f z = absurd (let w : ◌≡◌ {A = ℕ} 0 1 = cc in omega arith)
    go true true (refused r) c y f z = absurd (let w : ◌≡◌ {A = ℕ} 0 1 = cc in omega arith)
    go true true (found t q) c y f z =
        let h = chosen.holds kind s b q (sym (ap step_of f)) in
        shown_within kind s code present h.0 b c y h.2 k at n e

given : (kind : ℕ) (s code : List ℕ) (present : Moment) → AreBytes s → (r : Refusal) → choice_of kind s code present ≡ Err r
    → is_given (refusal_number r) ≡ true
given kind s code present b r e = go (is_code code) (is_instant present) refl refl
  where
    same : (q : Refusal) → ◌≡◌ {A = Choice} (Err q) (Err r) → is_given (refusal_number q) ≡ true → is_given (refusal_number r) ≡ true
    same q f h = sym (ap (λ (x : Refusal). is_given (refusal_number x)) (err_inj f)) ∙ h

    go : (c i : Bool) → is_code code ≡ c → is_instant present ≡ i → is_given (refusal_number r) ≡ true
    go false i c y = same (DigitAboveNine 0) (chosen.choice_no_code kind s code present c ∙ e) refl
    go true false c y = same (ImpossibleDay 0) (chosen.choice_no_instant kind s code present c y ∙ e) refl
    go true true c y = read_given kind s r (reader_refused kind s code present b c y r e)

pub promise : Promise
promise =
    record {
      words = words;
      chooses = chooses;
      within = within;
      only_one = only_one;
      no_code = λ kind s code present e. sym (chosen.choice_no_code kind s code present e);
      no_instant = λ kind s code present c e. sym (chosen.choice_no_instant kind s code present c e);
      as_the_reader = λ kind s code present b c i r. (
        reader_refused kind s code present b c i r,
        (λ e. sym (chosen.choice_refused kind s code present c i r (sym e))),
      );
      given = given;
      never_21 = λ kind s code present b e. false≢true (given kind s code present b OutputTooSmall e);
    }
