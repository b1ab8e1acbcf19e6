-- Walks that a number decides: what depends on it, what a flag says is there, a part by its length, and things after their count.
use Prim.Native.Nat.{ℕ, zero, suc, ◌+◌, ◌-◌, ◌%◌, ◌≤◌, ◌<◌}
use Rattle.std.specs.Prelude.{Result, Ok, Err, IsErr, IsErrAnd}
use Rattle.ground_refusal.specs.declared.Refusal.{Refusal}
use mathlib.Core.Path.{◌≡◌, refl, sym, ap, ap₂, ◌∙◌, subst}
use mathlib.Core.List.{List, [], ◌∷◌, ◌++◌}
use mathlib.Core.Bool.{Bool, true, false}
use native.Mathlib.Omega.{arith}
use native.Mathlib.Nat.{add-sub_cancel_left}
use lib.ListN.{length, take, drop, length-append, length-drop}
use lib.Seq.{length-take-le}
use lib.Dec.{leb}
use borrow.Author.Tests.{leb-true, le-leb}
use Rattle.ground_placing.specs.Placed.{placed}
use Rattle.ground_refusal.specs.declared.Refusal.TheVariants.{PastBody, PastPart}
use Rattle.body_formats.specs.Reading.{Reading, found, refused, and_then, need, Fault, fine, faulty, judged, within, value_of}
use Rattle.body_formats.specs.Format.{Format, followed, ◌▷◌, nothing, under, repeat, times, tape_all, list_of, rest, Length, counted}
use Rattle.body_formats.specs.Answers.{part_of}
use Rattle.body_formats.proofs.Outcomes.{found_inj, and_then_found, judged_found, within_found}
use Rattle.body_formats.proofs.Classes.{Formal, Lawful, Filling}
use Rattle.body_formats.proofs.Parts.{Counts, counted_lawful}
use Rattle.body_formats.proofs.Lists.{all_steady}
use Rattle.body_formats.proofs.Elements.{repeat_length}
use Rattle.body_walk.specs.Walked.{walk_onward, walked, Walked, value_walked, walk_of, beside, Counted, opened_by, entered}
use Rattle.body_walk.proofs.Pairs.{passed, stays, exits, Steady, empty, dependent, renamed, regroup}

-- the number told is the number found
pub value_found : {C : Format ℕ} {s : List ℕ} {l : ℕ} {x : Result (ℕ × ℕ) Refusal} {wet : Bool} {t : List ℕ} {c : Result ((ℕ × ℕ) × ℕ) Refusal} {t₁ : List ℕ}
    → Counted C s l x wet t c t₁ → (n p q room : ℕ) → x ≡ Ok (p, room) → C.parse s l p ≡ found n q → beside c ≡ n
unfolding value_walked
value_found {C} {s} {l} w n p q room e h = w.value ∙ ap (value_walked C s l) e ∙ ap value_of h

-- a walk that goes on past the number alone
pub past_told : {C : Format ℕ} {s : List ℕ} {l : ℕ} {x : Result (ℕ × ℕ) Refusal} {wet : Bool} {t : List ℕ} {c : Result ((ℕ × ℕ) × ℕ) Refusal} {t₁ : List ℕ} {y : Result (ℕ × ℕ) Refusal}
    → Counted C s l x wet t c t₁ → y ≡ walk_of c → Walked C s l x wet t y t₁
past_told {C} {s} {l} {x} {wet} {t} {t₁ = t₁} w e = subst (λ z. Walked C s l x wet t z t₁) (sym e) w.past

-- after a refusal no number is told
pub stays_told : {C : Format ℕ} {s : List ℕ} {l : ℕ} {e : Refusal} {wet : Bool} {t : List ℕ} → Counted C s l (Err e) wet t (Err e) t
unfolding value_walked
stays_told = record { past = stays refl; value = refl }

-- what depends on a number that was told
pub told_walk : {B : ℕ → Type 0} {C : Format ℕ} {G : (n : ℕ) → Format (B n)} {s : List ℕ} {l : ℕ} {x : Result (ℕ × ℕ) Refusal} {wet : Bool} {t : List ℕ} {c : Result ((ℕ × ℕ) × ℕ) Refusal} {t₁ : List ℕ} {r : Result (ℕ × ℕ) Refusal} {t₂ : List ℕ}
    → Lawful C → ((n : ℕ) → Formal (G n)) → Counted C s l x wet t c t₁ → Walked (G (beside c)) s l (walk_of c) wet t₁ r t₂ → Walked (followed C G) s l x wet t r t₂
told_walk {G} {s} {l} {wet} {c} {t₁} {r} {t₂} f g w v =
    dependent f (λ n. (g n).steady) w.past
    (λ n p q room e h. subst (λ m. Walked (G m) s l (walk_of c) wet t₁ r t₂) (value_found w n p q room e h) v)
    (passed v) v.dry

pub told_stop : {B : ℕ → Type 0} {C : Format ℕ} {G : (n : ℕ) → Format (B n)} {s : List ℕ} {l : ℕ} {x : Result (ℕ × ℕ) Refusal} {wet : Bool} {t : List ℕ} {c : Result ((ℕ × ℕ) × ℕ) Refusal} {e : Refusal} {t₁ : List ℕ} {r : Result (ℕ × ℕ) Refusal}
    → Lawful C → ((n : ℕ) → Formal (G n)) → c ≡ Err e → IsErr r × IsErrAnd r (λ y. y ≡ e) → Counted C s l x wet t c t₁ → Walked (followed C G) s l x wet t r t₁
told_stop f g h p w = exits p (told_walk f g (rw h at w) (stays refl))

-- ---- what a flag says is there

module _ {A : Type 0} {C : Format ℕ} {G : Format A} {s : List ℕ} {l : ℕ} {x : Result (ℕ × ℕ) Refusal} {wet : Bool} {t : List ℕ} {c : Result ((ℕ × ℕ) × ℕ) Refusal} {t₁ : List ℕ} (f : Lawful C)
    (g : Formal G) (w : Counted C s l x wet t c t₁) where
  under_steady : (flag : ℕ) → Steady (under G flag)
  unfolding under nothing
  under_steady zero a p = refl
  under_steady (suc n) a p = g.steady a p

  off : (n : ℕ) → n ≡ 0 → Walked (under G n) s l (walk_of c) wet t₁ (walk_of c) t₁
  unfolding under nothing
  off zero e = empty tt (λ p room h. refl) (λ k. refl)
  off (suc n) e = absurd (omega arith)

  on : {r : Result (ℕ × ℕ) Refusal} {t₂ : List ℕ} (n : ℕ) → 0 < n → Walked G s l (walk_of c) wet t₁ r t₂ → Walked (under G n) s l (walk_of c) wet t₁ r t₂
  unfolding under
  on zero h v = absurd (omega arith)
  on (suc n) h v = v

  pub flag_off : beside c ≡ 0 → Walked (followed C (λ flag. under G flag)) s l x wet t (walk_of c) t₁
  flag_off z = dependent f under_steady w.past (λ n p q room e h. off n (sym (value_found w n p q room e h) ∙ z)) (λ e h. refl) (λ d. refl)

  pub flag_on : {r : Result (ℕ × ℕ) Refusal} {t₂ : List ℕ} → 0 < beside c → Walked G s l (walk_of c) wet t₁ r t₂ → Walked (followed C (λ flag. under G flag)) s l x wet t r t₂
  flag_on h v = dependent f under_steady w.past (λ n p q room e k. on n (omega (arith, value_found w n p q room e k)) v) (passed v) v.dry

  pub flag_stop : {e : Refusal} {r : Result (ℕ × ℕ) Refusal} → c ≡ Err e → IsErr r × IsErrAnd r (λ y. y ≡ e) → Walked (followed C (λ flag. under G flag)) s l x wet t r t₁
  flag_stop {e} h p =
      let w' : Counted C s l x wet t (Err e) t₁ = rw h at w in
      let v = λ (n : ℕ). stays {F = under G n} {s = s} {l = l} {x = Err e} {e = e} {wet = wet} {t = t₁} refl in
      exits p (dependent f under_steady w'.past (λ n p q room i k. v n) (λ i k. refl) (λ d. refl))

-- ---- a part by its length

module _ (L : Length) (s : List ℕ) (l : ℕ) where
  -- a part that lies in the body is entered at its first byte
  into : (room q m : ℕ) → q + m ≤ length s → opened_by room (part_of (rest.parse s (q + m) q)) ≡ Ok ((q, room), q + m)
  unfolding rest
  into room q m h =
      let long : length (take (q + m - q) (drop q s)) ≡ m = length-take-le (q + m - q) (drop q s) (simp length-drop (omega arith)) ∙ add-sub_cancel_left q m in
      let at : q + m - length (take (q + m - q) (drop q s)) ≡ q = omega arith in
      let end : q + m - length (take (q + m - q) (drop q s)) + length (take (q + m - q) (drop q s)) ≡ q + m = omega arith in
      ap₂ (λ i e. let o : Result ((ℕ × ℕ) × ℕ) Refusal = Ok ((i, room), e) in o) at end

  part_entered : (p room n i : ℕ) → L.field.parse s l p ≡ found n i → i + n % L.limit ≤ length s → i + n % L.limit ≤ l → L.fault n p ≡ fine
      → entered L s l (Ok (p, room)) ≡ Ok ((i, room), i + n % L.limit)
  unfolding entered counted
  part_entered p room n i e h k f = rw (e, le-leb (i + n % L.limit) (length s) h, le-leb (i + n % L.limit) l k, f) (into room i (n % L.limit) h)

  ends_inside : (x : Result (ℕ × ℕ) Refusal) → beside (entered L s l x) ≤ length s
  unfolding entered counted
  ends_inside (Err e) = omega arith
  ends_inside (Ok (p, room)) = go (L.field.parse s l p)
    where
      tests : (m q : ℕ) (t b : Bool) (f : Fault) → leb (q + m) (length s) ≡ t
          → beside (opened_by room (part_of (need t (PastBody p) (need b (PastPart p) (judged f (rest.parse s (q + m) q)))))) ≤ length s
      tests m q false b f h = omega arith
      tests m q true false f h = omega arith
      tests m q true true (faulty e) h = omega arith
      tests m q true true fine h = let k = leb-true (q + m) (length s) h in omega (arith, ap beside (into room q m k))

      go : (y : Reading ℕ)
          → beside (opened_by room (part_of (and_then y (λ n q. within s l p (q + n % L.limit) (judged (L.fault n p) (rest.parse s (q + n % L.limit) q)))))) ≤ length s
      go (refused e) = omega arith
      go (found n q) = tests (n % L.limit) q (leb (q + n % L.limit) (length s)) (leb (q + n % L.limit) l) (L.fault n p) refl

  -- a part that is entered ends in the body
  pub entered_inside : (x : Result (ℕ × ℕ) Refusal) {o : Result ((ℕ × ℕ) × ℕ) Refusal} → o ≡ entered L s l x → beside o ≤ length s
  entered_inside x e = omega (arith, ap beside e, ends_inside x)

-- a walk through what fills a part
abbrev within_part : {A : Type 0} → Format A → List ℕ → Result ((ℕ × ℕ) × ℕ) Refusal → Result (ℕ × ℕ) Refusal
within_part F s o = walked F s (beside o) (walk_of o)

module _ {A : Type 0} (L : Length) (F : Format A) (s : List ℕ) (l : ℕ) where
  -- the entries of a part are those of what fills it
  counted_said : Steady F → (x : Result (ℕ × ℕ) Refusal) → within_part F s (entered L s l x) ≡ walked (counted L F) s l x
  unfolding entered walked counted
  counted_said steady (Err e) = refl
  counted_said steady (Ok (p, room)) = go (L.field.parse s l p)
    where
      same : (y : Reading A) → walk_onward F room y ≡ walk_onward (counted L F) room y
      same (refused e) = refl
      same (found a v) = ap (λ n. Ok (v, room - n)) (sym (steady a (0 + length (L.field.print (length (F.print a))))))

      tests : (m q : ℕ) (t b : Bool) (f : Fault) → leb (q + m) (length s) ≡ t
          → within_part F s (opened_by room (part_of (need t (PastBody p) (need b (PastPart p) (judged f (rest.parse s (q + m) q))))))
          ≡ walk_onward (counted L F) room (need t (PastBody p) (need b (PastPart p) (judged f (F.parse s (q + m) q))))
      tests m q false b f h = refl
      tests m q true false f h = refl
      tests m q true true (faulty e) h = refl
      tests m q true true fine h = ap (within_part F s) (into L s l room q m (leb-true (q + m) (length s) h)) ∙ same (F.parse s (q + m) q)

      go : (y : Reading ℕ)
          → within_part F s (opened_by room (part_of (and_then y (λ n q. within s l p (q + n % L.limit) (judged (L.fault n p) (rest.parse s (q + n % L.limit) q))))))
          ≡ walk_onward (counted L F) room (and_then y (λ n q. within s l p (q + n % L.limit) (judged (L.fault n p) (F.parse s (q + n % L.limit) q))))
      go (refused e) = refl
      go (found n q) = tests (n % L.limit) q (leb (q + n % L.limit) (length s)) (leb (q + n % L.limit) l) (L.fault n p) refl

  -- where a part was found: it begins at i and has m bytes, and what fills it was found there
  counted_found : (p room : ℕ) (a : A) (q : ℕ) → (counted L F).parse s l p ≡ found a q
      → (i m : ℕ) × (i + m ≤ length s) × (entered L s l (Ok (p, room)) ≡ Ok ((i, room), i + m)) × (F.parse s (i + m) i ≡ found a q)
  unfolding counted
  counted_found p room a q e =
      let d = and_then_found (L.field.parse s l p) _ a q e in
      let m = d.0 % L.limit in
      let g = within_found s l p (d.1 + m) _ a q d.3 in
      let j = judged_found (L.fault d.0 p) _ a q g.2 in
      (d.1, m, g.0, part_entered L s l p room d.0 d.1 d.2 g.0 g.1 j.0, j.1)

pub counted_walk : {A : Type 0} {L : Length} {F : Format A} {s : List ℕ} {l : ℕ} {x : Result (ℕ × ℕ) Refusal} {wet : Bool} {t : List ℕ} {r : Result (ℕ × ℕ) Refusal} {t' : List ℕ} {o : Result ((ℕ × ℕ) × ℕ) Refusal}
    → Counts L F → Filling F → o ≡ entered L s l x → Walked F s (beside o) (walk_of o) wet t r t' → Walked (counted L F) s l x wet t r t'
unfolding counted
counted_walk {A} {L} {F} {s} {l} {x} {wet} {t} {r} {t'} {o} c f e w =
    record {
      said = w.said ∙ ap (within_part F s) e ∙ counted_said L F s l f.formal.steady x;
      dry = w.dry;
      laid = λ v p room h here a q k small fits.
          let d = counted_found L F s l p room a q k in
          let i = d.0 in
          let there : o ≡ Ok ((i, room), i + d.1) = e ∙ ap (entered L s l) h ∙ d.3 in
          let end : beside o ≡ i + d.1 = ap beside there in
          let u = (counted_lawful L F c f).forth s l p a q here.bytes here.part here.here k in
          let z = f.forth s (i + d.1) i a q here.bytes d.2 (omega arith) d.4 in
          let at : p + length (L.field.print (length (F.print a))) ≡ i =
          omega (arith, u.next, z.next, length-append (L.field.print (length (F.print a))) (F.print a)) in
          let tape : F.tape a (p + length (L.field.print (length (F.print a)))) ≡ F.tape a i = ap (F.tape a) at in
          w.laid v i room (ap walk_of there) (record { bytes = here.bytes; part = omega (arith, d.2); here = omega arith }) a q
          (ap (λ n. F.parse s n i) end ∙ d.4) (omega (arith, ap length tape)) fits
          ∙ ap (placed t (length t + 1 - room)) (sym tape);
    }

-- a part that is not entered
pub counted_stop : {A : Type 0} {L : Length} {F : Format A} {s : List ℕ} {l : ℕ} {x : Result (ℕ × ℕ) Refusal} {wet : Bool} {t : List ℕ} {e : Refusal} {r : Result (ℕ × ℕ) Refusal} {o : Result ((ℕ × ℕ) × ℕ) Refusal}
    → Counts L F → Filling F → o ≡ Err e → o ≡ entered L s l x → IsErr r × IsErrAnd r (λ y. y ≡ e) → Walked (counted L F) s l x wet t r t
counted_stop c f h g p = exits p (counted_walk c f (sym h ∙ g) (stays refl))

-- ---- things one after the other: a loop over those that are left

pub times_none : {A : Type 0} (F : Format A) {s : List ℕ} {l : ℕ} {x : Result (ℕ × ℕ) Refusal} {wet : Bool} {t : List ℕ} (n : ℕ) → n ≡ 0 → Walked (times n F) s l x wet t x t
unfolding times repeat tape_all
times_none F zero e = empty [] (λ p room h. refl) (λ k. refl)
times_none F (suc n) e = absurd (omega arith)

pub times_more : {A : Type 0} {F : Format A} {s : List ℕ} {l : ℕ} {x : Result (ℕ × ℕ) Refusal} {wet : Bool} {t : List ℕ} {r : Result (ℕ × ℕ) Refusal} {t₁ : List ℕ} {r' : Result (ℕ × ℕ) Refusal} {t₂ : List ℕ} (n m : ℕ) → n ≡ suc m → Lawful F
    → Walked F s l x wet t r t₁ → Walked (times m F) s l r wet t₁ r' t₂ → Walked (times n F) s l x wet t r' t₂
unfolding times repeat tape_all followed
times_more zero m h f w v = absurd (omega arith)
times_more {F} {s} {l} {wet} {r} {t₁} {r'} {t₂} (suc n) m h f w v =
    let less : m ≡ n = omega arith in
    let v' : Walked (times n F) s l r wet t₁ r' t₂ = rw less at v in
    renamed {F = F ▷ times n F} (λ z. z.0 ∷ z.1) (λ p room e. regroup (λ a xs. a ∷ xs) (F.parse s l p) (λ a q. repeat (F.parse s l) n q)) (λ z p q k e. refl)
    (dependent f (λ a xs p. all_steady F f xs p 0) w (λ a p q room e i. v') (passed v') v'.dry)

-- What is still to be walked, G from y on the tape t', makes the whole, F from x on the tape t; the tape is as long as it was.
pub record Ahead {A B : Type 0} (F : Format A) (s : List ℕ) (l : ℕ) (x : Result (ℕ × ℕ) Refusal) (wet : Bool) (t : List ℕ) (G : Format B) (y : Result (ℕ × ℕ) Refusal) (t' : List ℕ) : Type 0 where
  pub same : length t' ≡ length t
  pub whole : (r : Result (ℕ × ℕ) Refusal) (t'' : List ℕ) → Walked G s l y wet t' r t'' → Walked F s l x wet t r t''

pub ahead_start : {A : Type 0} {F : Format A} {s : List ℕ} {l : ℕ} {x : Result (ℕ × ℕ) Refusal} {wet : Bool} {t : List ℕ} → Ahead F s l x wet t F x t
ahead_start = record { same = refl; whole = λ r t'' w. w }

module _ {A : Type 0} (F : Format A) (n : ℕ) {s : List ℕ} {l : ℕ} {x : Result (ℕ × ℕ) Refusal} {wet : Bool} {t : List ℕ} where
  pub times_start : Ahead (times n F) s l x wet t (times (n - 0) F) x t
  times_start = let z : n - 0 ≡ n = omega arith in rw z ahead_start

  module _ {y : Result (ℕ × ℕ) Refusal} {t' : List ℕ} (i : ℕ) where
    pub times_turn : {z : Result (ℕ × ℕ) Refusal} {t'' : List ℕ} → Lawful F → i < n → Ahead (times n F) s l x wet t (times (n - i) F) y t'
        → Walked F s l y wet t' z t'' → length t'' ≡ length t' → Ahead (times n F) s l x wet t (times (n - (i + 1)) F) z t''
    times_turn f h a w same = record { same = same ∙ a.same; whole = λ r t''' v. a.whole r t''' (times_more (n - i) (n - (i + 1)) (omega arith) f w v) }

    pub times_done : n ≤ i → Ahead (times n F) s l x wet t (times (n - i) F) y t' → Walked (times n F) s l x wet t y t'
    times_done h a = a.whole y t' (times_none F (n - i) (omega arith))

-- ---- a list after its count

list_both : {A : Type 0} {C : Format ℕ} {F : Format A} {s : List ℕ} {l : ℕ} {x : Result (ℕ × ℕ) Refusal} {wet : Bool} {t : List ℕ} {c : Result ((ℕ × ℕ) × ℕ) Refusal} {t₁ : List ℕ} {r : Result (ℕ × ℕ) Refusal} {t₂ : List ℕ}
    → Lawful C → Lawful F → Counted C s l x wet t c t₁ → Walked (times (beside c) F) s l (walk_of c) wet t₁ r t₂ → Walked (list_of C F) s l x wet t r t₂
unfolding list_of times followed
list_both {A} {C} {F} {s} {l} {x} {wet} {t} {c} {t₁} {r} {t₂} f g w v =
    renamed {F = followed C (λ n. times n F)} (λ z. z.1)
    (λ p room e. read (C.parse s l p))
    (λ z p q k e.
    let i = and_then_found (C.parse s l p) _ z q e in
    let j = and_then_found (repeat (F.parse s l) i.0 i.1) _ z q i.3 in
    let many : length z.1 ≡ z.0 =
    ap (λ y. length y.1) (sym (found_inj j.3).0) ∙ repeat_length (F.parse s l) i.0 i.1 j.0 j.1 j.2 ∙ ap (λ y. y.0) (found_inj j.3).0 in
    ap (λ n. C.tape n k ++ tape_all F z.1 (k + length (C.print n))) many)
    (dependent f (λ n xs p. all_steady F g xs p 0) w.past
    (λ n p q room e h. subst (λ m. Walked (times m F) s l (walk_of c) wet t₁ r t₂) (value_found w n p q room e h) v)
    (passed v) v.dry)
  where
    alone : (n : ℕ) (y : Reading (List A)) → y ≡ and_then (and_then y (λ xs q. let z : (n : ℕ) × List A = (n, xs) in found z q)) (λ z q. found z.1 q)
    alone n (refused e) = refl
    alone n (found xs q) = refl

    read : (y : Reading ℕ) → and_then y (λ n q. repeat (F.parse s l) n q)
        ≡ and_then (and_then y (λ n q. and_then (repeat (F.parse s l) n q) (λ xs v. let z : (n : ℕ) × List A = (n, xs) in found z v))) (λ z q. found z.1 q)
    read (refused e) = refl
    read (found n q) = alone n (repeat (F.parse s l) n q)

-- the count was told, and then the things are walked; or it was refused
module _ {A : Type 0} {C : Format ℕ} {F : Format A} {s : List ℕ} {l : ℕ} {x : Result (ℕ × ℕ) Refusal} {wet : Bool} {t : List ℕ} {c : Result ((ℕ × ℕ) × ℕ) Refusal} {t₁ : List ℕ} {r : Result (ℕ × ℕ) Refusal}
    (f : Lawful C) (g : Lawful F) where
  pub list_walk : {at : ℕ × ℕ} {n : ℕ} {t₂ : List ℕ} → c ≡ Ok (at, n) → Counted C s l x wet t c t₁ → Walked (times n F) s l (Ok at) wet t₁ r t₂
      → Walked (list_of C F) s l x wet t r t₂
  list_walk h w v = list_both f g (rw h at w) v

  pub list_stop : {e : Refusal} → c ≡ Err e → IsErr r × IsErrAnd r (λ y. y ≡ e) → Counted C s l x wet t c t₁ → Walked (list_of C F) s l x wet t r t₁
  list_stop h p w = exits p (list_both f g (rw h at w) (stays refl))
