-- Walks put together: one thing after the other, the same fields under other names, no byte left, and a value judged once it was read.
use Prim.Native.Nat.{ℕ, ◌+◌, ◌-◌, ◌≤◌, ◌<◌}
use mathlib.Core.Path.{◌≡◌, refl, sym, ap, ◌∙◌, subst}
use mathlib.Core.List.{List, [], ◌++◌}
use mathlib.Core.Bool.{Bool, true, false}
use native.Mathlib.Omega.{arith}
use lib.ListN.{length, length-append}
use lib.Dec.{leb}
use Rattle.std.specs.Prelude.{if◌then◌else◌, Result, Ok, Err, IsErr, IsErrAnd}
use Rattle.ground_placing.specs.Placed.{placed}
use Rattle.ground_placing.proofs.Placing.{placed_next, placed_length, placed_none}
use Rattle.ground_refusal.specs.declared.Refusal.{Refusal}
use Rattle.ground_refusal.proofs.Exits.{passed_on, ok_pair_inj}
use Rattle.body_formats.specs.Reading.{Reading, found, refused, and_then, need, Fault, unless, judged}
use Rattle.body_formats.specs.Format.{Format, only, followed, ◌▷◌, view, exact}
use Rattle.body_formats.proofs.Outcomes.{found_inj, and_then_found, judged_found}
use Rattle.body_formats.proofs.Classes.{Formal, Lawful}
use Rattle.body_formats.proofs.Parts.{exact_filling}
use Rattle.body_formats.proofs.Elements.{exact_found}
use Rattle.body_walk.specs.Walked.{walk_onward, walked, leaving, judged_from, Walked}

pub walked_refused : {A : Type 0} (F : Format A) (s : List ℕ) (l : ℕ) (e : Refusal) → walked F s l (Err e) ≡ Err e
unfolding walked
walked_refused F s l e = refl

pub walked_at : {A : Type 0} (F : Format A) (s : List ℕ) (l p room : ℕ) → walked F s l (Ok (p, room)) ≡ walk_onward F room (F.parse s l p)
unfolding walked
walked_at F s l p room = refl

-- a walk from where x stands
pub from : {A : Type 0} {F : Format A} {s : List ℕ} {l : ℕ} {x y : Result (ℕ × ℕ) Refusal} {wet : Bool} {t : List ℕ} {r : Result (ℕ × ℕ) Refusal} {t' : List ℕ} → x ≡ y
    → Walked F s l y wet t r t' → Walked F s l x wet t r t'
from {F} {s} {l} {wet} {t} {r} {t'} e w = subst (λ z. Walked F s l z wet t r t') (sym e) w

-- a refused walk stays where it is
pub stays : {A : Type 0} {F : Format A} {s : List ℕ} {l : ℕ} {x : Result (ℕ × ℕ) Refusal} {e : Refusal} {wet : Bool} {t : List ℕ} → x ≡ Err e
    → Walked F s l x wet t (Err e) t
stays {F} {s} {l} {e} h =
    record {
      said = sym (ap (walked F s l) h ∙ walked_refused F s l e);
      dry = λ d. refl;
      laid = λ w p room i. absurd (let z : ◌≡◌ {A = ℕ} 0 1 = cc in omega arith);
    }

-- the exit of a `?` gives back the refusal with which the walk stops
pub exits : {A : Type 0} {F : Format A} {s : List ℕ} {l : ℕ} {x : Result (ℕ × ℕ) Refusal} {wet : Bool} {t : List ℕ} {e : Refusal} {r : Result (ℕ × ℕ) Refusal} {t' : List ℕ}
    → IsErr r × IsErrAnd r (λ y. y ≡ e) → Walked F s l x wet t (Err e) t' → Walked F s l x wet t r t'
exits {F} {s} {l} {x} {wet} {t} {t'} p w = subst (λ y. Walked F s l x wet t y t') (sym (passed_on p)) w

-- the exit of a `?` at the start of a walk
pub left : {A : Type 0} {F : Format A} {s : List ℕ} {l : ℕ} {x : Result (ℕ × ℕ) Refusal} {wet : Bool} {t : List ℕ} {e : Refusal} {r : Result (ℕ × ℕ) Refusal}
    → IsErr r × IsErrAnd r (λ y. y ≡ e) → x ≡ Err e → Walked F s l x wet t r t
left p h = exits p (stays h)

-- where nothing is read and nothing laid, a walk stays too
pub empty : {A : Type 0} {F : Format A} {s : List ℕ} {l : ℕ} {x : Result (ℕ × ℕ) Refusal} {wet : Bool} {t : List ℕ} (a : A)
    → ((p room : ℕ) → x ≡ Ok (p, room) → F.parse s l p ≡ found a p) → ((k : ℕ) → F.tape a k ≡ []) → Walked F s l x wet t x t
empty {A} {F} {s} {l} {x} {wet} {t} a here none =
    record {
      said = go x here;
      dry = λ d. refl;
      laid = λ v p room e i b q h small fits.
          sym (ap (placed t (length t + 1 - room)) (ap (λ c. F.tape c p) (found_inj (sym h ∙ here p room e)).0 ∙ none p) ∙ placed_none t (length t + 1 - room));
    }
  where
    go : (y : Result (ℕ × ℕ) Refusal) → ((p room : ℕ) → y ≡ Ok (p, room) → F.parse s l p ≡ found a p) → y ≡ walked F s l y
    go (Err e) f = sym (walked_refused F s l e)
    go (Ok (p, room)) f =
        ap (λ b. Ok (p, b)) (omega (arith, ap length (none 0))) ∙ ap (walk_onward F room) (sym (f p room refl)) ∙ sym (walked_at F s l p room)

-- a refusal is passed on
pub passed : {A : Type 0} {F : Format A} {s : List ℕ} {l : ℕ} {x : Result (ℕ × ℕ) Refusal} {wet : Bool} {t : List ℕ} {r : Result (ℕ × ℕ) Refusal} {t' : List ℕ}
    → Walked F s l x wet t r t' → (e : Refusal) → x ≡ Err e → r ≡ x
passed {F} {s} {l} w e h = w.said ∙ ap (walked F s l) h ∙ walked_refused F s l e ∙ sym h

-- ---- from what a walk answers back to what was read

module _ {A : Type 0} {F : Format A} {s : List ℕ} {l p room : ℕ} {wet : Bool} {t : List ℕ} {r : Result (ℕ × ℕ) Refusal} {t' : List ℕ}
    (w : Walked F s l (Ok (p, room)) wet t r t') where
  pub went_on : {q left : ℕ} → r ≡ Ok (q, left) → (a : A) × (F.parse s l p ≡ found a q) × (left ≡ room - length (F.tape a 0))
  unfolding walked
  went_on {q} {left} e = go (F.parse s l p) (sym e ∙ w.said)
    where
      go : (y : Reading A) → Ok (q, left) ≡ walk_onward F room y → (a : A) × (y ≡ found a q) × (left ≡ room - length (F.tape a 0))
      go (found a v) h = let z = ok_pair_inj h in (a, ap (found a) (sym z.0), z.1)
      go (refused v) h = absurd (let z : ◌≡◌ {A = ℕ} 0 1 = cc in omega arith)

  pub stopped : {e : Refusal} → r ≡ Err e → F.parse s l p ≡ refused e
  unfolding walked
  stopped {e} i = go (F.parse s l p) (sym i ∙ w.said)
    where
      go : (y : Reading A) → Err e ≡ walk_onward F room y → y ≡ refused e
      go (refused v) h = let z : v ≡ e = cc in ap refused z
      go (found a q) h = absurd (let z : ◌≡◌ {A = ℕ} 0 1 = cc in omega arith)

-- how many entries a value has does not depend on where its bytes stand
abbrev pub Steady : {A : Type 0} → Format A → Type 0
Steady {A} F = (a : A) (p : ℕ) → length (F.tape a p) ≡ length (F.tape a 0)

-- ---- one after the other, where the second may depend on what the first found

module _ {A : Type 0} {B : A → Type 0} (F : Format A) (G : (a : A) → Format (B a)) (s : List ℕ) (l : ℕ) where
  both_said : ((a : A) → Steady (G a)) → (x r r' : Result (ℕ × ℕ) Refusal) → r ≡ walked F s l x
      → ((a : A) (p q room : ℕ) → x ≡ Ok (p, room) → F.parse s l p ≡ found a q → r' ≡ walked (G a) s l r)
      → ((e : Refusal) → r ≡ Err e → r' ≡ r)
      → r' ≡ walked (followed F G) s l x
  unfolding walked followed
  both_said steady (Err e) r r' h go stop = stop e h ∙ h
  both_said steady (Ok (p, room)) r r' h go stop = first (F.parse s l p) refl h
    where
      second : (a : A) (y : Reading (B a))
          → walk_onward (G a) (room - length (F.tape a 0)) y ≡ walk_onward (followed F G) room (and_then y (λ b v. let z : (a : A) × B a = (a, b) in found z v))
      second a (refused e) = refl
      second a (found b v) = ap (λ b. Ok (v, b)) (omega (arith, steady a b (0 + length (F.print a)), length-append (F.tape a 0) ((G a).tape b (0 + length (F.print a)))))

      first : (y : Reading A) → F.parse s l p ≡ y → r ≡ walk_onward F room y
          → r' ≡ walk_onward (followed F G) room (and_then y (λ a q. and_then ((G a).parse s l q) (λ b v. let z : (a : A) × B a = (a, b) in found z v)))
      first (refused e) i k = stop e k ∙ k
      first (found a q) i k = go a p q room refl i ∙ ap (walked (G a) s l) k ∙ second a ((G a).parse s l q)

  -- the entries of the first, and those of the second after them
  both_laid : (p room : ℕ) (t t₁ t₂ : List ℕ) (a : A) (b : B a) (q : ℕ) → Steady F → q ≡ p + length (F.print a)
      → (length (F.tape a p) < room → room ≤ length t + 1 → t₁ ≡ placed t (length t + 1 - room) (F.tape a p))
      → (length ((G a).tape b q) < room - length (F.tape a 0) → room - length (F.tape a 0) ≤ length t₁ + 1 → t₂ ≡ placed t₁ (length t₁ + 1 - (room - length (F.tape a 0))) ((G a).tape b q))
      → length ((followed F G).tape (a, b) p) < room → room ≤ length t + 1
      → t₂ ≡ placed t (length t + 1 - room) ((followed F G).tape (a, b) p)
  unfolding followed
  both_laid p room t t₁ t₂ a b q steady n one two small fits =
      let xs = F.tape a p in
      let ys = (G a).tape b q in
      let same : (G a).tape b (p + length (F.print a)) ≡ ys = ap ((G a).tape b) (sym n) in
      let size : length xs + length ys < room = omega (arith, simp length-append at small, ap length same) in
      let k = length t + 1 - room in
      let put = one (omega arith) fits in
      let room_for : k + length xs ≤ length t = omega arith in
      let long : length t₁ ≡ length t = ap length put ∙ placed_length t k xs room_for in
      let next = two (omega (arith, steady a p)) (omega (arith, steady a p)) in
      next ∙ ap (λ d. placed d (length t₁ + 1 - (room - length (F.tape a 0))) ys) put
      ∙ placed_next t k xs room_for ys (length t₁ + 1 - (room - length (F.tape a 0))) (omega (arith, steady a p))
      ∙ ap (λ zs. placed t k (xs ++ zs)) (sym same)

module _ {A : Type 0} {B : A → Type 0} {F : Format A} {G : (a : A) → Format (B a)} {s : List ℕ} {l : ℕ} {x : Result (ℕ × ℕ) Refusal} {wet : Bool} {t : List ℕ} {r : Result (ℕ × ℕ) Refusal}
    {t₁ : List ℕ} {r' : Result (ℕ × ℕ) Refusal} {t₂ : List ℕ} where
  -- the second is walked where the first was found, and nothing where it was refused
  pub dependent : Lawful F → ((a : A) → Steady (G a)) → Walked F s l x wet t r t₁
      → ((a : A) (p q room : ℕ) → x ≡ Ok (p, room) → F.parse s l p ≡ found a q → Walked (G a) s l r wet t₁ r' t₂)
      → ((e : Refusal) → r ≡ Err e → r' ≡ r)
      → (wet ≡ false → t₂ ≡ t₁)
      → Walked (followed F G) s l x wet t r' t₂
  unfolding followed
  dependent f steady w go stop dry =
      record {
        said = both_said F G s l steady x r r' w.said (λ a p q room e h. (go a p q room e h).said) stop;
        dry = λ d. dry d ∙ w.dry d;
        laid = λ v p room e here z q h small fits.
            let i = and_then_found (F.parse s l p) _ z q h in
            let j = and_then_found ((G i.0).parse s l i.1) _ z q i.3 in
            let a = i.0 in
            let b = j.0 in
            let u = f.forth s l p a i.1 here.bytes here.part here.here i.2 in
            let at : r ≡ Ok (i.1, room - length (F.tape a 0)) = w.said ∙ ap (walked F s l) e ∙ walked_at F s l p room ∙ ap (walk_onward F room) i.2 in
            subst (λ y. length ((followed F G).tape y p) < room → t₂ ≡ placed t (length t + 1 - room) ((followed F G).tape y p)) (found_inj j.3).0
            (λ m. both_laid F G s l p room t t₁ t₂ a b i.1 f.formal.steady u.next
            (λ m₁ k. w.laid v p room e here a i.1 i.2 m₁ k)
            (λ m₂ k. (go a p i.1 room e i.2).laid v i.1 (room - length (F.tape a 0)) at (record { bytes = here.bytes; part = here.part; here = u.inside }) b j.1 j.2 m₂ k)
            m fits)
            small;
      }

pub pair : {A B : Type 0} {F : Format A} {G : Format B} {s : List ℕ} {l : ℕ} {x : Result (ℕ × ℕ) Refusal} {wet : Bool} {t : List ℕ} {r : Result (ℕ × ℕ) Refusal} {t₁ : List ℕ} {r' : Result (ℕ × ℕ) Refusal} {t₂ : List ℕ}
    → Lawful F → Formal G → Walked F s l x wet t r t₁ → Walked G s l r wet t₁ r' t₂ → Walked (F ▷ G) s l x wet t r' t₂
pair f g w v = dependent f (λ a. g.steady) w (λ a p q room e h. v) (passed v) v.dry

-- ---- the same entries for another value

module _ {A B : Type 0} {F : Format A} {H : Format B} {s : List ℕ} {l : ℕ} {x : Result (ℕ × ℕ) Refusal} {wet : Bool} {t : List ℕ} {r : Result (ℕ × ℕ) Refusal} {t' : List ℕ} where
  -- H finds f a where F finds a, with the same entries
  pub renamed : (f : A → B) → ((p room : ℕ) → x ≡ Ok (p, room) → H.parse s l p ≡ and_then (F.parse s l p) (λ a q. found (f a) q))
      → ((a : A) (p q k : ℕ) → F.parse s l p ≡ found a q → H.tape (f a) k ≡ F.tape a k)
      → Walked F s l x wet t r t' → Walked H s l x wet t r t'
  renamed f parsed taped w =
      record {
        said = w.said ∙ go x parsed;
        dry = w.dry;
        laid = λ v p room e here b q h small fits.
            let i = and_then_found (F.parse s l p) _ b q (sym (parsed p room e) ∙ h) in
            let same : H.tape b p ≡ F.tape i.0 p = ap (λ y. H.tape y p) (sym (found_inj i.3).0) ∙ taped i.0 p i.1 p i.2 in
            w.laid v p room e here i.0 i.1 i.2 (omega (arith, ap length same)) fits ∙ ap (placed t (length t + 1 - room)) (sym same);
      }
    where
      read : (p room : ℕ) (y : Reading A) → F.parse s l p ≡ y → walk_onward F room y ≡ walk_onward H room (and_then y (λ a q. found (f a) q))
      read p room (refused e) h = refl
      read p room (found a q) h = ap (λ n. Ok (q, room - n)) (ap length (sym (taped a p q 0 h)))

      go : (x : Result (ℕ × ℕ) Refusal) → ((p room : ℕ) → x ≡ Ok (p, room) → H.parse s l p ≡ and_then (F.parse s l p) (λ a q. found (f a) q)) → walked F s l x ≡ walked H s l x
      go (Err e) same = walked_refused F s l e ∙ sym (walked_refused H s l e)
      go (Ok (p, room)) same = walked_at F s l p room ∙ read p room (F.parse s l p) refl ∙ ap (walk_onward H room) (sym (same p room refl)) ∙ sym (walked_at H s l p room)

-- one found after the other, joined to one value
pub regroup : {A B D : Type 0} (join : A → B → D) (y : Reading A) (k : A → ℕ → Reading B)
    → and_then y (λ a q. and_then (k a q) (λ b v. found (join a b) v))
    ≡ and_then (and_then y (λ a q. and_then (k a q) (λ b v. let z : A × B = (a, b) in found z v))) (λ z v. found (join z.0 z.1) v)
regroup {A} {B} join (refused e) k = refl
regroup {A} {B} join (found a q) k = go (k a q)
  where
    go : (y : Reading B)
        → and_then y (λ b v. found (join a b) v) ≡ and_then (and_then y (λ b v. let z : A × B = (a, b) in found z v)) (λ z v. found (join z.0 z.1) v)
    go (refused e) = refl
    go (found b v) = refl

pub view_walk : {A B : Type 0} {F : Format A} (f : A → B) (g : B → A) {s : List ℕ} {l : ℕ} {x : Result (ℕ × ℕ) Refusal} {wet : Bool} {t : List ℕ} {r : Result (ℕ × ℕ) Refusal} {t' : List ℕ}
    → ((a : A) → g (f a) ≡ a) → Walked F s l x wet t r t' → Walked (view f g F) s l x wet t r t'
unfolding view
view_walk {F} f g gf w = renamed f (λ p room e. refl) (λ a p q k e. ap (λ y. F.tape y k) (gf a)) w

-- ---- no byte left

pub exact_walk : {A : Type 0} {F : Format A} (left_over : ℕ → Refusal) {s : List ℕ} {l : ℕ} {x : Result (ℕ × ℕ) Refusal} {wet : Bool} {t : List ℕ} {r : Result (ℕ × ℕ) Refusal} {t' : List ℕ} {r' : Result (ℕ × ℕ) Refusal}
    → Walked F s l x wet t r t' → r' ≡ leaving left_over l r → Walked (exact left_over F) s l x wet t r' t'
unfolding exact leaving
exact_walk {A} {F} left_over {s} {l} {x} w h =
    record {
      said = h ∙ ap (leaving left_over l) w.said ∙ go x;
      dry = w.dry;
      laid = λ v p room e here a q i small fits.
          w.laid v p room e here a q (exact_found left_over F s l p a q i).0 small fits;
    }
  where
    last : (room : ℕ) (a : A) (q : ℕ) (b : Bool)
        → (if b then Ok (q, room - length (F.tape a 0)) else Err (left_over q)) ≡ walk_onward (exact left_over F) room (need b (left_over q) (found a q))
    last room a q true = refl
    last room a q false = refl

    read : (room : ℕ) (y : Reading A)
        → leaving left_over l (walk_onward F room y) ≡ walk_onward (exact left_over F) room (and_then y (λ a q. need (leb l q) (left_over q) (found a q)))
    read room (refused e) = refl
    read room (found a q) = last room a q (leb l q)

    go : (x : Result (ℕ × ℕ) Refusal) → leaving left_over l (walked F s l x) ≡ walked (exact left_over F) s l x
    go (Err e) = ap (leaving left_over l) (walked_refused F s l e) ∙ sym (walked_refused (exact left_over F) s l e)
    go (Ok (p, room)) = ap (leaving left_over l) (walked_at F s l p room) ∙ read room (F.parse s l p) ∙ sym (walked_at (exact left_over F) s l p room)

-- the last of several things fills the part where all of them do
module _ {A : Type 0} {B : A → Type 0} (left_over : ℕ → Refusal) (F : Format A) (G : (a : A) → Format (B a)) {s : List ℕ} {l : ℕ} {x : Result (ℕ × ℕ) Refusal} {wet : Bool}
    {t : List ℕ} {r : Result (ℕ × ℕ) Refusal} {t' : List ℕ} where
  pub exact_last : Walked (followed F (λ a. exact left_over (G a))) s l x wet t r t' → Walked (exact left_over (followed F G)) s l x wet t r t'
  unfolding exact followed
  exact_last w = renamed {F = followed F (λ a. exact left_over (G a))} (λ z. z) (λ p room e. first (F.parse s l p)) (λ z p q k e. refl) w
    where
      third : (a : A) (b : B a) (v : ℕ) (u : Bool)
          → need u (left_over v) (let z : (a : A) × B a = (a, b) in found z v)
          ≡ and_then (and_then (need u (left_over v) (found b v)) (λ b v. let z : (a : A) × B a = (a, b) in found z v)) (λ z q. found z q)
      third a b v true = refl
      third a b v false = refl

      second : (a : A) (y : Reading (B a))
          → and_then (and_then y (λ b v. let z : (a : A) × B a = (a, b) in found z v)) (λ z q. need (leb l q) (left_over q) (found z q))
          ≡ and_then (and_then (and_then y (λ b q. need (leb l q) (left_over q) (found b q))) (λ b v. let z : (a : A) × B a = (a, b) in found z v)) (λ z q. found z q)
      second a (refused e) = refl
      second a (found b v) = third a b v (leb l v)

      first : (y : Reading A)
          → and_then (and_then y (λ a q. and_then ((G a).parse s l q) (λ b v. let z : (a : A) × B a = (a, b) in found z v))) (λ z q. need (leb l q) (left_over q) (found z q))
          ≡ and_then (and_then y (λ a q. and_then (and_then ((G a).parse s l q) (λ b q. need (leb l q) (left_over q) (found b q))) (λ b v. let z : (a : A) × B a = (a, b) in found z v))) (λ z q. found z q)
      first (refused e) = refl
      first (found a q) = second a ((G a).parse s l q)

pub exact_pair : {A B : Type 0} {F : Format A} {G : Format B} (left_over : ℕ → Refusal) {s : List ℕ} {l : ℕ} {x : Result (ℕ × ℕ) Refusal} {wet : Bool} {t : List ℕ} {r : Result (ℕ × ℕ) Refusal} {t₁ : List ℕ} {r' : Result (ℕ × ℕ) Refusal} {t₂ : List ℕ}
    → Lawful F → Lawful G → Walked F s l x wet t r t₁ → Walked (exact left_over G) s l r wet t₁ r' t₂ → Walked (exact left_over (F ▷ G)) s l x wet t r' t₂
exact_pair {F} {G} left_over f g w v = exact_last left_over F (λ a. G) (pair f (exact_filling left_over G g).formal w v)

-- ---- a value judged once it was read

module _ (refusal : ℕ → Refusal) {x y : Result (ℕ × ℕ) Refusal} (holds : Bool) where
  pub judged_before : {e : Refusal} → x ≡ Err e → y ≡ judged_from refusal x holds y
  unfolding judged_from
  judged_before h = rw h

  module _ {p room : ℕ} (h : x ≡ Ok (p, room)) where
    pub judged_refused : {e : Refusal} → y ≡ Err e → Err e ≡ judged_from refusal x holds y
    unfolding judged_from
    judged_refused k = rw (h, k)

    module _ {q left : ℕ} (k : y ≡ Ok (q, left)) where
      pub judged_holds : holds ≡ true → Ok (q, left) ≡ judged_from refusal x holds y
      unfolding judged_from
      judged_holds b = rw (h, k, b)

      pub judged_fails : holds ≡ false → Err (refusal p) ≡ judged_from refusal x holds y
      unfolding judged_from
      judged_fails b = rw (h, k, b)

-- what is refused before its end is not judged
pub judged_stop : (refusal : ℕ → Refusal) (x : Result (ℕ × ℕ) Refusal) (holds : Bool) {e : Refusal} → Err e ≡ judged_from refusal x holds (Err e)
unfolding judged_from
judged_stop refusal (Ok (p, room)) holds = refl
judged_stop refusal (Err r) holds = refl

-- the test says of what F found whether it is at fault
pub only_walk : {A : Type 0} {F : Format A} {fault : A → ℕ → Fault} (refusal : ℕ → Refusal) {s : List ℕ} {l : ℕ} {x : Result (ℕ × ℕ) Refusal} {wet : Bool} {t : List ℕ} {r : Result (ℕ × ℕ) Refusal} {t' : List ℕ} {r' : Result (ℕ × ℕ) Refusal} (holds : Bool)
    → ((a : A) (p q room : ℕ) → x ≡ Ok (p, room) → F.parse s l p ≡ found a q → fault a p ≡ unless holds (refusal p))
    → Walked F s l x wet t r t' → r' ≡ judged_from refusal x holds r → Walked (only fault F) s l x wet t r' t'
unfolding only judged_from
only_walk {A} {F} {fault} refusal {s} {l} {x} holds says w h =
    record {
      said = h ∙ ap (judged_from refusal x holds) w.said ∙ go x says;
      dry = w.dry;
      laid = λ v p room e here a q i small fits.
          let d = and_then_found (F.parse s l p) _ a q i in
          w.laid v p room e here a q (d.2 ∙ (judged_found (fault d.0 p) _ a q d.3).1) small fits;
    }
  where
    last : (p room : ℕ) (a : A) (q : ℕ) (b : Bool)
        → (if b then Ok (q, room - length (F.tape a 0)) else Err (refusal p)) ≡ walk_onward (only fault F) room (judged (unless b (refusal p)) (found a q))
    last p room a q true = refl
    last p room a q false = refl

    read : (p room : ℕ) (y : Reading A) → ((a : A) (q : ℕ) → y ≡ found a q → fault a p ≡ unless holds (refusal p))
        → judged_from refusal (Ok (p, room)) holds (walk_onward F room y) ≡ walk_onward (only fault F) room (and_then y (λ a q. judged (fault a p) (found a q)))
    read p room (refused e) k = refl
    read p room (found a q) k = last p room a q holds ∙ ap (λ f. walk_onward (only fault F) room (judged f (found a q))) (sym (k a q refl))

    go : (x : Result (ℕ × ℕ) Refusal) → ((a : A) (p q room : ℕ) → x ≡ Ok (p, room) → F.parse s l p ≡ found a q → fault a p ≡ unless holds (refusal p))
        → judged_from refusal x holds (walked F s l x) ≡ walked (only fault F) s l x
    go (Err e) k = walked_refused F s l e ∙ sym (walked_refused (only fault F) s l e)
    go (Ok (p, room)) k =
        ap (judged_from refusal (Ok (p, room)) holds) (walked_at F s l p room) ∙ read p room (F.parse s l p) (λ a q. k a p q room refl) ∙ sym (walked_at (only fault F) s l p room)
