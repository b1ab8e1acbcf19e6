-- Walks through things that repeat to the end of their part: their entries go after a gap of one, and at the end their count into the gap.
use Prim.Native.Nat.{ℕ, zero, suc, ◌+◌, ◌-◌, ◌≤◌, ◌<◌}
use Rattle.std.specs.Prelude.{Result, Ok, Err}
use mathlib.Core.Path.{◌≡◌, refl, sym, ap, ap₂, ◌∙◌, subst, subst₂}
use mathlib.Core.List.{List, [], ◌∷◌}
use mathlib.Core.Bool.{Bool, true, false}
use native.Mathlib.Omega.{arith}
use lib.ListN.{length, length-append}
use borrow.Author.Tests.{le-leb}
use Rattle.ground_choices.proofs.Tests.{and_of}
use Rattle.ground_placing.specs.Placed.{placed}
use Rattle.ground_placing.proofs.Placing.{placed_before}
use Rattle.ground_refusal.specs.declared.Refusal.{Refusal}
use Rattle.ground_refusal.proofs.Exits.{ok_pair_inj}
use Rattle.body_formats.specs.Reading.{Reading, found, refused, and_then}
use Rattle.body_formats.specs.Format.{Format, followed, ◌▷◌, print_all, every, some, tape_all, parse_many, many}
use Rattle.body_formats.specs.Answers.{step_of, ended}
use Rattle.body_formats.proofs.Outcomes.{found_inj, not_found, and_then_found}
use Rattle.body_formats.proofs.Classes.{Bytes, Lawful}
use Rattle.body_formats.proofs.Stand.{stands_join}
use Rattle.body_formats.proofs.Lists.{all_steady, many_filling}
use Rattle.body_formats.proofs.Readers.{step_refused}
use Rattle.body_formats.proofs.Inner.{forward, many_stop as stops_at, many_go}
use Rattle.body_walk.specs.Walked.{walk_onward, Inside, Walked}
use Rattle.body_walk.proofs.Pairs.{walked_at, from, stays, empty, passed, went_on, stopped, dependent, renamed, regroup}
use Rattle.body_walk.proofs.Counts.{Ahead, ahead_start}

-- the things without their count
unfoldable pub things : {A : Type 0} → Format A → Format (List A)
things F =
    record {
      parse = (many F).parse;
      print = (many F).print;
      writable = (many F).writable;
      too_large = (many F).too_large;
      form = (many F).form;
      tape = λ xs p. tape_all F xs p;
    }

-- A walk under way: n things lie behind, from p with this room up to `at` with the room `left`, and one entry before theirs is free.
pub record Along {A : Type 0} (F : Format A) (s : List ℕ) (l p room : ℕ) (wet : Bool) (t : List ℕ) (n at left : ℕ) (t' : List ℕ) : Type 0 where
  pub ahead : Ahead (things F) s l (Ok (p, room - 1)) wet t (things F) (Ok (at, left)) t'
  pub behind : (xs : List A) (q : ℕ) → (many F).parse s l p ≡ found xs q → (ys : List A) × ((many F).parse s l at ≡ found ys q) × (length xs ≡ n + length ys)
  pub small : n ≤ at

pub many_start : {A : Type 0} {F : Format A} {s : List ℕ} {l p room : ℕ} {wet : Bool} {t : List ℕ} {left : ℕ} → left ≡ room - 1
    → Along F s l p room wet t 0 p left t
many_start {F} {s} {l} {p} {room} {wet} {t} e =
    record {
      ahead = subst (λ m. Ahead (things F) s l (Ok (p, room - 1)) wet t (things F) (Ok (p, m)) t) (sym e) ahead_start;
      behind = λ xs q h. (xs, h, omega arith);
      small = omega arith;
    }

many_none : {A : Type 0} (F : Format A) (s : List ℕ) (l p : ℕ) → l ≤ p → (many F).parse s l p ≡ found [] p
unfolding many parse_many
many_none {A} F s l p h = go (l - p)
  where
    go : (k : ℕ) → parse_many F k s l p ≡ found [] p
    go zero = rw (le-leb l p h)
    go (suc k) = rw (le-leb l p h)

module _ {A : Type 0} (F : Format A) (f : Lawful F) (takes : (a : A) → 0 < length (F.print a)) (s : List ℕ) (b : Bytes s) (l : ℕ) (inb : l ≤ length s) where
  -- what stands after a thing that was found stands after it in the list
  cons_found : (p : ℕ) (a : A) (q : ℕ) (xs : List A) (r : ℕ) → p ≤ l → F.parse s l p ≡ found a q → (many F).parse s l q ≡ found xs r
      → (many F).parse s l p ≡ found (a ∷ xs) r
  unfolding many print_all every some
  cons_found p a q xs r h e g =
      let u = f.forth s l p a q b inb h e in
      let v = (many_filling F f takes).forth s l q xs r b inb u.inside g in
      let z = (many_filling F f takes).ends s l q xs r b inb u.inside g in
      (many_filling F f takes).back s l p (a ∷ xs) (record { writable = and_of u.ok.writable v.ok.writable; small = rw (u.ok.small, v.ok.small) })
      (stands_join s p (F.print a) (print_all F.print xs) u.stands (rw u.next at v.stands))
      (simp length-append (omega (arith, u.next, v.next, z))) inb
      ∙ ap (found (a ∷ xs)) (sym z)

  -- a thing, and then those after it
  many_cons : (p : ℕ) → p < l → (many F).parse s l p ≡ and_then (F.parse s l p) (λ a q. and_then ((many F).parse s l q) (λ xs r. found (a ∷ xs) r))
  unfolding ended
  many_cons p h = first (F.parse s l p) refl
    where
      second : (a : A) (q : ℕ) → F.parse s l p ≡ found a q → (y : Reading (List A)) → (many F).parse s l q ≡ y
          → (many F).parse s l p ≡ and_then y (λ xs r. found (a ∷ xs) r)
      second a q e (found xs r) g = cons_found p a q xs r (omega arith) e g
      second a q e (refused r) g = step_refused (many F) s l p r (ap step_of (sym g) ∙ sym (many_go F f takes s b l inb p q h (ap step_of (sym e))))

      first : (y : Reading A) → F.parse s l p ≡ y → (many F).parse s l p ≡ and_then y (λ a q. and_then ((many F).parse s l q) (λ xs r. found (a ∷ xs) r))
      first (refused r) e = step_refused (many F) s l p r (stops_at F f takes s b l inb p r h (ap step_of (sym e)))
      first (found a q) e = second a q e ((many F).parse s l q) refl

-- a fact of a position and a room holds of those that a walk stands at
at_this : (P : ℕ → ℕ → Type 0) {p room p' room' : ℕ} → ◌≡◌ {A = Result (ℕ × ℕ) Refusal} (Ok (p, room)) (Ok (p', room')) → P p room → P p' room'
at_this P e h = let z = ok_pair_inj e in subst₂ P z.0 z.1 h

module _ {A : Type 0} {F : Format A} (f : Lawful F) (takes : (a : A) → 0 < length (F.print a)) {s : List ℕ} (b : Bytes s) {l : ℕ} (inb : l ≤ length s)
    {wet : Bool} where
  things_more : {at left : ℕ} {t : List ℕ} {y : Result (ℕ × ℕ) Refusal} {t₁ : List ℕ} {r : Result (ℕ × ℕ) Refusal} {t₂ : List ℕ} → at < l → Walked F s l (Ok (at, left)) wet t y t₁
      → Walked (things F) s l y wet t₁ r t₂ → Walked (things F) s l (Ok (at, left)) wet t r t₂
  unfolding things followed tape_all
  things_more {at} {left} h w v =
      renamed {F = F ▷ things F} (λ z. z.0 ∷ z.1)
      (λ p room e. at_this (λ p room. p < l → (many F).parse s l p ≡ and_then ((F ▷ things F).parse s l p) (λ z q. found (z.0 ∷ z.1) q)) e
      (λ k. many_cons F f takes s b l inb at k ∙ regroup (λ a xs. a ∷ xs) (F.parse s l at) (λ a q. (many F).parse s l q)) (at_this (λ p room. p < l) e h))
      (λ z p q k e. refl)
      (dependent f (λ a xs p. all_steady F f xs p 0) w (λ a p q room e i. v) (passed v) v.dry)

  module _ {at left : ℕ} {t' : List ℕ} {y : Result (ℕ × ℕ) Refusal} {t'' : List ℕ} (h : at < l) (w : Walked F s l (Ok (at, left)) wet t' y t'') where
    -- a thing takes a byte at least
    pub many_nearer : {q m : ℕ} → y ≡ Ok (q, m) → (at < q) × (q ≤ l)
    many_nearer {q} e = forward F f takes s b l inb at (went_on w e).0 q (omega arith) (went_on w e).1

    module _ {p room : ℕ} {t : List ℕ} {n : ℕ} (a : Along F s l p room wet t n at left t') where
      pub many_turn : {q m : ℕ} → y ≡ Ok (q, m) → length t'' ≡ length t' → Along F s l p room wet t (n + 1) q m t''
      many_turn {q} {m} e same =
          record {
            ahead = record {
              same = same ∙ a.ahead.same;
              whole = λ r t''' v. a.ahead.whole r t''' (things_more h w (from e v));
            };
            behind = λ xs v i.
                let d = a.behind xs v i in
                let g = went_on w e in
                let j = and_then_found ((many F).parse s l q) _ d.0 v
                (sym (ap (λ y. and_then y (λ a q. and_then ((many F).parse s l q) (λ xs r. found (a ∷ xs) r))) g.1) ∙ sym (many_cons F f takes s b l inb at h) ∙ d.1) in
                let z = found_inj j.3 in
                (j.0, j.2 ∙ ap (found j.0) z.1, omega (arith, d.2, ap length z.0));
            small = omega (arith, a.small, (many_nearer e).0);
          }

      pub many_stop : {e : Refusal} → y ≡ Err e → Walked (many F) s l (Ok (p, room)) wet t (Err e) t''
      unfolding things
      many_stop {e} i =
          let v = a.ahead.whole (Err e) t'' (things_more h w (stays i)) in
          let no : (many F).parse s l p ≡ refused e = stopped v refl in
          record {
            said = sym (walked_at (many F) s l p room ∙ ap (walk_onward (many F) room) no);
            dry = v.dry;
            laid = λ d p' room' j here xs q k small fits. absurd (not_found (sym no ∙ at_this (λ p room. (many F).parse s l p ≡ found xs q) (sym j) k));
          }

module _ {A : Type 0} {F : Format A} {s : List ℕ} {l p room : ℕ} {wet : Bool} {t : List ℕ} {n at left : ℕ} {t' : List ℕ} (h : l ≤ at)
    (a : Along F s l p room wet t n at left t') where
  -- no byte is left: what lies behind is all
  all_behind : Walked (things F) s l (Ok (p, room - 1)) wet t (Ok (at, left)) t'
  unfolding things tape_all
  all_behind = a.ahead.whole (Ok (at, left)) t' (empty [] (λ p room e. at_this (λ p room. (many F).parse s l p ≡ found [] p) e (many_none F s l at h)) (λ k. refl))

  all_counted : (xs : List A) (q : ℕ) → (many F).parse s l p ≡ found xs q → n ≡ length xs
  all_counted xs q e =
      let d = a.behind xs q e in
      omega (arith, d.2, ap length (found_inj (sym d.1 ∙ many_none F s l at h)).0)

  -- the count goes into its gap, before the entries of the things
  pub many_done : {t'' : List ℕ} → (wet ≡ false → t'' ≡ t') → (wet ≡ true → 1 < room → room ≤ length t' + 1 → t'' ≡ placed t' (length t' + 1 - room) (n ∷ []))
      → Walked (many F) s l (Ok (p, room)) wet t (Ok (at, left)) t''
  unfolding things many
  many_done {t''} dry put =
      let d = went_on all_behind refl in
      let less : left ≡ room - suc (length (tape_all F d.0 0)) = omega (arith, d.2) in
      record {
        said = ap (λ b. Ok (at, b)) less ∙ sym (walked_at (many F) s l p room ∙ ap (walk_onward (many F) room) d.1);
        dry = λ e. dry e ∙ all_behind.dry e;
        laid = λ v p' room' e.
            at_this (λ p room. Inside s l p → (xs : List A) (q : ℕ) → (many F).parse s l p ≡ found xs q → length ((many F).tape xs p) < room → room ≤ length t + 1
            → t'' ≡ placed t (length t + 1 - room) ((many F).tape xs p)) e (here v);
      }
    where
      here : wet ≡ true → Inside s l p → (xs : List A) (q : ℕ) → (many F).parse s l p ≡ found xs q → suc (length (tape_all F xs p)) < room → room ≤ length t + 1
          → t'' ≡ placed t (length t + 1 - room) (length xs ∷ tape_all F xs p)
      here v i xs q k small fits =
          let same = a.ahead.same in
          let gap = length t + 1 - room in
          let after : length t + 1 - (room - 1) ≡ gap + 1 = omega arith in
          let place : length t' + 1 - room ≡ gap = omega arith in
          let one : t' ≡ placed t (gap + 1) (tape_all F xs p) =
          all_behind.laid v p (room - 1) refl i xs q k (omega arith) (omega arith) ∙ ap (λ j. placed t j (tape_all F xs p)) after in
          put v (omega arith) (omega arith) ∙ ap₂ (λ d j. placed d j (n ∷ [])) one place ∙ placed_before t gap (n ∷ []) (tape_all F xs p) (gap + 1) refl (omega arith)
          ∙ ap (λ m. placed t gap (m ∷ tape_all F xs p)) (all_counted xs q k)
