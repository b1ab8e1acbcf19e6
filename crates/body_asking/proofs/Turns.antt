-- Things that were read one after the other stand in turn, and the part answered is the one that they fill: by induction over the reading.
use Prim.Native.Nat.{ℕ, zero, suc, ◌+◌, ◌-◌, ◌≤◌, ◌<◌}
use Rattle.std.specs.Prelude.{Result, Ok}
use Rattle.ground_refusal.specs.declared.Refusal.{Refusal}
use mathlib.Core.Path.{◌≡◌, refl, sym, ap, ap₂, subst, ◌∙◌}
use mathlib.Core.List.{List, [], ◌∷◌}
use native.Mathlib.Omega.{arith}
use native.Mathlib.Nat.{le_refl}
use lib.ListN.{length, get_or, take, drop, length-drop}
use lib.Seq.{length-take-le}
use lib.Dec.{leb}
use Rattle.ground_refusal.specs.declared.Refusal.TheVariants.{PastPart}
use Rattle.body_formats.specs.Reading.{Reading, found, and_then}
use Rattle.body_formats.specs.Format.{Format, repeat, opaque, rest, parse_many, many, Length, length_of, counted}
use Rattle.body_formats.specs.Answers.{part_of}
use Rattle.body_formats.proofs.Outcomes.{found_inj, and_then_found, need_found, chosen}
use Rattle.body_formats.proofs.Classes.{Bytes, Filling}
use Rattle.body_formats.proofs.Stand.{taken}
use Rattle.body_formats.proofs.Parts.{counted_lawful, length_counts, opaque_next}
use Rattle.body_formats.proofs.Readers.{opaque_found}
use Rattle.body_asking.specs.Agreement.{FillsAt, FollowsLength, InTurn, HoldsInTurn}
use Rattle.body_asking.proofs.Sizes.{Sized}
use Rattle.body_asking.proofs.Parts.{part_holds, part_after_lem, part_begins}

-- ---- in turn

-- what follows of each follows of all
each_in_turn : {A : Type 0} (S T : ℕ → A → ℕ → ℕ → Type 0) → ((i : ℕ) (x : A) (p q : ℕ) → S i x p q → T i x p q)
    → (i : ℕ) (xs : List A) (p q : ℕ) → InTurn S i xs p q → InTurn T i xs p q
unfolding InTurn
each_in_turn S T f i [] p q h = h
each_in_turn S T f i (x ∷ xs) p q h = (h.0, f i x p h.0 h.1, each_in_turn S T f (suc i) xs h.0 q h.2)

-- one more after the others
one_more : {A : Type 0} (f : ℕ → Reading A) (i p : ℕ) (xs : List A) (q : ℕ) → repeat f i p ≡ found xs q → (y : A) (r : ℕ) → f q ≡ found y r
    → (ys : List A) × (repeat f (suc i) p ≡ found ys r)
unfolding repeat
one_more f zero p xs q e y r h = (y ∷ [], rw (ap f (found_inj e).1, h))
one_more f (suc i) p xs q e y r h =
    let a = and_then_found (f p) _ xs q e in
    let b = and_then_found (repeat f i a.1) _ xs q a.3 in
    let c = one_more f i a.1 b.0 b.1 b.2 y r (ap f (found_inj b.3).1 ∙ h) in
    (a.0 ∷ c.0, ap (λ z. and_then z (λ x t. and_then (repeat f (suc i) t) (λ zs u. found (x ∷ zs) u))) a.2 ∙ rw c.1)

-- the i-th thing of n is read at p by F, and the i before it, from `first` on, end there also if G reads them
pub record ReadAt {A B : Type 0} (F : Format A) (G : Format B) (s : List ℕ) (l n first i : ℕ) (x : A) (p q : ℕ) : Type 0 where
  pub among : i < n
  pub here : F.parse s l p ≡ found x q
  pub before : List B
  pub passed : repeat (G.parse s l) i first ≡ found before p

module _ {A B : Type 0} (F : Format A) (G : Format B) (s : List ℕ) (l : ℕ)
    (same : (p : ℕ) (a : A) (q : ℕ) → F.parse s l p ≡ found a q → (y : B) × (G.parse s l p ≡ found y q)) where
  read_on : (n first i : ℕ) (xs : List A) (p q : ℕ) (ys : List B) → n ≡ i + length xs → repeat (G.parse s l) i first ≡ found ys p
      → repeat (F.parse s l) (length xs) p ≡ found xs q → InTurn (ReadAt F G s l n first) i xs p q
  unfolding InTurn repeat
  read_on n first i [] p q ys m before e = (found_inj e).1
  read_on n first i (x ∷ xs) p q ys m before e =
      let a = and_then_found (F.parse s l p) _ (x ∷ xs) q e in
      let b = and_then_found (repeat (F.parse s l) (length xs) a.1) _ (x ∷ xs) q a.3 in
      let k = found_inj b.3 in
      let y = same p a.0 a.1 a.2 in
      let more = one_more (G.parse s l) i first ys p before y.0 a.1 y.1 in
      let this : a.0 ≡ x = ap (λ zs. get_or zs 0 x) k.0 in
      let others : b.0 ≡ xs = ap (drop 1) k.0 in (
        a.1,
        record { among = omega arith; here = a.2 ∙ ap (λ z. found z a.1) this; before = ys; passed = before },
        read_on n first (suc i) xs a.1 q more.0 (omega arith) more.1 (b.2 ∙ ap₂ found others k.1),
      )

  -- so each that was read stands in turn as T says, if that follows
  pub read_in_turn : (p : ℕ) (xs : List A) (q : ℕ) → repeat (F.parse s l) (length xs) p ≡ found xs q
      → (T : ℕ → A → ℕ → ℕ → Type 0) → ((i : ℕ) (x : A) (a r : ℕ) → ReadAt F G s l (length xs) p i x a r → T i x a r) → InTurn T 0 xs p q
  unfolding repeat
  read_in_turn p xs q e T t = each_in_turn (ReadAt F G s l (length xs) p) T t 0 xs p q (read_on (length xs) p 0 xs p q [] (omega arith) refl e)

-- ---- to the end of their part

one_before : {A : Type 0} (f : ℕ → Reading A) (p : ℕ) (a : A) (r n : ℕ) (xs : List A) (q : ℕ) → f p ≡ found a r → repeat f n r ≡ found xs q
    → repeat f (suc n) p ≡ found (a ∷ xs) q
unfolding repeat
one_before f p a r n xs q e h = rw (e, h)

-- things that reach to the end of their part are read one after the other
many_read : {A : Type 0} (F : Format A) (n : ℕ) (s : List ℕ) (l p : ℕ) (xs : List A) (q : ℕ) → parse_many F n s l p ≡ found xs q
    → repeat (F.parse s l) (length xs) p ≡ found xs q
unfolding parse_many repeat
many_read {A} F zero s l p xs q e =
    let g = found_inj (need_found (leb l p) (PastPart p) (found [] p) xs q e).1 in
    subst (λ (ys : List A). repeat (F.parse s l) (length ys) p ≡ found ys q) g.0 (ap (found []) g.1)
many_read {A} F (suc n) s l p xs q e =
    chosen (leb l p) (found [] p) _ xs q e (repeat (F.parse s l) (length xs) p ≡ found xs q)
    (λ t h. let g = found_inj h in subst (λ (ys : List A). repeat (F.parse s l) (length ys) p ≡ found ys q) g.0 (ap (found []) g.1))
    (λ t h.
    let a = and_then_found (F.parse s l p) _ xs q h in
    let b = and_then_found (parse_many F n s l a.1) _ xs q a.3 in
    let g = found_inj b.3 in
    let more = many_read F n s l a.1 b.0 b.1 b.2 in
    subst (λ (ys : List A). repeat (F.parse s l) (length ys) p ≡ found ys q) g.0
    (one_before (F.parse s l) p a.0 a.1 (length b.0) b.0 q a.2 (more ∙ ap (found b.0) g.1)))

-- a part after its length of k bytes holds its things in turn as T says, if that follows of each that is read in it
pub holds_in_turn : {A : Type 0} (L : Length) (k : ℕ) → Sized L.field k → (F : Format A) → Filling (many F) → (s : List ℕ) → Bytes s
    → (l p at : ℕ) → at ≡ p + k → (xs : List A) (q : ℕ) → (counted L (many F)).parse s l p ≡ found xs q
    → (T : A → ℕ → ℕ → Type 0) → (q ≤ length s → (x : A) (a r : ℕ) → F.parse s q a ≡ found x r → T x a r)
    → HoldsInTurn (λ i. T) s (part_of ((counted L rest).parse s l p)) at xs q
unfolding many
holds_in_turn L k z F f s b l p at from xs q e T t =
    let h = part_holds L (many F) f s b l p xs q e in
    let begins : h.at ≡ at = part_after_lem L k z (many F) f s b l p xs q e ∙ sym from in
    let size : h.size ≡ q - at = omega (arith, begins, h.ends) in
    let read = many_read F (q - h.at) s q h.at xs q h.inner in
    let turn = read_in_turn F F s q (λ u x r g. (x, g)) h.at xs q read (λ i. T) (λ i x u r g. t h.in_body_lem x u r g.here) in
    record {
      is = h.is ∙ ap₂ (λ (x y : ℕ). Ok (x, y)) begins size;
      ordered = omega (arith, begins, h.ends);
      in_body_lem = h.in_body_lem;
      in_turn = subst (λ (u : ℕ). InTurn (λ i. T) 0 xs u q) begins turn;
    }

-- ---- after their length

-- opaque bytes, which begin after their length of w bytes at p
pub opaque_fills_at : (s : List ℕ) → Bytes s → (l : ℕ) → l ≤ length s → (w p at : ℕ) → at ≡ p + w → (xs : List ℕ) (q : ℕ) → (opaque w).parse s l p ≡ found xs q
    → FillsAt s at (part_of ((opaque w).parse s l p)) xs × (at + length xs ≡ q)
opaque_fills_at s b l inside w p at from xs q e =
    let n = opaque_next s l b inside w p xs q e in
    let f = opaque_found s l p w xs q e in
    let begins : q - length xs ≡ at = omega (arith, n) in (
      record {
        is = ap part_of e ∙ ap (λ (u : ℕ). Ok (u, length xs)) begins;
        in_body_lem = omega (arith, n, f.1);
        bytes = ap (λ (u : ℕ). take (length xs) (drop u s)) (sym begins) ∙ f.3;
      },
      omega (arith, n),
    )

-- what fills a part of the body, which is read from where it begins to where it ends
pub follows_length : {A : Type 0} (w : ℕ) (F : Format A) → Filling F → (s : List ℕ) → Bytes s → (p : ℕ) (x : A) (q : ℕ)
    → (counted (length_of w) F).parse s (length s) p ≡ found x q
    → (size : ℕ) × FollowsLength w s (part_of ((opaque w).parse s (length s) p)) ((counted (length_of w) F).print x) p size q
    × (F.parse s (p + w + size) (p + w) ≡ found x (p + w + size))
follows_length w F f s b p x q e =
    let h = part_holds (length_of w) F f s b (length s) p x q e in
    let begins = part_begins w F f s b (length s) p x q e in
    let ends : q ≡ p + w + h.size = omega (arith, begins, h.ends) in
    let law = counted_lawful (length_of w) F (length_counts w F) f in
    let g = law.forth s (length s) p x q b (le_refl (length s)) (omega (arith, ends, h.in_body_lem)) e in
    let xs = (counted (length_of w) F).print x in
    let long : w + h.size ≡ length xs = omega (arith, ends, g.next) in (
      h.size,
      record {
        is = h.is ∙ ap (λ (u : ℕ). Ok (u, h.size)) begins;
        ends = sym ends;
        in_body_lem = h.in_body_lem;
        bytes = ap (λ (u : ℕ). take u (drop p s)) long ∙ taken s p xs g.stands;
      },
      ap₂ (F.parse s) (sym ends) (sym begins) ∙ h.inner ∙ ap (found x) ends,
    )

-- so many bytes stand there, with those of the length
pub follows_takes : (w : ℕ) (s : List ℕ) (part : Result (ℕ × ℕ) Refusal) (xs : List ℕ) (p size q : ℕ) → FollowsLength w s part xs p size q → length xs ≡ w + size
follows_takes w s part xs p size q f =
    sym (ap length f.bytes) ∙ length-take-le (w + size) (drop p s) (simp length-drop (omega (arith, f.ends, f.in_body_lem)))
