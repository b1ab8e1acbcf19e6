-- Laws of a pen through a message's identifier: its digits, and then the day that they are.
use Prim.Native.Nat.{ℕ, suc, ◌+◌, ◌≤◌, ◌<◌}
use Rattle.std.specs.Prelude.{Result, Ok, Err}
use mathlib.Core.Path.{◌≡◌, refl, sym, ap, ◌∙◌}
use mathlib.Core.List.{List}
use mathlib.Core.Bool.{true, false}
use native.Mathlib.Omega.{arith}
use lib.ListN.{length, get_or}
use lib.Dec.{leb, eqb}
use borrow.Author.Tests.{leb-true, eqb-true}
use Rattle.ground_refusal.specs.declared.Refusal.{Refusal}
use Rattle.ground_refusal.specs.declared.Refusal.TheVariants.{DigitAboveNine, OutsideSet, ImpossibleDay}
use Rattle.ground_refusal.proofs.Exits.{ok_pair_inj}
use Rattle.body_formats.specs.Reading.{Reading, found, refused, unless}
use Rattle.body_formats.specs.Format.{span, halves, tail, decimal, digits}
use Rattle.body_formats.specs.Identifier.{identifier_pairs, identifier_bytes, has_real_day, unreal_day, identifier}
use Rattle.body_formats.proofs.Outcomes.{found_inj, and_then_found, need_found}
use Rattle.body_formats.proofs.Identifiers.{digits_in}
use Rattle.body_pen.specs.Penned.{penned}
use Rattle.body_pen.proofs.Leaves.{span_length}
use Rattle.body_pen.proofs.Pairs.{pen_onward_lem, only_fine, only_faulty, only_stopped}

-- digits that a form lays out stand in the pool, where their first entry says
pub digits_laid : (h : ℕ) (pool tape : List ℕ) (k : ℕ) (ds : List ℕ) (j : ℕ) → (digits h).form pool tape k ≡ found ds j
    → (k < length tape) × (get_or tape k 0 + suc h ≤ length pool) × (ds ≡ digits_in pool (get_or tape k 0) (suc h))
unfolding digits span
digits_laid h pool tape k ds j e =
    let s = and_then_found (span pool tape k) _ ds j e in
    let entries = need_found (leb (k + 2) (length tape)) (OutsideSet k) _ s.0 s.1 s.2 in
    let inside = need_found (leb (get_or tape k 0 + get_or tape (k + 1) 0) (length pool)) (OutsideSet k) _ s.0 s.1 entries.1 in
    let bytes = (found_inj inside.1).0 in
    let many = need_found (eqb (length s.0) (suc h)) (OutsideSet k) _ ds j s.3 in
    let right = need_found (decimal (tail (halves s.0))) (DigitAboveNine k) _ ds j many.1 in
    let fits = leb-true (get_or tape k 0 + get_or tape (k + 1) 0) (length pool) inside.0 in
    let n : get_or tape (k + 1) 0 ≡ suc h =
    sym (span_length pool (get_or tape k 0) (get_or tape (k + 1) 0) fits) ∙ ap length bytes ∙ eqb-true (length s.0) (suc h) many.0 in (
      omega (arith, leb-true (k + 2) (length tape) entries.0),
      omega (arith, fits, n),
      sym (found_inj right.1).0 ∙ ap (λ (bs : List ℕ). tail (halves bs)) (sym bytes) ∙ ap (λ (m : ℕ). digits_in pool (get_or tape k 0) m) n,
    )

module _ (pool tape : List ℕ) (x y : Result (ℕ × ℕ) Refusal) (p : y ≡ penned (digits identifier_pairs) pool tape x) where
  -- a pen that stopped before the digits' end went through none
  pub identifier_stopped : (r : Refusal) → y ≡ Err r → Err r ≡ penned identifier pool tape x
  unfolding identifier
  identifier_stopped r e = only_stopped unreal_day (digits identifier_pairs) pool tape x r (sym e ∙ p)

  module _ (size k : ℕ) (here : x ≡ Ok (size, k)) (q : ℕ × ℕ) (e : y ≡ Ok q) where
    -- one that did not went through those that stand in the pool
    past : (ds : List ℕ) × (i : ℕ) × ((digits identifier_pairs).form pool tape k ≡ found ds i)
    past = go ((digits identifier_pairs).form pool tape k) refl
      where
        go : (z : Reading (List ℕ)) → (digits identifier_pairs).form pool tape k ≡ z → (ds : List ℕ) × (i : ℕ) × ((digits identifier_pairs).form pool tape k ≡ found ds i)
        go (found ds m) f = (ds, m, f)
        go (refused r) f =
            let o = sym e ∙ p ∙ pen_onward_lem (digits identifier_pairs) pool tape x size k here (refused r) f in
            absurd (let z : ◌≡◌ {A = ℕ} 0 1 = cc in omega arith)

    pub identifier_laid : (k < length tape) × (get_or tape k 0 + identifier_bytes ≤ length pool)
    identifier_laid = let f = past in let l = digits_laid identifier_pairs pool tape k f.0 f.1 f.2 in (l.0, l.1)

    same_day : (size' k' : ℕ) → x ≡ Ok (size', k') → (ds : List ℕ) (i : ℕ) → (digits identifier_pairs).form pool tape k' ≡ found ds i
        → (k ≡ k') × (has_real_day ds ≡ has_real_day (digits_in pool (get_or tape k 0) identifier_bytes))
    same_day size' k' h ds i f =
        let z = (ok_pair_inj (sym here ∙ h)).1 in
        (z, ap has_real_day ((digits_laid identifier_pairs pool tape k' ds i f).2 ∙ ap (λ (m : ℕ). digits_in pool (get_or tape m 0) identifier_bytes) (sym z)))

    pub identifier_real : has_real_day (digits_in pool (get_or tape k 0) identifier_bytes) ≡ true → Ok q ≡ penned identifier pool tape x
    unfolding identifier
    identifier_real t =
        sym e ∙ p ∙ sym (only_fine unreal_day (digits identifier_pairs) pool tape x
        (λ size' k' h ds i f. ap (λ b. unless b (ImpossibleDay k')) ((same_day size' k' h ds i f).1 ∙ t)))

    pub identifier_unreal : has_real_day (digits_in pool (get_or tape k 0) identifier_bytes) ≡ false → Err (ImpossibleDay k) ≡ penned identifier pool tape x
    unfolding identifier
    identifier_unreal t =
        only_faulty unreal_day (digits identifier_pairs) pool tape x (ImpossibleDay k) (λ size' k' h ds i f.
        let s = same_day size' k' h ds i f in
        ap (λ b. unless b (ImpossibleDay k')) (s.1 ∙ t) ∙ ap (λ (i : ℕ). unless false (ImpossibleDay i)) (sym s.0)) q (sym e ∙ p)
