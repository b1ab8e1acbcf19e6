-- Laws of where a good section begins: how long it is, what it states, and that no other number of bytes from there on is good.
use Prim.Native.Nat.{ℕ, suc, ◌+◌, ◌≤◌, ◌<◌}
use mathlib.Core.Bool.{Bool, true, false, not}
use mathlib.Core.List.{List, [], ◌∷◌, ◌++◌}
use mathlib.Core.Path.{◌≡◌, refl, sym, ap, ◌∙◌}
use native.Mathlib.Omega.{arith}
use lib.Dec.{ltb}
use lib.ListN.{length, get_or, take, drop, length-take, length-drop, take-append-drop, get_or-append}
use lib.Seq.{take_at, take_all, length-take-le}
use Rattle.std.specs.Prelude.{if◌then◌else◌, Result, Ok, Err}
use Rattle.ground_choices.proofs.Tests.{past, refuted}
use Rattle.ground_refusal.specs.declared.Refusal.{Refusal}
use Rattle.section_reader.specs.Section.{section_length, length_in_range, read_section, stated_length}
use Rattle.section_reader.specs.declared.Heading.{Heading}
use Rattle.section_reader.proofs.Accepting.{accepted, framed_long, good_states}
use Rattle.salvage.specs.Reading.{is_good, stated, begins, good_length}

-- a good judgement has a heading
heading_of_lem : (x : Result (Heading × ℕ) Refusal) → is_good x ≡ true → (h : Heading) × ((n : ℕ) × (x ≡ Ok (h, n)))
heading_of_lem (Ok (h, n)) e = (h, (n, refl))
heading_of_lem (Err r) e = absurd (let z : ◌≡◌ {A = ℕ} 0 1 = cc in omega arith)

pub good_long : (s : List ℕ) → is_good (read_section s) ≡ true → (12 ≤ length s) × (length s ≤ 4096)
good_long s e = let g = heading_of_lem (read_section s) e in framed_long s (accepted s g.0 g.1.0 g.1.1).framed

-- a good section states its length, whatever stands after it
pub good_stated : (s t : List ℕ) → is_good (read_section s) ≡ true → stated_length (s ++ t) ≡ Ok (length s)
good_stated s t e = let g = heading_of_lem (read_section s) e in good_states s t g.0 g.1.0 g.1.1

-- a stated length is section_length, and the three bytes up to its end
pub length_stated : (s : List ℕ) (n : ℕ) → stated_length s ≡ Ok n → n ≡ section_length s + 3
unfolding stated_length
length_stated s n e =
    let a = past (ltb (length s) 3) _ _ _ never e in
    let b = past (not (length_in_range (section_length s))) _ _ _ never a.1 in
    let l = b.1 in
    cc
  where
    never : {r : Refusal} → Err r ≡ Ok n → ⊥
    never e = let z : ◌≡◌ {A = ℕ} 0 1 = cc in omega arith

-- ---- the section that begins a byte string

own_is : (s : List ℕ) → stated s ≡ take (section_length s + 3) s
unfolding stated
own_is s = refl

pub stated_take : (s : List ℕ) (n : ℕ) → stated_length s ≡ Ok n → stated s ≡ take n s
stated_take s n e = rw (length_stated s n e) (own_is s)

pub begins_is : (s : List ℕ) → begins s ≡ is_good (read_section (stated s))
unfolding begins
begins_is s = refl

stated_within : (s : List ℕ) → length (stated s) ≤ length s
stated_within s = rw (own_is s, length-take) (omega arith)

pub begins_long : (s : List ℕ) → begins s ≡ true → (12 ≤ length (stated s)) × ((length (stated s) ≤ 4096) × (length (stated s) ≤ length s))
begins_long s e = let l = good_long (stated s) (sym (begins_is s) ∙ e) in (l.0, (l.1, stated_within s))

pub begins_none : begins [] ≡ false
begins_none = sym (refuted (begins []) (λ e. let l = begins_long [] e in omega arith))

stated_then : (s : List ℕ) → stated s ++ drop (section_length s + 3) s ≡ s
stated_then s = rw (own_is s) (take-append-drop (section_length s + 3) s)

-- its length is the one that is stated
pub begins_states : (s : List ℕ) → begins s ≡ true → stated_length s ≡ Ok (length (stated s))
begins_states s e =
    ap stated_length (sym (stated_then s)) ∙ good_stated (stated s) (drop (section_length s + 3) s) (sym (begins_is s) ∙ e)

-- so of the bytes from a place on no other number is good
pub good_begins : (s t : List ℕ) → is_good (read_section s) ≡ true → (stated (s ++ t) ≡ s) × (begins (s ++ t) ≡ true)
good_begins s t e = (own, begins_is (s ++ t) ∙ ap (λ l. is_good (read_section l)) own ∙ e)
  where
    own : stated (s ++ t) ≡ s
    own = stated_take (s ++ t) (length s) (good_stated s t e) ∙ take_at s t (length s) refl

pub none_good : (s : List ℕ) (n : ℕ) → begins s ≡ false → is_good (read_section (take n s)) ≡ false
none_good s n no_section = sym (refuted _ (λ e. clash (good_begins (take n s) (drop n s) e).1))
  where
    clash : begins (take n s ++ drop n s) ≡ true → ⊥
    clash e = let b = rw (take-append-drop n s) at e in let z : ◌≡◌ {A = ℕ} 0 1 = cc in omega arith

-- the bytes that it fills
pub stated_part : (s : List ℕ) → take (length (stated s)) s ≡ stated s
stated_part s =
    ap (take (length (stated s))) (sym (stated_then s)) ∙ take_at (stated s) (drop (section_length s + 3) s) (length (stated s)) refl

-- ---- its length, and 0 where there is none

pub length_some : (s : List ℕ) → begins s ≡ true → good_length s ≡ length (stated s)
unfolding good_length
length_some s e = rw e

pub length_none : (s : List ℕ) → begins s ≡ false → good_length s ≡ 0
unfolding good_length
length_none s e = rw e

-- no section begins where no length is stated, or more than there is
pub none_said : (s : List ℕ) (r : Refusal) → stated_length s ≡ Err r → begins s ≡ false
none_said s r e = sym (refuted (begins s) (λ k. let l = begins_states s k in let z : ◌≡◌ {A = ℕ} 0 1 = cc in omega arith))

pub none_past : (s : List ℕ) (n : ℕ) → stated_length s ≡ Ok n → length s < n → begins s ≡ false
none_past s n e h =
    sym
    (refuted (begins s)
    (λ k. let l = begins_states s k in let z : n ≡ length (stated s) = cc in omega (arith, begins_long s k)))

-- a byte string is looked at as far as it states
pub length_as_judged : (s : List ℕ) (n : ℕ) → n ≤ length s → stated_length s ≡ Ok n → (t : Bool) → t ≡ is_good (read_section (take n s))
    → (t ≡ true → n ≡ good_length s) × (t ≡ false → 0 ≡ good_length s)
length_as_judged s n within e t judged = (some, none)
  where
    at : begins s ≡ t
    at = begins_is s ∙ ap (λ l. is_good (read_section l)) (stated_take s n e) ∙ sym judged

    some : t ≡ true → n ≡ good_length s
    some k = sym (length_some s (at ∙ k) ∙ ap length (stated_take s n e) ∙ length-take-le n s within)

    none : t ≡ false → 0 ≡ good_length s
    none k = sym (length_none s (at ∙ k))

pub length_kept : (s : List ℕ) → (good_length s ≡ 0 → ⊥) → begins s ≡ true
length_kept s h = by (begins s) refl
  where
    by : (t : Bool) → begins s ≡ t → t ≡ true
    by true e = refl
    by false e = absurd (h (length_none s e))

pub length_not : (s : List ℕ) → good_length s ≡ 0 → begins s ≡ false
length_not s z = sym (refuted (begins s) (λ e. let l = begins_long s e in let k = length_some s e in omega arith))
