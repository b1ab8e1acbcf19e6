-- Laws of an unfinished section: it is shorter than its frame says, and what more bytes make of it.
use Prim.Native.Nat.{ℕ, zero, suc, ◌+◌, ◌-◌, ◌≤◌, ◌<◌}
use mathlib.Core.Bool.{Bool, true, false, not, ◌&&◌}
use mathlib.Core.List.{List, [], ◌∷◌, ◌++◌}
use mathlib.Core.Path.{◌≡◌, refl, sym, ap, ◌∙◌, subst}
use native.Mathlib.Omega.{arith}
use borrow.Author.Tests.{leb-true, leb-false, ltb-false, not-true}
use lib.Dec.{leb, ltb}
use lib.ListN.{length, take, drop, length-append}
use lib.Seq.{take-append-add}
use Rattle.std.specs.Prelude.{if◌then◌else◌}
use Rattle.ground_choices.proofs.Tests.{both}
use Rattle.ground_numbers.specs.Sizes.{section_length_most}
use Rattle.section_reader.specs.Section.{section_length}
use Rattle.packet_frames.specs.declared.Frame.{Frame}
use Rattle.packet_frames.specs.declared.Frame.TheVariants.{Nothing, Whole, Open}
use Rattle.packet_frames.specs.Framing.{at_stuffing, framed, too_long, is_whole, is_begun, unfinished_most, nothing, longer, gone_on, before, begun_in, begun}
use Rattle.packet_frames.specs.Found.{frame_of, Grown}
use Rattle.packet_frames.proofs.Frames.{framed_least, framed_front}

-- ---- the tests of bytes that a section may begin with

-- each of its tests
module _ (x : ℕ) (xs : List ℕ) where
  pub begun_tests : is_begun (x ∷ xs) ≡ true → (at_stuffing (x ∷ xs) ≡ false) × (too_long (x ∷ xs) ≡ false) × (is_whole (x ∷ xs) ≡ false)
  unfolding is_begun
  begun_tests e =
      let a = both (not (at_stuffing (x ∷ xs)) && not (too_long (x ∷ xs))) (not (is_whole (x ∷ xs))) e in
      let b = both (not (at_stuffing (x ∷ xs))) (not (too_long (x ∷ xs))) a.0 in
      (not-true _ b.0, not-true _ b.1, not-true _ a.1)

  pub tests_begun : at_stuffing (x ∷ xs) ≡ false → too_long (x ∷ xs) ≡ false → is_whole (x ∷ xs) ≡ false → is_begun (x ∷ xs) ≡ true
  unfolding is_begun
  tests_begun a b c = rw (a, b, c)

pub nothing_begun_lem : is_begun [] ≡ true
unfolding is_begun
nothing_begun_lem = refl

pub begun_short : (u : List ℕ) → is_begun u ≡ true → length u ≤ unfinished_most
unfolding too_long is_whole framed
begun_short [] e = omega arith
begun_short (x ∷ xs) e = let t = begun_tests x xs e in go (leb 3 (length (x ∷ xs))) refl t.1 t.2
  where
    go : (b : Bool) → leb 3 (length (x ∷ xs)) ≡ b → (b && ltb section_length_most (section_length (x ∷ xs))) ≡ false
        → (b && leb (section_length (x ∷ xs) + 3) (length (x ∷ xs))) ≡ false
        → length (x ∷ xs) ≤ unfinished_most
    go true e f g =
        let a = ltb-false section_length_most (section_length (x ∷ xs)) f in
        let b = leb-false (section_length (x ∷ xs) + 3) (length (x ∷ xs)) g in
        omega arith
    go false e f g = let a = leb-false 3 (length (x ∷ xs)) e in omega arith

-- ---- what is left may be kept

pub gone_begun : (u more : List ℕ) → is_begun u ≡ true → is_begun (gone_on u more).unfinished ≡ true
unfolding gone_on longer nothing at_stuffing
gone_begun [] more e = nothing_begun_lem
gone_begun (x ∷ xs) more e = go (too_long d) refl (is_whole d) refl
  where
    d : List ℕ
    d = x ∷ (xs ++ more)

    go : (a : Bool) → too_long d ≡ a → (b : Bool) → is_whole d ≡ b
        → is_begun
        (if a then nothing else if b then record { sections = take (framed d) d ∷ []; unfinished = [] } else
        record { sections = []; unfinished = d }).unfinished ≡ true
    go true t b w = nothing_begun_lem
    go false t true w = nothing_begun_lem
    go false t false w = tests_begun x (xs ++ more) (begun_tests x xs e).0 t w

begun_in_begun : (n : ℕ) (d : List ℕ) → is_begun (begun_in n d).unfinished ≡ true
unfolding begun_in nothing before
begun_in_begun zero d = nothing_begun_lem
begun_in_begun (suc n) [] = go (begun_in_begun n (drop (framed []) [])) (at_stuffing []) (too_long []) (is_whole [])
  where
    go : is_begun (begun_in n (drop (framed []) [])).unfinished ≡ true → (a b c : Bool)
        → is_begun
        (if a then nothing else if b then nothing else if c then before (take (framed []) []) (begun_in n (drop (framed []) [])) else
        record { sections = []; unfinished = [] }).unfinished ≡ true
    go f true b c = nothing_begun_lem
    go f false true c = nothing_begun_lem
    go f false false true = f
    go f false false false = nothing_begun_lem
begun_in_begun (suc n) (x ∷ xs) = go (begun_in_begun n (drop (framed d) d)) (at_stuffing d) refl (too_long d) refl (is_whole d) refl
  where
    d : List ℕ
    d = x ∷ xs

    go : is_begun (begun_in n (drop (framed d) d)).unfinished ≡ true → (a : Bool) → at_stuffing d ≡ a → (b : Bool) → too_long d ≡ b → (c : Bool) → is_whole d ≡ c
        → is_begun
        (if a then nothing else if b then nothing else if c then before (take (framed d) d) (begun_in n (drop (framed d) d)) else
        record { sections = []; unfinished = d }).unfinished ≡ true
    go f true p b q c r = nothing_begun_lem
    go f false p true q c r = nothing_begun_lem
    go f false p false q true r = f
    go f false p false q false r = tests_begun x xs p q r

pub begun_begun : (d : List ℕ) → is_begun (begun d).unfinished ≡ true
unfolding begun
begun_begun d = begun_in_begun (length d) d

-- ---- more bytes

-- what is unfinished is shorter than its section
pub unfinished_short : (u more : List ℕ) → (length u ≡ 0 → ⊥) → is_begun u ≡ true → length u < framed (u ++ more)
unfolding is_begun is_whole
unfinished_short [] more n b = absurd (n refl)
unfinished_short (x ∷ xs) more n b =
    let w = (both (not (at_stuffing (x ∷ xs)) && not (too_long (x ∷ xs))) (not (is_whole (x ∷ xs))) b).1 in
    go (leb 3 (length (x ∷ xs))) refl (not_not (leb 3 (length (x ∷ xs)) && leb (framed (x ∷ xs)) (length (x ∷ xs))) w)
  where
    not_not : (t : Bool) → not t ≡ true → t ≡ false
    not_not t e = not-true t e

    go : (t : Bool) → leb 3 (length (x ∷ xs)) ≡ t → (t && leb (framed (x ∷ xs)) (length (x ∷ xs))) ≡ false → length (x ∷ xs) < framed ((x ∷ xs) ++ more)
    go true e f =
        let h = leb-true 3 (length (x ∷ xs)) e in
        let l = leb-false (framed (x ∷ xs)) (length (x ∷ xs)) f in
        rw (framed_front (x ∷ xs) more h) l
    go false e f =
        let h = leb-false 3 (length (x ∷ xs)) e in
        let l = framed_least ((x ∷ xs) ++ more) in
        omega arith

pub grown_none : (u more : List ℕ) → length u ≡ 0 → Grown u more Nothing
unfolding gone_on
grown_none [] more e = refl
grown_none (b ∷ bs) more e = absurd (omega arith)

grown_is : (u more : List ℕ) → (length u ≡ 0 → ⊥) → is_begun u ≡ true → Grown u more (frame_of (u ++ more))
unfolding gone_on longer frame_of is_whole
grown_is [] more n b = absurd (n refl)
grown_is (x ∷ xs) more n b =
    go (too_long d) (leb 3 (length d) && leb (framed d) (length d)) refl refl
  where
    u : List ℕ
    u = x ∷ xs

    d : List ℕ
    d = u ++ more

    short : length u < framed d
    short = unfinished_short u more n b

    front : take (framed d) d ≡ u ++ take (framed d - length u) more
    front = ap (λ (n : ℕ). take n d) (apart (framed d) short) ∙ take-append-add u more (framed d - length u)
      where
        apart : (m : ℕ) → length u < m → m ≡ length u + (m - length u)
        apart m h = omega arith

    go : (a b : Bool) → (leb 3 (length d) && leb (framed d) (length d)) ≡ b
        → gone_on u more
        ≡ (if a then nothing else if b then record { sections = take (framed d) d ∷ []; unfinished = [] } else
        record { sections = []; unfinished = d })
        → Grown u more (if a then Nothing else if b then Whole (framed d) else Open)
    go true b e q = q
    go false true e q =
        let w = leb-true (framed d) (length d) (both (leb 3 (length d)) (leb (framed d) (length d)) e).1 in
        (q ∙ ap (λ s. record { sections = s ∷ []; unfinished = [] }) front, short, omega (arith, length-append u more))
    go false false e q = q

pub grown_frame : (u more : List ℕ) (f : Frame) → (length u ≡ 0 → ⊥) → is_begun u ≡ true → f ≡ frame_of (u ++ more) → Grown u more f
grown_frame u more f n b e = subst (Grown u more) (sym e) (grown_is u more n b)

-- ---- an enum's answer, where its case is known

pub grown_as : (u more : List ℕ) (r f : Frame) → r ≡ f → Grown u more r → Grown u more f
grown_as u more r f e g = subst (Grown u more) e g

-- what a whole section says of its length
pub whole_between : (u more : List ℕ) (r : Frame) (n : ℕ) → r ≡ Whole n → Grown u more r → (length u < n) × (n ≤ length u + length more)
whole_between u more r n e g = let w = subst (Grown u more) e g in (w.1, w.2)
