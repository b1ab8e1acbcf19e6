-- Laws of a pen through a number: a count, one beside reserved bits, one of a stated set, and two in one byte.
use Prim.Native.Nat.{ℕ, zero, suc, ◌+◌, ◌-◌, ◌*◌, ◌^◌, ◌≤◌, ◌<◌}
use Rattle.std.specs.Prelude.{Result, Ok, Err}
use mathlib.Core.Path.{◌≡◌, refl, sym, ap, ap₂, ◌∙◌}
use mathlib.Core.List.{List}
use mathlib.Core.Bool.{Bool, true, false, not, ◌&&◌}
use native.Mathlib.Omega.{arith}
use native.Mathlib.Nat.{pow-suc, pow-le-pow_right, zero-mul, zero-add}
use native.Mathlib.Numerals.{add-one}
use lib.ListN.{length}
use lib.Dec.{leb, ltb}
use borrow.Author.Tests.{ltb-true, ltb-false, le-leb, lt-leb, lt-ltb}
use Rattle.ground_refusal.specs.declared.Refusal.{Refusal}
use Rattle.ground_refusal.specs.declared.Refusal.TheVariants.{OutsideSet}
use Rattle.body_formats.specs.Reading.{Reading, found, refused, and_then, need, Fault, fine, unless, judged}
use Rattle.body_formats.specs.Format.{Format, tape_entry, bytes_of, count, only, among, number, nibbles, nibbles_among, below, reserved}
use Rattle.body_formats.specs.Answers.{number_of}
use Rattle.body_formats.proofs.Outcomes.{found_inj, and_then_found, need_found, judged_found}
use Rattle.body_formats.proofs.Leaves.{length_bytes_lem}
use Rattle.body_formats.proofs.Readers.{number_found, number_refused}
use Rattle.body_formats.proofs.Bits.{bytes_power, below_power}
use Rattle.body_pen.specs.Penned.{more, penned, count_onward, counted}
use Rattle.body_pen.proofs.Leaves.{refused_here, passed, count_refused, count_passed, kept, kept_below}

-- ---- a count

pub power_small : (n m : ℕ) → n ≤ m → 2 ^ n ≤ 2 ^ m
power_small n m h = pow-le-pow_right (omega arith) h

pub count_over : (w v p : ℕ) → p ≡ 2 ^ (8 * w) → (count w).too_large v ≡ leb p v
unfolding count
count_over w v p e = go (ltb v (256 ^ w)) refl
  where
    go : (b : Bool) → ltb v (256 ^ w) ≡ b → not b ≡ leb p v
    go true f = sym (lt-leb p v (omega (arith, bytes_power w, ltb-true v (256 ^ w) f)))
    go false f = sym (le-leb p v (omega (arith, bytes_power w, ltb-false v (256 ^ w) f)))

module _ (w : ℕ) (pool tape : List ℕ) (x : Result (ℕ × ℕ) Refusal) (size k : ℕ) (e : x ≡ Ok (size, k)) where
  pub count_no : (r : Refusal) → Err r ≡ number_of (tape_entry tape k) → Err r ≡ counted (count w) pool tape x
  unfolding count
  count_no r f = count_refused (count w) pool tape x size k e r (number_refused (tape_entry tape k) r f)

  pub count_is : (v j : ℕ) → Ok (v, j) ≡ number_of (tape_entry tape k) → (p : ℕ) → p ≡ 2 ^ (8 * w) → (z : ℕ) → z ≡ more size w (leb p v)
      → Ok ((z, j), v) ≡ counted (count w) pool tape x
  unfolding count
  count_is v j f p ep z ez =
      count_passed (count w) pool tape x size k e v j (number_found (tape_entry tape k) v j f) (leb p v) (count_over w v p ep) w (length_bytes_lem w v) z ez

-- ---- two formats that a form lays out alike

pub record Alike {A : Type 0} (F G : Format A) (pool tape : List ℕ) : Type 0 where
  pub forms : (k : ℕ) → F.form pool tape k ≡ G.form pool tape k
  pub prints : (k : ℕ) (a : A) (j : ℕ) → F.form pool tape k ≡ found a j → (F.print a ≡ G.print a) × (F.too_large a ≡ G.too_large a)

pub alike_counted : {F G : Format ℕ} {pool tape : List ℕ} → Alike F G pool tape → (x : Result (ℕ × ℕ) Refusal) → counted F pool tape x ≡ counted G pool tape x
unfolding counted
alike_counted {F} {G} {pool} {tape} s (Err r) = refl
alike_counted {F} {G} {pool} {tape} s (Ok (size, k)) = go (F.form pool tape k) refl
  where
    go : (y : Reading ℕ) → F.form pool tape k ≡ y → count_onward F size y ≡ count_onward G size (G.form pool tape k)
    go (found a j) e =
        let p = s.prints k a j e in
        ap₂ (λ (l : List ℕ) (o : Bool). Ok ((more size (length l) o, j), a)) p.0 p.1 ∙ ap (count_onward G size) (sym e ∙ s.forms k)
    go (refused r) e = ap (count_onward G size) (sym e ∙ s.forms k)

-- ---- a number of a stated set, beside reserved bits or none

fine_test : (b : Bool) (r : Refusal) → unless b r ≡ fine → b ≡ true
fine_test true r e = refl
fine_test false r e = absurd (let z : ◌≡◌ {A = ℕ} 0 1 = cc in omega arith)

judged_need : {A : Type 0} (b : Bool) (r : Refusal) (x : Reading A) → judged (unless b r) x ≡ need b r x
judged_need true r x = refl
judged_need false r x = refl

-- the numbers that stand beside k reserved bits are those below this one
pub bound_is : (k w : ℕ) → k ≤ 8 → (b : ℕ) → b ≡ 2 ^ (8 * w + 8 - k) → b ≡ below k w
bound_is k w bits b e = e ∙ ap (λ n. 2 ^ n) (let z : 8 * w + 8 - k ≡ 8 * w + (8 - k) = omega arith in z) ∙ sym (below_power k w)

-- their form takes a number below the bound
limited : (p q : ℕ → Bool) (at : ℕ) (x : Reading ℕ)
    → and_then (and_then x (λ v j. need (p v) (OutsideSet at) (found v j))) (λ v j. judged (unless (q v) (OutsideSet at)) (found v j))
    ≡ and_then x (λ v j. need (p v && q v) (OutsideSet at) (found v j))
limited p q at (refused r) = refl
limited p q at (found v j) = go (p v)
  where
    go : (b : Bool) → and_then (need b (OutsideSet at) (found v j)) (λ u i. judged (unless (q u) (OutsideSet at)) (found u i))
        ≡ need (b && q v) (OutsideSet at) (found v j)
    go true = judged_need (q v) (OutsideSet at) (found v j)
    go false = refl

module _ (k w lo hi : ℕ) (pool tape : List ℕ) (i b : ℕ) (eb : b ≡ below k w) where
  reserved_form : (among lo hi (reserved k w)).form pool tape i ≡ kept tape i b lo hi
  unfolding only reserved
  reserved_form = rw eb (limited (λ v. ltb v (below k w)) (λ v. leb lo v && leb v hi) i (tape_entry tape i))

  module _ (x : Result (ℕ × ℕ) Refusal) (size : ℕ) (e : x ≡ Ok (size, i)) where
    pub reserved_refused : (r : Refusal) → Err r ≡ number_of (kept tape i b lo hi)
        → Err r ≡ counted (among lo hi (reserved k w)) pool tape x
    reserved_refused r f = count_refused (among lo hi (reserved k w)) pool tape x size i e r (reserved_form ∙ number_refused (kept tape i b lo hi) r f)

    pub reserved_passed : (v j : ℕ) → Ok (v, j) ≡ number_of (kept tape i b lo hi) → (z : ℕ) → z ≡ more size (w + 1) false
        → Ok ((z, j), v) ≡ counted (among lo hi (reserved k w)) pool tape x
    unfolding only reserved
    reserved_passed v j f z ez =
        count_passed (among lo hi (reserved k w)) pool tape x size i e v j (reserved_form ∙ number_found (kept tape i b lo hi) v j f) false refl (w + 1)
        (length_bytes_lem (suc w) _ ∙ sym (add-one w)) z ez

-- a range that leaves out no number
among_all : (F : Format ℕ) (hi : ℕ) (pool tape : List ℕ) → ((k a j : ℕ) → F.form pool tape k ≡ found a j → a ≤ hi) → Alike (among 0 hi F) F pool tape
unfolding only
among_all F hi pool tape h = record { forms = λ k. go k (F.form pool tape k) refl; prints = λ k a j e. (refl, refl) }
  where
    go : (k : ℕ) (x : Reading ℕ) → F.form pool tape k ≡ x → and_then x (λ a j. judged (unless (leb 0 a && leb a hi) (OutsideSet k)) (found a j)) ≡ x
    go k (found a j) e = rw (le-leb 0 a (omega arith), le-leb a hi (h k a j e))
    go k (refused r) e = refl

pub reserved_all : (k w : ℕ) → k ≤ 8 → w ≤ 6 → (pool tape : List ℕ) → Alike (among 0 0xFFFF_FFFF_FFFF_FFFF (reserved k w)) (reserved k w) pool tape
unfolding reserved
reserved_all k w bits bytes pool tape =
    among_all (reserved k w) 0xFFFF_FFFF_FFFF_FFFF pool tape
    (λ i a j e.
    let f = and_then_found (tape_entry tape i) _ a j e in
    let g = need_found (ltb f.0 (below k w)) (OutsideSet i) _ a j f.3 in
    omega (arith, (found_inj g.1).0, ltb-true f.0 (below k w) g.0, below_power k w, power_small (8 * w + (8 - k)) 56 (omega arith)))

number_below : (w : ℕ) (pool tape : List ℕ) (k a j : ℕ) → (number w).form pool tape k ≡ found a j → a < 256 ^ w
unfolding number only
number_below w pool tape k a j e =
    let f = and_then_found ((count w).form pool tape k) _ a j e in
    let g = judged_found (unless (ltb f.0 (256 ^ w)) (OutsideSet k)) _ a j f.3 in
    rw (← (found_inj g.1).0) (ltb-true f.0 (256 ^ w) (fine_test _ _ g.0))

pub only_below : (fault : ℕ → ℕ → Fault) (w : ℕ) (pool tape : List ℕ) (k a j : ℕ) → (only fault (number w)).form pool tape k ≡ found a j → a < 256 ^ w
unfolding only
only_below fault w pool tape k a j e =
    let f = and_then_found ((number w).form pool tape k) _ a j e in
    let g = judged_found (fault f.0 k) _ a j f.3 in
    rw (← (found_inj g.1).0) (number_below w pool tape k f.0 f.1 f.2)

pub number_all : (w : ℕ) → w ≤ 7 → (pool tape : List ℕ) → Alike (among 0 0xFFFF_FFFF_FFFF_FFFF (number w)) (number w) pool tape
number_all w h pool tape =
    among_all (number w) 0xFFFF_FFFF_FFFF_FFFF pool tape
    (λ k a j e. omega (arith, number_below w pool tape k a j e, bytes_power w, power_small (8 * w) 56 (omega arith)))

-- a number with no reserved bits
pub reserved_none : (w lo hi : ℕ) → 0 < w → (pool tape : List ℕ) → Alike (among lo hi (reserved 0 (w - 1))) (among lo hi (number w)) pool tape
unfolding reserved number only count
reserved_none zero lo hi h pool tape = absurd (omega arith)
reserved_none (suc w) lo hi h pool tape =
    let d : suc w - 1 ≡ w = omega arith in
    let all : below 0 w ≡ 256 ^ suc w = sym (pow-suc 256 w) in
    rw d
    record {
      forms = λ k. go all k (tape_entry tape k);
      prints = λ k a j e. (
        ap (bytes_of (suc w)) (let z : (2 ^ 0 - 1) * below 0 w + a ≡ a = rw (zero-mul, zero-add) in z),
        rw (lt-ltb a (256 ^ suc w) (rw all at (kept_below tape k (below 0 w) lo hi a j (sym (reserved_form 0 w lo hi pool tape k (below 0 w) refl) ∙ e)))),
      );
    }
  where
    go : below 0 w ≡ 256 ^ suc w → (at : ℕ) (x : Reading ℕ)
        → and_then (and_then x (λ v j. need (ltb v (below 0 w)) (OutsideSet at) (found v j)))
        (λ v j. judged (unless (leb lo v && leb v hi) (OutsideSet at)) (found v j))
        ≡ and_then (and_then x (λ v j. judged (unless (ltb v (256 ^ suc w)) (OutsideSet at)) (found v j)))
        (λ v j. judged (unless (leb lo v && leb v hi) (OutsideSet at)) (found v j))
    go all at (found v j) = rw (all, judged_need)
    go all at (refused r) = refl

-- ---- two numbers of four bits

abbrev pair_of : Reading ℕ → (ℕ → Reading ℕ) → Reading (ℕ × ℕ)
pair_of x f = and_then x (λ high j. and_then (f j) (λ low i. let z : ℕ × ℕ = (high, low) in found z i))

module _ (lo hi : ℕ) (pool tape : List ℕ) (k : ℕ) where
  nibbles_form : (nibbles_among lo hi).form pool tape k ≡ pair_of (kept tape k 16 lo hi) (λ j. kept tape j 16 lo hi)
  nibbles_form = refl

  module _ (x : Result (ℕ × ℕ) Refusal) (size : ℕ) (e : x ≡ Ok (size, k)) where
    pub high_refused : (r : Refusal) → Err r ≡ number_of (kept tape k 16 lo hi) → Err r ≡ penned (nibbles_among lo hi) pool tape x
    high_refused r f =
        refused_here (nibbles_among lo hi) pool tape x size k e r
        (nibbles_form ∙ ap (λ (y : Reading ℕ). pair_of y (λ j. kept tape j 16 lo hi)) (number_refused (kept tape k 16 lo hi) r f))

    module _ (high j : ℕ) (f : Ok (high, j) ≡ number_of (kept tape k 16 lo hi)) where
      low_form : (nibbles_among lo hi).form pool tape k ≡ and_then (kept tape j 16 lo hi) (λ low i. let z : ℕ × ℕ = (high, low) in found z i)
      low_form = nibbles_form ∙ ap (λ (y : Reading ℕ). pair_of y (λ j. kept tape j 16 lo hi)) (number_found (kept tape k 16 lo hi) high j f)

      pub low_refused : (r : Refusal) → Err r ≡ number_of (kept tape j 16 lo hi) → Err r ≡ penned (nibbles_among lo hi) pool tape x
      low_refused r g =
          refused_here (nibbles_among lo hi) pool tape x size k e r
          (low_form ∙ ap (λ (y : Reading ℕ). and_then y (λ low i. let z : ℕ × ℕ = (high, low) in found z i)) (number_refused (kept tape j 16 lo hi) r g))

      pub nibbles_passed : (low i : ℕ) → Ok (low, i) ≡ number_of (kept tape j 16 lo hi) → (z : ℕ) → z ≡ more size 1 false
          → Ok (z, i) ≡ penned (nibbles_among lo hi) pool tape x
      unfolding only nibbles
      nibbles_passed low i g z ez =
          passed (nibbles_among lo hi) pool tape x size k e (high, low) i
          (low_form ∙ ap (λ (y : Reading ℕ). and_then y (λ low i. let z : ℕ × ℕ = (high, low) in found z i)) (number_found (kept tape j 16 lo hi) low i g))
          false refl 1 refl z ez
