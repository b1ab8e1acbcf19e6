-- Laws of fields of several bytes and of time fields: what the code answers, a law for each way through, and what an answer says.
use Prim.Native.Nat.{ℕ, zero, suc, ◌+◌, ◌-◌, ◌/◌, ◌%◌, ◌≤◌, ◌<◌}
use Rattle.std.specs.Prelude.{Result, Ok, Err, Option}
use Rattle.time_fields.specs.declared.Moment.{Moment}
use mathlib.Core.Path.{◌≡◌, refl, sym, ap, ap₂, ◌∙◌}
use mathlib.Core.List.{List, [], ◌∷◌}
use mathlib.Core.Bool.{Bool, true, false, ◌&&◌}
use native.Mathlib.Omega.{arith}
use native.Mathlib.Numerals.{add-one}
use native.Mathlib.Nat.{add-sub_cancel_left, le_refl}
use lib.ListN.{length, get_or, take, drop, length-drop}
use lib.Seq.{drop-cons, get_or-take, get_or-drop, length-take-le}
use lib.Dec.{leb, ltb, eqb}
use borrow.Author.Tests.{leb-true, eqb-true, le-leb, lt-leb, lt-ltb, le-ltb, eq-eqb, ne_eqb}
use Rattle.ground_choices.proofs.Tests.{both}
use Rattle.ground_refusal.proofs.Exits.{ok_pair_inj}
use Rattle.ground_refusal.specs.declared.Refusal.{Refusal}
use Rattle.ground_refusal.specs.declared.Refusal.TheVariants.{PastBody, PastPart, ReservedBitZero, DigitAboveNine, OutsideSet}
use Rattle.time_fields.specs.Field.{read_time, read_end}
use Rattle.body_formats.specs.Reading.{Reading, found, refused, and_then, need, Fault, judged, within}
use Rattle.body_formats.specs.Format.{Format, only, number, bytes, every, bytes_among, halves, tail, decimal, digits}
use Rattle.body_formats.specs.Time.{time_fault, end_fault, time, end_time}
use Rattle.body_formats.specs.Answers.{step_of, number_of, field_part, reached, number_read, nth_digit, digit_read}
use Rattle.body_formats.proofs.Stand.{taken, stands_whole}
use Rattle.body_formats.proofs.Outcomes.{found_inj, need_found, within_found}
use Rattle.body_formats.proofs.Classes.{Bytes, Proper, Found}
use Rattle.body_formats.proofs.Leaves.{reserved_found, length_halves, digits_lawful}
use Rattle.body_formats.proofs.Readers.{field_found, field_refused}
use Rattle.body_formats.proofs.Bits.{number_is_count}

-- ---- where a field ends

module _ (s : List ℕ) (l at end : ℕ) where
  pub end_14 : length s < end → Err (PastBody at) ≡ reached s l at end
  unfolding reached
  end_14 h = rw (lt-leb end (length s) h)

  pub end_15 : end ≤ length s → l < end → Err (PastPart at) ≡ reached s l at end
  unfolding reached
  end_15 h k = rw (le-leb end (length s) h, lt-leb end l k)

  pub end_at : end ≤ length s → end ≤ l → Ok end ≡ reached s l at end
  unfolding reached
  end_at h k = rw (le-leb end (length s) h, le-leb end l k)

  -- a field that does not end where it must is refused, whatever it holds
  pub end_no : {A : Type 0} (x : Reading A) (r : Refusal) → Err r ≡ reached s l at end → within s l at end x ≡ refused r
  unfolding reached
  end_no x r e = go (leb end (length s)) (leb end l) e
    where
      go : (a b : Bool) → Err r ≡ step_of {A = Unit} (need a (PastBody at) (need b (PastPart at) (found tt end))) → need a (PastBody at) (need b (PastPart at) x) ≡ refused r
      go false b f = let z : PastBody at ≡ r = cc in ap refused z
      go true false f = let z : PastPart at ≡ r = cc in ap refused z
      go true true f = absurd (let z : ◌≡◌ {A = ℕ} 0 1 = cc in omega arith)

  pub end_in : (q : ℕ) → Ok q ≡ reached s l at end → (q ≡ end) × (end ≤ length s) × (end ≤ l)
  unfolding reached
  end_in q e =
      let t = go (leb end (length s)) (leb end l) e in
      (t.0, leb-true end (length s) t.1, leb-true end l t.2)
    where
      go : (a b : Bool) → Ok q ≡ step_of {A = Unit} (need a (PastBody at) (need b (PastPart at) (found tt end))) → (q ≡ end) × (a ≡ true) × (b ≡ true)
      go false b f = absurd (let z : ◌≡◌ {A = ℕ} 0 1 = cc in omega arith)
      go true false f = absurd (let z : ◌≡◌ {A = ℕ} 0 1 = cc in omega arith)
      go true true f = let z : q ≡ end = cc in (z, refl, refl)

  -- in one that does, what it holds decides
  pub end_past : {A : Type 0} (x : Reading A) (q : ℕ) → Ok q ≡ reached s l at end → within s l at end x ≡ x
  end_past x q e =
      let t = end_in q e in
      rw (le-leb end (length s) t.1, le-leb end l t.2)

-- ---- a test of each byte: where the loop starts, a turn of it, which has come to the byte at k, and where it ends

pub every_start : (f : ℕ → Bool) (s : List ℕ) (p n end : ℕ) → end ≡ p + n → every f (take n (drop p s)) ≡ every f (take (end - p) (drop p s))
every_start f s p n end e = ap (λ m. every f (take m (drop p s))) (let z : n ≡ end - p = omega arith in z)

module _ (f : ℕ → Bool) (s : List ℕ) (k end : ℕ) (all : Bool) (left : all ≡ every f (take (end - k) (drop k s))) where
  pub every_done : end ≤ k → true ≡ all
  unfolding every
  every_done h = let z : end - k ≡ 0 = omega arith in sym (rw z at left)

  turn : k < end → end ≤ length s → all ≡ f (get_or s k 0) && every f (take (end - (k + 1)) (drop (k + 1) s))
  unfolding every
  turn h m =
      let z : end - k ≡ suc (end - (k + 1)) = omega arith in
      left ∙ rw (z, drop-cons s k 0 (omega arith), add-one k)

  every_fails : k < end → end ≤ length s → f (get_or s k 0) ≡ false → false ≡ all
  every_fails h m e = sym (turn h m ∙ rw e)

  every_more : k < end → end ≤ length s → f (get_or s k 0) ≡ true → all ≡ every f (take (end - (k + 1)) (drop (k + 1) s))
  every_more h m e = turn h m ∙ rw e

-- ---- bytes from lo to hi

module _ (lo hi : ℕ) (s : List ℕ) (k end : ℕ) (all : Bool) (left : all ≡ every (λ x. leb lo x && leb x hi) (take (end - k) (drop k s))) (here : k < end) (there : end ≤ length s) where
  pub bytes_below : get_or s k 0 < lo → false ≡ all
  bytes_below h = every_fails _ s k end all left here there (rw (lt-leb lo (get_or s k 0) h))

  module _ (h : lo ≤ get_or s k 0) where
    pub bytes_above : hi < get_or s k 0 → false ≡ all
    bytes_above m = every_fails _ s k end all left here there (rw (le-leb lo (get_or s k 0) h, lt-leb (get_or s k 0) hi m))

    pub bytes_next : get_or s k 0 ≤ hi → all ≡ every (λ x. leb lo x && leb x hi) (take (end - (k + 1)) (drop (k + 1) s))
    bytes_next m = every_more _ s k end all left here there (rw (le-leb lo (get_or s k 0) h, le-leb (get_or s k 0) hi m))

module _ (s : List ℕ) (l p n lo hi : ℕ) where
  pub bytes_no : (r : Refusal) → Err r ≡ reached s l p (p + n) → Err r ≡ field_part p ((bytes_among lo hi n).parse s l p)
  unfolding only bytes
  bytes_no r e = rw (end_no s l p (p + n) (found (take n (drop p s)) (p + n)) r e)

  module _ (q : ℕ) (e : Ok q ≡ reached s l p (p + n)) where
    pub bytes_19 : every (λ x. leb lo x && leb x hi) (take n (drop p s)) ≡ false → Err (OutsideSet p) ≡ field_part p ((bytes_among lo hi n).parse s l p)
    unfolding only bytes
    bytes_19 t = rw (end_past s l p (p + n) (found (take n (drop p s)) (p + n)) q e, t)

    pub bytes_of : every (λ x. leb lo x && leb x hi) (take n (drop p s)) ≡ true → Ok (p, n) ≡ field_part p ((bytes_among lo hi n).parse s l p)
    unfolding only bytes
    bytes_of t = rw (end_past s l p (p + n) (found (take n (drop p s)) (p + n)) q e, t, add-sub_cancel_left p n)

-- ---- digits

-- both halves of a byte
abbrev pub pair : ℕ → Bool
pair b = ltb (b / 16) 10 && ltb (b % 16) 10

decimal_pairs : (bs : List ℕ) → decimal (halves bs) ≡ every pair bs
unfolding decimal halves every
decimal_pairs [] = refl
decimal_pairs (b ∷ bs) = rw (decimal_pairs bs) (regroup (ltb (b / 16) 10) (ltb (b % 16) 10) (every pair bs))
  where
    regroup : (x y z : Bool) → x && (y && z) ≡ (x && y) && z
    regroup true y z = refl
    regroup false y z = refl

pub decimal_start : (s : List ℕ) (p n end : ℕ) → end ≡ p + n → decimal (halves (take n (drop p s))) ≡ every pair (take (end - p) (drop p s))
decimal_start s p n end e = decimal_pairs (take n (drop p s)) ∙ every_start pair s p n end e

module _ (s : List ℕ) (k end : ℕ) (all : Bool) (left : all ≡ every pair (take (end - k) (drop k s))) (here : k < end) (there : end ≤ length s) where
  pub pairs_high : 159 < get_or s k 0 → false ≡ all
  pairs_high h = every_fails pair s k end all left here there (rw (le-ltb (get_or s k 0 / 16) 10 (omega arith)))

  module _ (h : get_or s k 0 ≤ 159) where
    high : ltb (get_or s k 0 / 16) 10 ≡ true
    high = lt-ltb (get_or s k 0 / 16) 10 (omega arith)

    pub pairs_low : 9 < get_or s k 0 % 16 → false ≡ all
    pairs_low m = every_fails pair s k end all left here there (rw (high, le-ltb (get_or s k 0 % 16) 10 (omega arith)))

    pub pairs_next : get_or s k 0 % 16 ≤ 9 → all ≡ every pair (take (end - (k + 1)) (drop (k + 1) s))
    pairs_next m = every_more pair s k end all left here there (rw (high, lt-ltb (get_or s k 0 % 16) 10 (omega arith)))

-- the first digit is the low half of the first byte
pub first_digit : (s : List ℕ) (p h : ℕ) → p < length s
    → decimal (tail (halves (take (suc h) (drop p s)))) ≡ ltb (get_or s p 0 % 16) 10 && decimal (halves (take h (drop (p + 1) s)))
unfolding decimal halves
first_digit s p h k = rw (drop-cons s p 0 k, add-one p)

module _ (s : List ℕ) (l p h : ℕ) where
  pub digits_no : (r : Refusal) → Err r ≡ reached s l p (p + 1) → Err r ≡ field_part p ((digits h).parse s l p)
  unfolding digits
  digits_no r e = rw (end_no s l p (p + 1) _ r e)

  -- the first byte is there
  module _ (q : ℕ) (e : Ok q ≡ reached s l p (p + 1)) where
    pub digits_17 : get_or s p 0 < 240 → Err (ReservedBitZero p) ≡ field_part p ((digits h).parse s l p)
    unfolding digits
    digits_17 k = rw (end_past s l p (p + 1) _ q e, ne_eqb (get_or s p 0 / 16) 15 (λ z. omega (arith, z, k)))

    -- and begins with four ones
    module _ (b : Bytes s) (ones : 240 ≤ get_or s p 0) where
      pub digits_past : (r : Refusal) → Err r ≡ reached s l p (q + h) → Err r ≡ field_part p ((digits h).parse s l p)
      unfolding digits
      digits_past r f =
          let z : q + h ≡ p + suc h = omega (arith, (end_in s l p (p + 1) q e).0) in
          rw (end_past s l p (p + 1) _ q e, eq-eqb (get_or s p 0 / 16) 15 (omega (arith, b p)), end_no s l p (p + suc h) _ r (f ∙ ap (reached s l p) z))

      -- and the whole field is there
      module _ (end : ℕ) (f : Ok end ≡ reached s l p (q + h)) where
        tested : (digits h).parse s l p
            ≡ need (ltb (get_or s p 0 % 16) 10 && decimal (halves (take h (drop q s)))) (DigitAboveNine p) (found (tail (halves (take (suc h) (drop p s)))) end)
        unfolding digits
        tested =
            let i = end_in s l p (p + 1) q e in
            let j = end_in s l p (q + h) end f in
            let z : q + h ≡ p + suc h = omega (arith, i.0) in
            let y : p + suc h ≡ end = omega (arith, z, j.0) in
            rw (
              end_past s l p (p + 1) _ q e,
              eq-eqb (get_or s p 0 / 16) 15 (omega (arith, b p)),
              end_past s l p (p + suc h) _ end (f ∙ ap (reached s l p) z),
              first_digit s p h (omega (arith, i.1)),
              y,
              i.0,
            )

        pub digits_18_first : 249 < get_or s p 0 → Err (DigitAboveNine p) ≡ field_part p ((digits h).parse s l p)
        digits_18_first k = rw (tested, le-ltb (get_or s p 0 % 16) 10 (omega (arith, b p)))

        module _ (k : get_or s p 0 ≤ 249) where
          pub digits_18_later : decimal (halves (take h (drop q s))) ≡ false → Err (DigitAboveNine p) ≡ field_part p ((digits h).parse s l p)
          digits_18_later d = rw (tested, lt-ltb (get_or s p 0 % 16) 10 (omega (arith, b p)), d)

          pub digits_of : decimal (halves (take h (drop q s))) ≡ true → Ok (p, end - p) ≡ field_part p ((digits h).parse s l p)
          digits_of d = rw (tested, lt-ltb (get_or s p 0 % 16) 10 (omega (arith, b p)), d)

-- ---- time fields: a number of five bytes, and what is wrong with it at its place

module _ (fault : ℕ → ℕ → Fault) (s : List ℕ) (l p : ℕ) (b : Bytes s) where
  five_no : (r : Refusal) → Err r ≡ number_read 5 s l p → Err r ≡ number_of ((only fault (number 5)).parse s l p)
  unfolding only
  five_no r e = go ((number 5).parse s l p) (e ∙ number_is_count 5 s l p b)
    where
      go : (x : Reading ℕ) → Err r ≡ number_of x → Err r ≡ number_of (and_then x (λ v q. judged (fault v p) (found v q)))
      go (refused t) f = f
      go (found v q) f = absurd (let z : ◌≡◌ {A = ℕ} 0 1 = cc in omega arith)

  five_judged : (v q : ℕ) → Ok (v, q) ≡ number_read 5 s l p → number_of (judged (fault v p) (found v q)) ≡ number_of ((only fault (number 5)).parse s l p)
  unfolding only
  five_judged v q e = go ((number 5).parse s l p) (e ∙ number_is_count 5 s l p b)
    where
      go : (x : Reading ℕ) → Ok (v, q) ≡ number_of x → number_of (judged (fault v p) (found v q)) ≡ number_of (and_then x (λ w r. judged (fault w p) (found w r)))
      go (refused t) f = absurd (let z : ◌≡◌ {A = ℕ} 0 1 = cc in omega arith)
      go (found w r) f =
          let i = ok_pair_inj f in
          ap₂ (λ (w r : ℕ). number_of (judged (fault w p) (found w r))) i.0 i.1

module _ (s : List ℕ) (l p : ℕ) (b : Bytes s) where
  pub time_no : (r : Refusal) → Err r ≡ number_read 5 s l p → (Err r ≡ number_of (time.parse s l p)) × (Err r ≡ number_of (end_time.parse s l p))
  unfolding time end_time
  time_no r e = (five_no (λ f at. time_fault (read_time f at)) s l p b r e, five_no (λ f at. end_fault (read_end f at)) s l p b r e)

  -- what crate times says of the number
  pub time_said : (v q : ℕ) (t : Result Moment Refusal) → Ok (v, q) ≡ number_read 5 s l p → t ≡ read_time v p → number_of (judged (time_fault t) (found v q)) ≡ number_of (time.parse s l p)
  unfolding time
  time_said v q t e g = rw g (five_judged (λ f at. time_fault (read_time f at)) s l p b v q e)

  pub end_said : (v q : ℕ) (t : Result (Option Moment) Refusal) → Ok (v, q) ≡ number_read 5 s l p → t ≡ read_end v p → number_of (judged (end_fault t) (found v q)) ≡ number_of (end_time.parse s l p)
  unfolding end_time
  end_said v q t e g = rw g (five_judged (λ f at. end_fault (read_end f at)) s l p b v q e)

-- ---- from a part answered back to what was read

-- the n bytes at p are the field: it was found, in the body and in its part, its value prints to them, and they are its entries
pub record Fills {A : Type 0} (F : Format A) (s : List ℕ) (l p n : ℕ) : Type 0 where
  pub value : A
  pub parsed : F.parse s l p ≡ found value (p + n)
  pub in_body_lem : p + n ≤ length s
  pub in_part_lem : p + n ≤ l
  pub printed : take n (drop p s) ≡ F.print value
  pub taped : (at : ℕ) → F.tape value at ≡ at ∷ n ∷ []

module _ (s : List ℕ) (l p h : ℕ) (ds : List ℕ) (q : ℕ) (e : (digits h).parse s l p ≡ found ds q) where
  digits_found : (p + suc h ≤ length s) × (p + suc h ≤ l) × (tail (halves (take (suc h) (drop p s))) ≡ ds) × (p + suc h ≡ q)
      × ((digits h).parse s (length s) p ≡ found ds q)
  unfolding digits
  digits_found =
      let g = reserved_found 4 s l p _ ds q e in
      let f = within_found s l p (p + suc h) _ ds q g.1 in
      let d = need_found (decimal (tail (halves (take (suc h) (drop p s))))) (DigitAboveNine p) _ ds q f.2 in
      let i = found_inj d.1 in
      (f.0, f.1, i.0, i.1, rw (le-leb (p + 1) (length s) (omega (arith, f.0)), eq-eqb (get_or s p 0 / 16) 15 g.0, le-leb (p + suc h) (length s) f.0, d.0) d.1)

  pub digits_fit : (q ≡ p + (h + 1)) × (q ≤ length s)
  digits_fit = let f = digits_found in (omega (arith, f.3), omega (arith, f.0, f.3))

  pub digits_part : Ok (p, h + 1) ≡ field_part p ((digits h).parse s l p)
  digits_part =
      let z : h + 1 ≡ q - p = omega (arith, digits_found.3) in
      ap (λ b. Ok (p, b)) z ∙ ap (field_part p) (sym e)

  -- whatever part they stand in, their bytes stand in the body
  digits_stand : Bytes s → Found (digits h) s (length s) p ds q
  digits_stand b =
      let f = digits_found in
      (digits_lawful h).forth s (length s) p ds q b (le_refl (length s)) (omega (arith, f.0)) f.4

  pub digits_many : Bytes s → length ds ≡ h + h + 1
  unfolding digits
  digits_many b = eqb-true (length ds) (h + h + 1) (both (eqb (length ds) (h + h + 1)) (decimal ds) (digits_stand b).ok.writable).0

-- digits are read back from the bytes that they take
pub digits_take : (h : ℕ) (ds : List ℕ) → Proper (digits h) ds → h + 1 ≡ length ((digits h).print ds)
digits_take h ds o =
    let bs = (digits h).print ds in
    let n = length bs in
    let e = (digits_lawful h).back bs n 0 ds o (stands_whole bs) (omega arith) (le_refl n) in
    let z = ok_pair_inj (digits_part bs n 0 h ds (0 + n) e ∙ ap (field_part 0) e) in
    omega (arith, z.1)

pub digits_entries : (h : ℕ) (ds : List ℕ) (at : ℕ) → (digits h).tape ds at ≡ at ∷ (h + 1) ∷ []
unfolding digits
digits_entries h ds at = rw (add-one h)

pub digits_fill : (s : List ℕ) (l p h a n : ℕ) → Bytes s → Ok (a, n) ≡ field_part p ((digits h).parse s l p) → (a ≡ p) × (n ≡ h + 1) × Fills (digits h) s l p (h + 1)
digits_fill s l p h a n b e =
    let f = field_found p ((digits h).parse s l p) a n e in
    let g = digits_found s l p h f.0 f.1 f.2 in
    let t = digits_stand s l p h f.0 f.1 f.2 b in
    let z : f.1 ≡ p + (h + 1) = omega (arith, g.3) in
    let m : h + 1 ≡ length ((digits h).print f.0) = omega (arith, z, t.next) in (
      f.3,
      f.4 ∙ omega (arith, z),
      record {
        value = f.0;
        parsed = f.2 ∙ ap (found f.0) z;
        in_body_lem = omega (arith, g.0);
        in_part_lem = omega (arith, g.1);
        printed = ap (λ (x : ℕ). take x (drop p s)) m ∙ taken s p ((digits h).print f.0) t.stands;
        taped = digits_entries h f.0;
      },
    )

pub digits_bytes : (s : List ℕ) (l p h : ℕ) (ds : List ℕ) (q : ℕ) → (digits h).parse s l p ≡ found ds q → Bytes s
    → take (h + 1) (drop p s) ≡ (digits h).print ds
digits_bytes s l p h ds q e b =
    let f = (digits_fill s l p h p (h + 1) b (digits_part s l p h ds q e)).2 in
    f.printed ∙ ap (digits h).print (found_inj (sym f.parsed ∙ e)).0

-- ---- a digit of the field

-- the halves of the k-th byte
halves_get : (bs : List ℕ) (k : ℕ) → (get_or (halves bs) (k + k) 0 ≡ get_or bs k 0 / 16) × (get_or (halves bs) (k + k + 1) 0 ≡ get_or bs k 0 % 16)
unfolding halves
halves_get [] k = (refl, refl)
halves_get (b ∷ bs) zero = (refl, refl)
halves_get (b ∷ bs) (suc k) =
    let i = halves_get bs k in
    let x : suc k + suc k ≡ suc (suc (k + k)) = omega arith in
    let y : suc k + suc k + 1 ≡ suc (suc (k + k + 1)) = omega arith in
    (rw x i.0, rw y i.1)

tail_get : (r : List ℕ) (i : ℕ) → get_or (tail r) i 0 ≡ get_or r (i + 1) 0
tail_get [] i = refl
tail_get (a ∷ r) i = rw (add-one i)

-- of the n bytes at p, of which the first holds one digit
module _ (s : List ℕ) (p n : ℕ) (there : p + n ≤ length s) where
  abbrev ds : List ℕ
  ds = tail (halves (take n (drop p s)))

  many : length ds ≡ n + n - 1
  many = tail_many (halves (take n (drop p s))) ∙ omega (arith, length_halves (take n (drop p s)), length-take-le n (drop p s) (simp length-drop (omega arith)))
    where
      tail_many : (r : List ℕ) → length (tail r) ≡ length r - 1
      tail_many [] = refl
      tail_many (a ∷ r) = omega arith

  byte_at : (k : ℕ) → k < n → get_or (take n (drop p s)) k 0 ≡ get_or s (p + k) 0
  byte_at k h = get_or-take n (drop p s) k 0 h ∙ get_or-drop p s k 0

  pub low_digit : (k : ℕ) → k < n → get_or ds (k + k) 0 ≡ get_or s (p + k) 0 % 16
  low_digit k h = tail_get (halves (take n (drop p s))) (k + k) ∙ (halves_get (take n (drop p s)) k).1 ∙ ap (λ b. b % 16) (byte_at k h)

  pub high_digit : (k : ℕ) → k + 1 < n → get_or ds (k + k + 1) 0 ≡ get_or s (p + (k + 1)) 0 / 16
  high_digit k h =
      let z : k + k + 1 + 1 ≡ (k + 1) + (k + 1) = omega arith in
      tail_get (halves (take n (drop p s))) (k + k + 1) ∙ ap (λ (j : ℕ). get_or (halves (take n (drop p s))) j 0) z
      ∙ (halves_get (take n (drop p s)) (k + 1)).0 ∙ ap (λ b. b / 16) (byte_at (k + 1) h)

  module _ (i : ℕ) where
    pub digit_none : n ≤ i / 2 + i % 2 → Err (OutsideSet 0) ≡ number_of (nth_digit ds i p)
    unfolding nth_digit
    digit_none k = rw (le-ltb i (length ds) (omega (arith, many)))

    module _ (k : i / 2 + i % 2 < n) (at x : ℕ) (here : at ≡ p + (i / 2 + i % 2)) where
      digit_is : x ≡ get_or ds i 0 → Ok (x, at) ≡ number_of (nth_digit ds i p)
      unfolding nth_digit
      digit_is v =
          let z : at ≡ p + (i + 1) / 2 = omega (arith, here) in
          rw (lt-ltb i (length ds) (omega (arith, many)), v, z)

      pub digit_low : i % 2 ≡ 0 → x ≡ get_or s at 0 % 16 → Ok (x, at) ≡ number_of (nth_digit ds i p)
      digit_low even g =
          let z : i / 2 + i / 2 ≡ i = omega arith in
          let y : at ≡ p + i / 2 = omega (arith, here) in
          digit_is (g ∙ ap (λ (j : ℕ). get_or s j 0 % 16) y ∙ sym (low_digit (i / 2) (omega arith)) ∙ ap (λ (j : ℕ). get_or ds j 0) z)

      pub digit_high : (i % 2 ≡ 0 → ⊥) → x ≡ get_or s at 0 / 16 → Ok (x, at) ≡ number_of (nth_digit ds i p)
      digit_high odd g =
          let z : i / 2 + i / 2 + 1 ≡ i = omega arith in
          let y : at ≡ p + (i / 2 + 1) = omega (arith, here) in
          digit_is (g ∙ ap (λ (j : ℕ). get_or s j 0 / 16) y ∙ sym (high_digit (i / 2) (omega arith)) ∙ ap (λ (j : ℕ). get_or ds j 0) z)

-- of the digits that D reads
module _ (D : Format (List ℕ)) (s : List ℕ) (l p i : ℕ) where
  pub digit_no : (r : Refusal) → Err r ≡ field_part p (D.parse s l p) → Err r ≡ digit_read D i s l p
  unfolding digit_read
  digit_no r e = rw (field_refused p (D.parse s l p) r e)

  pub digit_of_lem : (a n q : ℕ) → a ≡ p → D.parse s l p ≡ found (tail (halves (take n (drop p s)))) q
      → number_of (nth_digit (tail (halves (take n (drop a s)))) i a) ≡ digit_read D i s l p
  unfolding digit_read
  digit_of_lem a n q h e = rw (h, e)

-- what digits read are
pub digits_value : (s : List ℕ) (l p h a n : ℕ) → Bytes s → Ok (a, n) ≡ field_part p ((digits h).parse s l p)
    → (a ≡ p) × (n ≡ h + 1) × (p + n ≤ length s) × ((digits h).parse s l p ≡ found (tail (halves (take n (drop p s)))) (p + n))
digits_value s l p h a n b e =
    let f = digits_fill s l p h a n b e in
    let v = (digits_found s l p h f.2.value (p + (h + 1)) f.2.parsed).2 in
    let z : suc h ≡ n = omega (arith, f.1) in
    let y : p + (h + 1) ≡ p + n = omega (arith, f.1) in
    (f.0, f.1, omega (arith, f.1, f.2.in_body_lem), f.2.parsed ∙ ap₂ (λ (ds : List ℕ) (q : ℕ). found ds q) (sym v ∙ ap (λ (m : ℕ). tail (halves (take m (drop p s)))) z) y)

-- each of them, asked for in the bytes of the part
pub digits_each : (s : List ℕ) (l p h a n : ℕ) → Bytes s → Ok (a, n) ≡ field_part p ((digits h).parse s l p)
    → (a + n ≤ length s) × ((i : ℕ) → number_of (nth_digit (tail (halves (take n (drop a s)))) i a) ≡ digit_read (digits h) i s l p)
digits_each s l p h a n b e =
    let v = digits_value s l p h a n b e in
    (omega (arith, v.0, v.2), λ i. digit_of_lem (digits h) s l p i a n (p + n) v.0 v.3)
