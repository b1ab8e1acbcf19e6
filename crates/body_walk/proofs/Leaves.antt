-- The laws of leaves: entries laid one after the other, and a walk past one field, whatever format it has.
use Prim.Native.Nat.{ℕ, ◌+◌, ◌-◌, ◌/◌, ◌%◌, ◌≤◌, ◌<◌}
use Rattle.std.specs.Prelude.{Result, Ok, Err, IsErr, IsErrAnd}
use mathlib.Core.Path.{◌≡◌, refl, sym, ap, ◌∙◌}
use mathlib.Core.List.{List, [], ◌∷◌, ◌++◌}
use mathlib.Core.Bool.{Bool, true, false, ◌&&◌}
use native.Mathlib.Omega.{arith}
use native.Mathlib.Nat.{add-zero, zero-add}
use lib.ListN.{length, get_or, set, drop, length-append, length-drop}
use lib.Seq.{length-take-le}
use lib.Dec.{leb}
use borrow.Author.Tests.{eq-eqb, ne_eqb, le-leb, lt-leb}
use Rattle.ground_placing.specs.Placed.{placed}
use Rattle.ground_placing.proofs.Placing.{stored, placed_none, placed_next}
use Rattle.ground_refusal.specs.declared.Refusal.{Refusal}
use Rattle.ground_refusal.proofs.Exits.{passed_on, ok_pair_inj}
use Rattle.ground_refusal.specs.declared.Refusal.TheVariants.{PastBody, PastPart, OutsideSet, OutputTooSmall}
use Rattle.body_formats.specs.Reading.{Reading, found, refused, and_then, need, Fault, unless, judged, value_of}
use Rattle.body_formats.specs.Format.{Format, number_at, count, only, outside, number, nibbles, nibbles_among, reserved, bytes, bytes_among, every, rest, Length, length_of, counted, opaque}
use Rattle.body_formats.specs.Time.{time, end_time}
use Rattle.body_formats.specs.Answers.{number_of, part_of, field_part, number_read, part_read}
use Rattle.body_formats.proofs.Outcomes.{found_inj, and_then_found, judged_found, within_found}
use Rattle.body_formats.proofs.Classes.{Bytes}
use Rattle.body_formats.proofs.Leaves.{length_bytes_lem}
use Rattle.body_formats.proofs.Bits.{number_parses}
use Rattle.body_formats.proofs.Parts.{opaque_next}
use Rattle.body_formats.proofs.Readers.{number_found, number_refused, part_found, part_refused}
use Rattle.body_walk.specs.Walked.{walk_onward, walked, leaving, entries_needed, Inside, Walked, value_walked, walk_of, beside, Counted, opened_by, entered}
use Rattle.body_walk.specs.Entries.{Laid, Stepped, entry_of, past_number, number_worth, Told, span_of, past_part, end_of}
use Rattle.body_walk.proofs.Pairs.{stays}
use Rattle.body_walk.proofs.Counts.{entered_inside}

-- ---- entries on a tape

module _ (tape : List ℕ) (room : ℕ) (wet : Bool) where
  pub laid_none : Laid tape room wet [] tape
  laid_none = record { dry = λ e. refl; there = λ e h k. sym (placed_none tape (length tape + 1 - room)) }

  -- a tape stays where the walk is dry, or the entries don't fit
  pub laid_not : (xs : List ℕ) → (wet ≡ true → length xs < room → room ≤ length tape + 1 → ⊥) → Laid tape room wet xs tape
  laid_not xs never = record { dry = λ e. refl; there = λ e h k. absurd (never e h k) }

  pub laid_dry : (xs : List ℕ) → wet ≡ false → Laid tape room wet xs tape
  laid_dry xs e = laid_not xs (λ f h k. let z : ◌≡◌ {A = ℕ} 0 1 = cc in omega arith)

  pub laid_one : (v k : ℕ) → wet ≡ true → k ≡ length tape + 1 - room → 1 < room → room ≤ length tape + 1 → Laid tape room wet (v ∷ []) (set tape k v)
  laid_one v k e f h m =
      record {
        dry = λ g. absurd (let z : ◌≡◌ {A = ℕ} 0 1 = cc in omega arith);
        there = λ g i j. rw f (stored tape (length tape + 1 - room) (v ∷ []) (omega arith));
      }

  pub laid_both : (xs ys mid tape' : List ℕ) (left : ℕ) → Laid tape room wet xs mid → length mid ≡ length tape → left ≡ room - length xs
      → Laid mid left wet ys tape' → Laid tape room wet (xs ++ ys) tape'
  laid_both xs ys mid tape' left a same e b =
      record {
        dry = λ g. b.dry g ∙ a.dry g;
        there = λ g h k.
            let n = length-append xs ys in
            let at = length tape + 1 - room in
            b.there g (omega arith) (omega arith)
            ∙ rw (a.there g (omega arith) k)
            (placed_next tape at xs (omega arith) ys (length (placed tape at xs) + 1 - left) (omega (arith, same, ap length (a.there g (omega arith) k))));
      }

-- what a step leaves, by what its answer is
pub stepped : {B : Type 0} (to : B → Result (ℕ × ℕ) Refusal) (xs : B → List ℕ) (x y : B) → x ≡ y → (tape : List ℕ) (room : ℕ) (wet : Bool) (r : Result (ℕ × ℕ) Refusal) (tape' : List ℕ) → r ≡ to y
    → Laid tape room wet (xs y) tape' → Stepped (to x) (xs x) tape room wet r tape'
stepped to xs x y e tape room wet r tape' f t = rw e record { said = f; laid = t }

-- a number told, or its refusal
module _ {x : Result (ℕ × ℕ) Refusal} {tape : List ℕ} {room : ℕ} {wet : Bool} where
  pub told_none : {e : Refusal} → x ≡ Err e → {r : Result ((ℕ × ℕ) × ℕ) Refusal} → IsErr r × IsErrAnd r (λ y. y ≡ e) → Told x tape room wet r tape
  told_none h p = rw (h, passed_on p) (record { past = record { said = refl; laid = laid_none tape room wet }; value = refl })

  pub told_one : {v q : ℕ} → x ≡ Ok (v, q) → {left : ℕ} {tape' : List ℕ} → left ≡ room - 1 → Laid tape room wet (v ∷ []) tape'
      → Told x tape room wet (Ok ((q, left), v)) tape'
  told_one {q = q} h f t = rw h (record { past = record { said = ap (λ n. Ok (q, n)) f; laid = t }; value = refl })

-- ---- a walk past one field

module _ {A : Type 0} (F : Format A) (s : List ℕ) (l : ℕ) (x : Result (ℕ × ℕ) Refusal) (wet : Bool) (tape : List ℕ) where
  pub leaf : (p room : ℕ) → x ≡ Ok (p, room) → (to : Result (ℕ × ℕ) Refusal) (xs : List ℕ) (r : Result (ℕ × ℕ) Refusal) (tape' : List ℕ) → Stepped to xs tape room wet r tape'
      → to ≡ walk_onward F room (F.parse s l p) → (Inside s l p → (a : A) (q : ℕ) → F.parse s l p ≡ found a q → F.tape a p ≡ xs)
      → Walked F s l x wet tape r tape'
  unfolding walked
  leaf p room e to xs r tape' t o u =
      record {
        said = t.said ∙ o ∙ rw e;
        dry = t.laid.dry;
        laid = λ w p' room' f i a q g h k.
            let z = ok_pair_inj (sym f ∙ e) in
            let m = z.0 in
            let n = z.1 in
            let j = u (rw m at i) a q (rw m at g) in
            rw (m, n, j) (t.laid.there w (rw (m, n, j) at h) (rw n at k));
      }

  module _ (p room : ℕ) (e : x ≡ Ok (p, room)) where
    pub leaf_refused : (r : Refusal) → F.parse s l p ≡ refused r → Walked F s l x wet tape (Err r) tape
    leaf_refused r f =
        leaf p room e (Err r) [] (Err r) tape record { said = refl; laid = laid_none tape room wet } (rw f)
        (λ i a q g. absurd (let z : ◌≡◌ {A = ℕ} 0 1 = cc in omega arith))

    pub leaf_found : (a : A) (q left : ℕ) (tape' : List ℕ) → F.parse s l p ≡ found a q → left ≡ room - length (F.tape a 0)
        → Laid tape room wet (F.tape a p) tape'
        → Walked F s l x wet tape (Ok (q, left)) tape'
    leaf_found a q left tape' f g t =
        leaf p room e (Ok (q, left)) (F.tape a p) (Ok (q, left)) tape' record { said = refl; laid = t } (rw (f, g))
        (λ i b k h. ap (λ c. F.tape c p) (found_inj (sym h ∙ f)).0)

pub count_refused : (C : Format ℕ) (s : List ℕ) (l : ℕ) (x : Result (ℕ × ℕ) Refusal) (wet : Bool) (tape : List ℕ) (e : Refusal) → x ≡ Err e → {r : Result ((ℕ × ℕ) × ℕ) Refusal}
    → IsErr r × IsErrAnd r (λ y. y ≡ e) → Counted C s l x wet tape r tape
unfolding value_walked
count_refused C s l x wet tape e h p = rw (passed_on p) (record { past = stays h; value = rw h })

-- a number, and its one entry
module _ (F : Format ℕ) (one : (v p : ℕ) → F.tape v p ≡ v ∷ []) (s : List ℕ) (l : ℕ) (x : Result (ℕ × ℕ) Refusal) (wet : Bool) (tape : List ℕ) (p room : ℕ) (e : x ≡ Ok (p, room))
    (n : Result (ℕ × ℕ) Refusal) (f : n ≡ number_of (F.parse s l p)) where
  pub number_leaf : (r : Result (ℕ × ℕ) Refusal) (tape' : List ℕ) → Stepped (past_number room n) (entry_of n) tape room wet r tape' → Walked F s l x wet tape r tape'
  number_leaf r tape' t =
      leaf F s l x wet tape p room e (past_number room n) (entry_of n) r tape' t (ap (past_number room) f ∙ go (F.parse s l p))
      (λ i a q g. one a p ∙ sym (ap entry_of (f ∙ ap number_of g)))
    where
      go : (y : Reading ℕ) → past_number room (number_of y) ≡ walk_onward F room y
      go (found v q) = ap (λ k. Ok (q, room - k)) (sym (ap length (one v 0)))
      go (refused r) = refl

  pub number_counted : (r : Result ((ℕ × ℕ) × ℕ) Refusal) (tape' : List ℕ) → Told n tape room wet r tape' → Counted F s l x wet tape r tape'
  unfolding value_walked
  number_counted r tape' t = record { past = number_leaf (walk_of r) tape' t.past; value = t.value ∙ ap number_worth f ∙ go (F.parse s l p) ∙ rw e }
    where
      go : (y : Reading ℕ) → number_worth (number_of y) ≡ value_of y
      go (found v q) = refl
      go (refused r) = refl

-- a count that was told is any number of its bytes
pub number_told : (w : ℕ) {s : List ℕ} {l : ℕ} {x : Result (ℕ × ℕ) Refusal} {wet : Bool} {tape : List ℕ} {r : Result ((ℕ × ℕ) × ℕ) Refusal} {tape' : List ℕ} → Bytes s
    → Counted (count w) s l x wet tape r tape' → Counted (number w) s l x wet tape r tape'
unfolding walked value_walked number only
number_told w {s} {l} {x} b c =
    record {
      past = record {
        said = c.past.said ∙ same x;
        dry = c.past.dry;
        laid = λ g p room e i a q f. c.past.laid g p room e i a q (number_parses w s l p b ∙ f);
      };
      value = c.value ∙ worth x;
    }
  where
    onward : (room : ℕ) (y : Reading ℕ) → walk_onward (count w) room y ≡ walk_onward (number w) room y
    onward room (found v q) = refl
    onward room (refused r) = refl

    same : (x : Result (ℕ × ℕ) Refusal) → walked (count w) s l x ≡ walked (number w) s l x
    same (Ok (p, room)) = ap (walk_onward (count w) room) (number_parses w s l p b) ∙ onward room ((number w).parse s l p)
    same (Err r) = refl

    worth : (x : Result (ℕ × ℕ) Refusal) → value_walked (count w) s l x ≡ value_walked (number w) s l x
    worth (Ok (p, room)) = ap value_of (number_parses w s l p b)
    worth (Err r) = refl

-- ---- which formats have one entry

pub count_one : (w v p : ℕ) → (count w).tape v p ≡ v ∷ []
unfolding count
count_one w v p = refl

pub only_one : (fault : ℕ → ℕ → Fault) (F : Format ℕ) → ((v p : ℕ) → F.tape v p ≡ v ∷ []) → (v p : ℕ) → (only fault F).tape v p ≡ v ∷ []
unfolding only
only_one fault F one v p = one v p

pub number_one : (w v p : ℕ) → (number w).tape v p ≡ v ∷ []
unfolding number
number_one w = only_one _ (count w) (count_one w)

pub reserved_one : (k w v p : ℕ) → (reserved k w).tape v p ≡ v ∷ []
unfolding reserved
reserved_one k w v p = refl

pub time_one : (v p : ℕ) → time.tape v p ≡ v ∷ []
unfolding time
time_one = only_one _ (number 5) (number_one 5)

pub end_one : (v p : ℕ) → end_time.tape v p ≡ v ∷ []
unfolding end_time
end_one = only_one _ (number 5) (number_one 5)

-- ---- a part that was read ends in the body

pub counted_end : (L : Length) (s : List ℕ) (l p : ℕ) (y : Result (ℕ × ℕ) Refusal) → y ≡ part_of ((counted L rest).parse s l p) → end_of y ≤ length s
unfolding entered
counted_end L s l p y e = rw e (go (part_of ((counted L rest).parse s l p)) (entered_inside L s l (Ok (p, 0)) refl))
  where
    go : (y : Result (ℕ × ℕ) Refusal) → beside (opened_by 0 y) ≤ length s → end_of y ≤ length s
    go (Ok (a, n)) h = h
    go (Err r) h = h

pub part_end : (s : List ℕ) (l p w : ℕ) (y : Result (ℕ × ℕ) Refusal) → y ≡ part_read w s l p → end_of y ≤ length s
unfolding part_read
part_end s l p w y e = counted_end (length_of w) s l p y e

-- ---- opaque bytes, and their two entries

opaque_two : (w : ℕ) (xs : List ℕ) (p : ℕ) → (opaque w).tape xs p ≡ (p + w) ∷ length xs ∷ []
unfolding counted rest length_of count
opaque_two w xs p = rw length_bytes_lem

pub part_leaf : (s : List ℕ) (l : ℕ) (x : Result (ℕ × ℕ) Refusal) (wet : Bool) (tape : List ℕ) (p room : ℕ) → x ≡ Ok (p, room) → (w : ℕ) (y : Result (ℕ × ℕ) Refusal) → y ≡ part_read w s l p
    → (r : Result (ℕ × ℕ) Refusal) (tape' : List ℕ) → Stepped (past_part room y) (span_of y) tape room wet r tape' → Walked (opaque w) s l x wet tape r tape'
part_leaf s l x wet tape p room e w (Ok (a, n)) f r tape' t =
    let g = part_found s l p w a n f in
    leaf (opaque w) s l x wet tape p room e _ _ r tape' t
    (rw (g.1, opaque_two))
    (λ i xs q h.
    let u = found_inj (sym g.1 ∙ h) in
    let z = opaque_next s l i.bytes i.part w p xs q h in
    let start : p + w ≡ a = omega (arith, ap length u.0, u.1, g.2) in
    let size : length xs ≡ n = omega (arith, ap length u.0, g.2) in
    opaque_two w xs p ∙ rw (start, size))
part_leaf s l x wet tape p room e w (Err r) f r' tape' t =
    let g = part_refused s l p w r f in
    leaf (opaque w) s l x wet tape p room e _ _ r' tape' t (rw g) (λ i xs q h. absurd (let z : ◌≡◌ {A = ℕ} 0 1 = cc in omega arith))

-- ---- all bytes that are left in a part, and their two entries

pub rest_leaf : (s : List ℕ) (l : ℕ) (x : Result (ℕ × ℕ) Refusal) (wet : Bool) (tape : List ℕ) (p room : ℕ) → x ≡ Ok (p, room) → (n left : ℕ) (tape' : List ℕ) → n ≡ l - p
    → left ≡ room - 2
    → Laid tape room wet (p ∷ n ∷ []) tape' → Walked rest s l x wet tape (Ok (l, left)) tape'
unfolding rest
rest_leaf s l x wet tape p room e n left tape' f g t =
    leaf rest s l x wet tape p room e (Ok (l, left)) (p ∷ n ∷ []) (Ok (l, left)) tape' record { said = refl; laid = t } (ap (λ b. Ok (l, b)) g)
    (λ i xs q h.
    let long : length xs ≡ n = sym (ap length (found_inj h).0) ∙ length-take-le (l - p) (drop p s) (simp length-drop (omega (arith, i.part))) ∙ sym f in
    rw long)

-- ---- a field of n bytes, and where it stands

module _ {A : Type 0} (F : Format A) (n : ℕ) (two : (a : A) (i : ℕ) → F.tape a i ≡ i ∷ n ∷ []) (s : List ℕ) (l p : ℕ)
    (fits : (a : A) (q : ℕ) → F.parse s l p ≡ found a q → (q ≡ p + n) × (q ≤ length s)) (y : Result (ℕ × ℕ) Refusal) (f : y ≡ field_part p (F.parse s l p)) where
  pub field_end : end_of y ≤ length s
  field_end = rw f (go (F.parse s l p) fits)
    where
      go : (z : Reading A) → ((a : A) (q : ℕ) → z ≡ found a q → (q ≡ p + n) × (q ≤ length s)) → end_of (field_part p z) ≤ length s
      go (found a q) h = let g = h a q refl in omega (arith, g.0, g.1)
      go (refused r) h = omega arith

  pub field_leaf : (x : Result (ℕ × ℕ) Refusal) (wet : Bool) (tape : List ℕ) (room : ℕ) → x ≡ Ok (p, room) → (r : Result (ℕ × ℕ) Refusal) (tape' : List ℕ)
      → Stepped (past_part room y) (span_of y) tape room wet r tape' → Walked F s l x wet tape r tape'
  field_leaf x wet tape room e r tape' t =
      leaf F s l x wet tape p room e (past_part room y) (span_of y) r tape' t (ap (past_part room) f ∙ go (F.parse s l p) fits)
      (λ i a q g.
      let k : q - p ≡ n = omega (arith, (fits a q g).0) in
      two a p ∙ sym (ap span_of (f ∙ ap (field_part p) g) ∙ ap (λ m. p ∷ m ∷ []) k))
    where
      go : (z : Reading A) → ((a : A) (q : ℕ) → z ≡ found a q → (q ≡ p + n) × (q ≤ length s)) → past_part room (field_part p z) ≡ walk_onward F room z
      go (found a q) h =
          let end : p + (q - p) ≡ q = omega (arith, (h a q refl).0) in
          rw (end, two)
      go (refused r) h = refl

-- bytes that are one field
module _ (lo hi n : ℕ) where
  pub bytes_two : (xs : List ℕ) (i : ℕ) → (bytes_among lo hi n).tape xs i ≡ i ∷ n ∷ []
  unfolding only bytes
  bytes_two xs i = refl

  pub bytes_fit : (s : List ℕ) (l p : ℕ) (xs : List ℕ) (q : ℕ) → (bytes_among lo hi n).parse s l p ≡ found xs q → (q ≡ p + n) × (q ≤ length s)
  unfolding only bytes
  bytes_fit s l p xs q e =
      let i = and_then_found ((bytes n).parse s l p) _ xs q e in
      let test : Fault = outside (every (λ x. leb lo x && leb x hi)) i.0 p in
      let j = (found_inj (judged_found test (found i.0 i.1) xs q i.3).1).1 in
      let g = within_found s l p (p + n) _ i.0 i.1 i.2 in
      let k = (found_inj g.2).1 in
      (omega (arith, j, k), omega (arith, j, k, g.0))

-- ---- two numbers of four bits: one byte is read, and both are judged

byte_at : (s : List ℕ) (p : ℕ) → number_at s p 1 ≡ get_or s p 0
unfolding number_at
byte_at s p = rw (add-zero, zero-add)

abbrev high_low : ℕ → ℕ × ℕ
high_low v = (v / 16, v % 16)

nibbles_of : (s : List ℕ) (l p : ℕ) → nibbles.parse s l p ≡ and_then ((count 1).parse s l p) (λ v q. found (high_low v) q)
unfolding nibbles count
nibbles_of s l p = rw byte_at (go (leb (p + 1) (length s)) (leb (p + 1) l) (get_or s p 0))
  where
    go : (a b : Bool) (v : ℕ) → need a (PastBody p) (need b (PastPart p) (found (high_low v) (p + 1)))
        ≡ and_then (need a (PastBody p) (need b (PastPart p) (found v (p + 1)))) (λ u q. found (high_low u) q)
    go true true v = refl
    go true false v = refl
    go false b v = refl

module _ (lo hi : ℕ) (s : List ℕ) (l p : ℕ) (x : Result (ℕ × ℕ) Refusal) (wet : Bool) (tape : List ℕ) (room : ℕ) (e : x ≡ Ok (p, room)) where
  pub nibbles_no : (r : Refusal) → Err r ≡ number_read 1 s l p → Walked (nibbles_among lo hi) s l x wet tape (Err r) tape
  unfolding only number_read
  nibbles_no r f = leaf_refused (nibbles_among lo hi) s l x wet tape p room e r (rw (nibbles_of, number_refused ((count 1).parse s l p) r f))

  module _ (v q : ℕ) (f : Ok (v, q) ≡ number_read 1 s l p) where
    nibbles_judged : (nibbles_among lo hi).parse s l p
        ≡ judged (unless ((leb lo (v / 16) && leb (v / 16) hi) && (leb lo (v % 16) && leb (v % 16) hi)) (OutsideSet p)) (found (high_low v) q)
    unfolding only number_read
    nibbles_judged = rw (nibbles_of, number_found ((count 1).parse s l p) v q f)

    pub either_out : ((leb lo (v / 16) && leb (v / 16) hi) && (leb lo (v % 16) && leb (v % 16) hi)) ≡ false → Walked (nibbles_among lo hi) s l x wet tape (Err (OutsideSet p)) tape
    either_out g = leaf_refused (nibbles_among lo hi) s l x wet tape p room e (OutsideSet p) (nibbles_judged ∙ rw g)

    pub both_in : ((leb lo (v / 16) && leb (v / 16) hi) && (leb lo (v % 16) && leb (v % 16) hi)) ≡ true → (left : ℕ) (tape' : List ℕ) → left ≡ room - 2
        → Laid tape room wet ((v / 16) ∷ (v % 16) ∷ []) tape'
        → Walked (nibbles_among lo hi) s l x wet tape (Ok (q, left)) tape'
    unfolding only nibbles
    both_in g left tape' k t = leaf_found (nibbles_among lo hi) s l x wet tape p room e (high_low v) q left tape' (nibbles_judged ∙ rw g) k t

-- ---- into a part, and out of it with no byte left

pub enter_refused : (L : Length) (s : List ℕ) (l : ℕ) (x : Result (ℕ × ℕ) Refusal) (r : Refusal) → x ≡ Err r → Err r ≡ entered L s l x
unfolding entered
enter_refused L s l x r e = rw e

pub enter_at : (L : Length) (s : List ℕ) (l : ℕ) (x : Result (ℕ × ℕ) Refusal) (p room : ℕ) → x ≡ Ok (p, room) → (y : Result (ℕ × ℕ) Refusal) → y ≡ part_of ((counted L rest).parse s l p)
    → opened_by room y ≡ entered L s l x
unfolding entered
enter_at L s l x p room e y f = rw (e, f)

pub enter_part : (w : ℕ) (s : List ℕ) (l : ℕ) (x : Result (ℕ × ℕ) Refusal) (p room : ℕ) → x ≡ Ok (p, room) → (y : Result (ℕ × ℕ) Refusal) → y ≡ part_read w s l p
    → opened_by room y ≡ entered (length_of w) s l x
unfolding part_read
enter_part w s l x p room e y f = enter_at (length_of w) s l x p room e y f

module _ (left_over : ℕ → Refusal) (l : ℕ) (x : Result (ℕ × ℕ) Refusal) where
  pub leave_refused : (r : Refusal) → x ≡ Err r → Err r ≡ leaving left_over l x
  unfolding leaving
  leave_refused r e = rw e

  module _ (q room : ℕ) (e : x ≡ Ok (q, room)) where
    pub leave_over : q < l → Err (left_over q) ≡ leaving left_over l x
    unfolding leaving
    leave_over h = rw (e, lt-leb l q h)

    pub leave_at : l ≤ q → Ok (q, room) ≡ leaving left_over l x
    unfolding leaving
    leave_at h = rw (e, le-leb l q h)

-- ---- out of a whole body

module _ (room : ℕ) (x : Result (ℕ × ℕ) Refusal) (q left : ℕ) (e : x ≡ Ok (q, left)) where
  pub entries_small : left ≡ 0 → Err OutputTooSmall ≡ entries_needed room x
  entries_small z = rw (e, eq-eqb left 0 z)

  pub entries_fit : (left ≡ 0 → ⊥) → (n : ℕ) → n ≡ room - left → Ok n ≡ entries_needed room x
  entries_fit z n f = rw (e, ne_eqb left 0 z, f)
