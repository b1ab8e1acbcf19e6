-- Laws of rows: the first one of some bytes and the rest, where one begins at a place, and one more after whole ones.
use Prim.Native.Nat.{ℕ, zero, suc, ◌+◌, ◌-◌, ◌≤◌, ◌<◌}
use mathlib.Core.Bool.{Bool, true, false, false≢true}
use mathlib.Core.List.{List, [], ◌∷◌, ◌++◌}
use mathlib.Core.Path.{◌≡◌, refl, sym, ap, ap₂, ◌∙◌}
use native.Mathlib.Omega.{arith}
use borrow.Author.Tests.{le-leb, lt-leb, leb-true, eq-eqb, eqb-true, ne_eqb}
use lib.Dec.{eqb}
use lib.ListN.{length, take, drop, length-append, length-drop}
use lib.Seq.{drop-drop, length-take-le}
use Rattle.ground_placing.specs.Placed.{placed}
use Rattle.ground_placing.proofs.Placing.{placed_next}
use Rattle.body_formats.specs.Format.{bytes_of}
use Rattle.body_formats.proofs.Leaves.{length_bytes_lem}
use Rattle.teaching_rows.specs.Rows.{length_bytes, row, rows, length_in, row_begins, strings_first, strings_in, whole_rows, whole_in_use, FirstRow}

-- ---- the first row

pub begins_long : (b : List ℕ) → row_begins b ≡ true → length_bytes + length_in b ≤ length b
unfolding row_begins
begins_long b e = leb-true _ _ e

pub begins_fits : (b : List ℕ) → length_bytes + length_in b ≤ length b → row_begins b ≡ true
unfolding row_begins
begins_fits b h = le-leb _ _ h

pub begins_not : (b : List ℕ) → length b < length_bytes + length_in b → row_begins b ≡ false
unfolding row_begins
begins_not b h = lt-leb _ _ h

-- the first string of some bytes that a row begins, and the bytes after its row
abbrev pub first_string : List ℕ → List ℕ
first_string b = take (length_in b) (drop length_bytes b)

abbrev pub after_first : List ℕ → List ℕ
after_first b = drop (length_bytes + length_in b) b

first_some : (n : ℕ) (b : List ℕ) → row_begins b ≡ true → strings_first (suc n) b ≡ first_string b ∷ strings_first n (after_first b)
unfolding strings_first
first_some n b e = rw e

first_none : (n : ℕ) (b : List ℕ) → row_begins b ≡ false → strings_first n b ≡ []
unfolding strings_first
first_none zero b e = refl
first_none (suc n) b e = rw e

-- as many rows as bytes are enough
abbrev Enough : ℕ → Type 0
Enough n = (m : ℕ) (b : List ℕ) → length b ≤ n → length b ≤ m → strings_first n b ≡ strings_first m b

no_row : (n : ℕ) (b : List ℕ) → length b ≤ 0 → strings_first n b ≡ []
no_row n b h = first_none n b (begins_not b (omega arith))

one_row_more : (n : ℕ) → Enough n → (m : ℕ) (b : List ℕ) → length b ≤ suc n → length b ≤ m → (r : Bool) → row_begins b ≡ r
    → strings_first (suc n) b ≡ strings_first m b
one_row_more n more m b h k false e = first_none (suc n) b e ∙ sym (first_none m b e)
one_row_more n more zero b h k true e = absurd (omega (arith, begins_long b e))
one_row_more n more (suc m) b h k true e =
    let l = length-drop (length_bytes + length_in b) b in
    let f = begins_long b e in
    first_some n b e ∙ ap (λ x. first_string b ∷ x) (more m (after_first b) (omega (arith, l)) (omega (arith, l))) ∙ sym (first_some m b e)

enough : (n : ℕ) → Enough n
enough zero = λ m b h k. no_row zero b h ∙ sym (no_row m b h)
enough (suc n) = λ m b h k. one_row_more n (enough n) m b h k (row_begins b) refl

pub strings_some : (b : List ℕ) → row_begins b ≡ true → strings_in b ≡ first_string b ∷ strings_in (after_first b)
unfolding strings_in
strings_some b e =
    let f = begins_long b e in
    let l = length-drop (length_bytes + length_in b) b in
    enough (length b) (suc (length b)) b (omega arith) (omega arith) ∙ first_some (length b) b e
    ∙ ap (λ x. first_string b ∷ x) (enough (length b) (length (after_first b)) (after_first b) (omega (arith, l)) (omega arith))

pub strings_none : (b : List ℕ) → row_begins b ≡ false → strings_in b ≡ []
unfolding strings_in
strings_none b e = first_none (length b) b e

-- ---- the row that begins some bytes

pub row_length : (s : List ℕ) → length (row s) ≡ length_bytes + length s
unfolding row
row_length s = length-append (bytes_of length_bytes (length s)) s ∙ ap (λ n. n + length s) (length_bytes_lem length_bytes (length s))

module _ {b s after : List ℕ} (r : FirstRow b s after) where
  -- the string comes first, and the rows after it begin where it ends
  pub row_strings : strings_in b ≡ s ∷ strings_in after
  row_strings = strings_some b r.begins ∙ ap₂ (λ x y. x ∷ strings_in y) (sym r.string_is) (sym r.after_is)

  pub row_size : length b ≡ length_bytes + length s + length after
  row_size =
      let f = begins_long b r.begins in
      let l = length-drop length_bytes b in
      let n = ap length r.string_is ∙ length-take-le (length_in b) (drop length_bytes b) (omega (arith, l)) in
      omega (arith, n, ap length r.after_is, length-drop (length_bytes + length_in b) b)

  pub row_shorter : length after < length b
  row_shorter = omega (arith, row_size)

-- the first row told from what is cut off: eight bytes, and as many as they say
module _ (b rest : List ℕ) (n : ℕ) (d : rest ≡ drop length_bytes b) (l : length rest + length_bytes ≡ length b) (e : n ≡ length_in b) where
  pub first_not : length rest < n → row_begins b ≡ false
  first_not h = begins_not b (omega arith)

  pub first_is : (s after : List ℕ) → n ≤ length rest → s ≡ take n rest → after ≡ drop n rest → FirstRow b s after
  first_is s after h f g =
      record {
        begins = begins_fits b (omega arith);
        string_is = f ∙ ap₂ (λ m x. take m x) e d;
        after_is = g ∙ ap₂ (λ m x. drop m x) e d ∙ drop-drop (length_in b) length_bytes b;
      }

-- ---- a row at a place

-- where a row ends that begins at a place
pub record RowEnd (b : List ℕ) (at end : ℕ) : Type 0 where
  pub is : end ≡ at + (length_bytes + length_in (drop at b))
  pub within : end ≤ length b

-- the string of the row that stands from a place to an end
abbrev pub string_at : List ℕ → ℕ → ℕ → List ℕ
string_at b at end = take (end - (at + length_bytes)) (drop (at + length_bytes) b)

module _ (b : List ℕ) (at : ℕ) (e : row_begins (drop at b) ≡ true) (end : ℕ) (r : RowEnd b at end) where
  -- the string of the row stands between its length and its end, and the rows after it begin at its end
  pub row_strings_at : strings_in (drop at b) ≡ string_at b at end ∷ strings_in (drop end b)
  row_strings_at =
      let size : length_in (drop at b) ≡ end - (at + length_bytes) = omega (arith, r.is) in
      let rest : after_first (drop at b) ≡ drop end b = drop-drop (length_bytes + length_in (drop at b)) at b ∙ ap (λ k. drop k b) (sym r.is) in
      strings_some (drop at b) e
      ∙ ap₂ (λ x y. x ∷ strings_in y) (ap₂ (λ n d. take n d) size (drop-drop length_bytes at b)) rest

-- past the end no row begins
pub begins_past : (b : List ℕ) (at : ℕ) → length b < at + length_bytes → row_begins (drop at b) ≡ false
begins_past b at h = begins_not (drop at b) (omega (arith, length-drop at b))

-- ---- a walk along rows: what is left of them

pub record Left (b rest : List ℕ) : Type 0 where
  pub within : length rest ≤ length b
  pub is : rest ≡ drop (length b - length rest) b

pub left_all : (b : List ℕ) → Left b b
left_all b = let z : length b - length b ≡ 0 = omega arith in record { within = omega arith; is = sym (ap (λ k. drop k b) z) }

-- the place where a walk stands that has so much left
abbrev pub place : List ℕ → List ℕ → ℕ
place b rest = length b - length rest

module _ {b rest s after : List ℕ} (left : Left b rest) (r : FirstRow rest s after) where
  pub begins_here : row_begins (drop (place b rest) b) ≡ true
  begins_here = ap row_begins (sym left.is) ∙ r.begins

  here_size : length_in (drop (place b rest) b) ≡ length s
  here_size =
      let f = begins_long rest r.begins in
      let l = length-drop length_bytes rest in
      sym (ap length r.string_is ∙ length-take-le (length_in rest) (drop length_bytes rest) (omega (arith, l)) ∙ ap length_in left.is)

  pub end_here : RowEnd b (place b rest) (place b after)
  end_here =
      let n = row_size r in
      record { is = omega (arith, left.within, here_size, n); within = omega arith }

  pub string_here : s ≡ string_at b (place b rest) (place b after)
  string_here =
      let n = row_size r in
      let size : length_in rest ≡ place b after - (place b rest + length_bytes) = omega (arith, left.within, here_size, n, ap length_in left.is) in
      r.string_is ∙ ap₂ (λ m x. take m x) size (ap (drop length_bytes) left.is ∙ drop-drop length_bytes (place b rest) b)

  pub after_here : after ≡ drop (place b after) b
  after_here =
      let n = row_size r in
      let size : place b rest + (length_bytes + length_in rest) ≡ place b after = omega (arith, left.within, here_size, n, ap length_in left.is) in
      r.after_is ∙ ap (drop (length_bytes + length_in rest)) left.is ∙ drop-drop (length_bytes + length_in rest) (place b rest) b ∙ ap (λ k. drop k b) size

  pub left_on : Left b after
  left_on = record { within = omega (arith, row_shorter r, left.within); is = after_here }

-- ---- whole rows

-- so many bytes the rows take that begin some bytes
abbrev pub taken : List ℕ → ℕ
taken b = length (rows (strings_in b))

-- what the rows passed take and what those still to come take is what all of them take
pub taken_row : {b s after : List ℕ} → FirstRow b s after → (n m : ℕ) → n + length b ≡ taken b + m → n + length after ≡ taken after + m
unfolding rows
taken_row {b = b} {s = s} {after = after} r n m h =
    let l : taken b ≡ length (row s ++ rows (strings_in after)) = ap (λ x. length (rows x)) (row_strings r) in
    omega (arith, l, length-append (row s) (rows (strings_in after)), row_length s, row_size r)

pub taken_end : (b rest : List ℕ) → row_begins rest ≡ false → taken b + length rest ≡ taken rest + length b → eqb (length rest) 0 ≡ whole_rows b
unfolding whole_rows rows
taken_end b rest e h =
    let z : taken rest ≡ 0 = ap (λ x. length (rows x)) (strings_none rest e) in
    go (eqb (length rest) 0) refl z
  where
    go : (r : Bool) → eqb (length rest) 0 ≡ r → taken rest ≡ 0 → r ≡ eqb (taken b) (length b)
    go true t z = sym (eq-eqb (taken b) (length b) (omega (arith, h, z, eqb-true (length rest) 0 t)))
    go false t z = sym (ne_eqb (taken b) (length b) (λ q. false≢true (sym t ∙ eq-eqb (length rest) 0 (omega (arith, h, z, q)))))

-- the row of s laid: its length, and it after that
pub row_laid : (d : List ℕ) (at : ℕ) (s d1 d2 : List ℕ) → at + (length_bytes + length s) ≤ length d
    → d1 ≡ placed d at (bytes_of length_bytes (length s)) → d2 ≡ placed d1 (at + length_bytes) s → d2 ≡ placed d at (row s)
unfolding row
row_laid d at s d1 d2 h e f =
    let n = length_bytes_lem length_bytes (length s) in
    f ∙ rw e (placed_next d at (bytes_of length_bytes (length s)) (omega (arith, n)) s (at + length_bytes) (omega (arith, n)))

-- ---- the bytes in use

pub in_use_none : (buffer : List ℕ) (used : ℕ) → length buffer < used → false ≡ whole_in_use buffer used
unfolding whole_in_use
in_use_none buffer used h = rw (lt-leb used (length buffer) h)

pub in_use_rows : (buffer : List ℕ) (used : ℕ) → used ≤ length buffer → whole_rows (take used buffer) ≡ whole_in_use buffer used
unfolding whole_in_use
in_use_rows buffer used h = rw (le-leb used (length buffer) h)
