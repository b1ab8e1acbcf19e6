-- Rows keep what was laid in them: the strings that whole rows keep are those of which they were made, and bytes are whole rows exactly if they were made so.
use Prim.Native.Nat.{ℕ, zero, suc, ◌+◌, ◌^◌, ◌≤◌, ◌<◌}
use mathlib.Core.Bool.{Bool, true, false}
use mathlib.Core.List.Memᴰ
use mathlib.Core.List.{List, [], ◌∷◌, ◌++◌, append_assoc, append-nil, Memᴰ as In}
use mathlib.Core.Path.{◌≡◌, refl, sym, ap, ap₂, ◌∙◌}
use mathlib.Core.Logic.{◌↔◌, ◌⊎◌, inl, inr}
use native.Mathlib.Omega.{arith}
use borrow.Author.Tests.{eq-eqb, eqb-true}
use lib.ListN.{length, take, drop, length-append, length-drop, take-append-drop}
use lib.Seq.{length-take-le, take_at, drop_at, drop-drop, get_or-drop}
use Rattle.body_formats.specs.Format.{bytes_of}
use Rattle.body_formats.proofs.Classes.{Bytes}
use Rattle.body_formats.proofs.Leaves.{length_bytes_lem, number_value, number_stands, number_below}
use Rattle.body_formats.proofs.Stand.{taken, stands_all}
use Rattle.teaching_rows.specs.Rows.{length_bytes, row, rows, length_in, row_begins, strings_first, strings_in, whole_rows, Short}
use Rattle.teaching_rows.proofs.Rows.{begins_fits, begins_long, first_string, after_first, strings_some, strings_none, row_length, begins_not}

-- ---- one row and what follows

module _ (s rest : List ℕ) (h : length s < 256 ^ length_bytes) where
  length_first : length_in (row s ++ rest) ≡ length s
  unfolding row length_in
  length_first =
      number_value (row s ++ rest) 0 length_bytes (length s) h (s ++ rest, append_assoc (bytes_of length_bytes (length s)) s rest)

  row_begins_lem : row_begins (row s ++ rest) ≡ true
  row_begins_lem = begins_fits (row s ++ rest) (omega (arith, length_first, length-append (row s) rest, row_length s))

  string_first : first_string (row s ++ rest) ≡ s
  unfolding row
  string_first =
      rw length_first
      (ap (take (length s))
      (ap (drop length_bytes) (append_assoc (bytes_of length_bytes (length s)) s rest)
      ∙ drop_at (bytes_of length_bytes (length s)) (s ++ rest) length_bytes (length_bytes_lem length_bytes (length s)))
      ∙ take_at s rest (length s) refl)

  rest_after : after_first (row s ++ rest) ≡ rest
  rest_after = rw length_first (drop_at (row s) rest (length_bytes + length s) (row_length s))

  pub strings_row : strings_in (row s ++ rest) ≡ s ∷ strings_in rest
  strings_row = strings_some (row s ++ rest) row_begins_lem ∙ ap₂ (λ x y. x ∷ strings_in y) string_first rest_after

-- ---- rows made of strings

pub rows_more : (kept : List (List ℕ)) (s : List ℕ) → rows (kept ++ s ∷ []) ≡ rows kept ++ row s
unfolding rows
rows_more [] s = append-nil (row s)
rows_more (x ∷ kept) s = ap (λ b. row x ++ b) (rows_more kept s) ∙ sym (append_assoc (row x) (rows kept) (row s))

pub strings_rows : (kept : List (List ℕ)) → Short kept → strings_in (rows kept) ≡ kept
unfolding rows Short
strings_rows [] h = strings_none [] (begins_not [] (omega arith))
strings_rows (s ∷ kept) h =
    strings_row s (rows kept) (h s (In.head refl)) ∙ ap (λ x. s ∷ x) (strings_rows kept (λ t i. h t (In.tail i)))

pub rows_whole : (kept : List (List ℕ)) → Short kept → whole_rows (rows kept) ≡ true
unfolding whole_rows
rows_whole kept h = eq-eqb _ _ (ap (λ x. length (rows x)) (strings_rows kept h))

-- ---- bytes that are whole rows

module _ (b : List ℕ) (are_bytes : Bytes b) (e : row_begins b ≡ true) where
  first_length : length (first_string b) ≡ length_in b
  first_length = length-take-le (length_in b) (drop length_bytes b) (omega (arith, begins_long b e, length-drop length_bytes b))

  length_stands : bytes_of length_bytes (length_in b) ≡ take length_bytes b
  unfolding length_in
  length_stands =
      let n = length_bytes_lem length_bytes (length_in b) in
      sym (taken b 0 (bytes_of length_bytes (length_in b)) (number_stands b 0 length_bytes are_bytes (omega (arith, begins_long b e)))) ∙ rw n

  first_row : row (first_string b) ++ after_first b ≡ b
  unfolding row
  first_row =
      ap (λ x. x ++ first_string b ++ after_first b) (ap (bytes_of length_bytes) first_length ∙ length_stands)
      ∙ append_assoc (take length_bytes b) (first_string b) (after_first b)
      ∙ ap (λ x. take length_bytes b ++ (first_string b ++ x)) (sym (drop-drop (length_in b) length_bytes b))
      ∙ ap (λ x. take length_bytes b ++ x) (take-append-drop (length_in b) (drop length_bytes b))
      ∙ take-append-drop length_bytes b

-- the rows of the strings that some bytes keep begin these bytes
abbrev Begun : List ℕ → List (List ℕ) → Type 0
Begun b kept = ((rest : List ℕ) × (b ≡ rows kept ++ rest)) × Short kept

short_more : (s : List ℕ) (kept : List (List ℕ)) → length s < 256 ^ length_bytes → Short kept → Short (s ∷ kept)
unfolding Short
short_more s kept h f t i = go (Memᴰ.cases_cons i)
  where
    go : (t ≡ s) ⊎ In t kept → length t < 256 ^ length_bytes
    go (inl e) = rw e h
    go (inr j) = f t j

length_below : (b : List ℕ) → Bytes b → length_in b < 256 ^ length_bytes
unfolding length_in
length_below b are_bytes = number_below b 0 length_bytes are_bytes

none_begun : (b : List ℕ) → Begun b []
unfolding rows Short
none_begun b = ((b, refl), λ s i. absurd (Memᴰ.not-nil i))

one_begun : (b : List ℕ) → Bytes b → row_begins b ≡ true → (kept : List (List ℕ)) → Begun (after_first b) kept → Begun b (first_string b ∷ kept)
unfolding rows
one_begun b are_bytes e kept more = (
  (
    more.0.0,
    sym (first_row b are_bytes e) ∙ ap (λ x. row (first_string b) ++ x) more.0.1
        ∙ sym (append_assoc (row (first_string b)) (rows kept) more.0.0),
  ),
  short_more (first_string b) kept (omega (arith, first_length b are_bytes e, length_below b are_bytes)) more.1,
)

begun_first : (n : ℕ) (b : List ℕ) → Bytes b → Begun b (strings_first n b)
unfolding strings_first
begun_first zero b are_bytes = none_begun b
begun_first (suc n) b are_bytes =
    go (row_begins b) refl (begun_first n (after_first b) (λ i. rw get_or-drop (are_bytes (length_bytes + length_in b + i))))
  where
    go : (r : Bool) → row_begins b ≡ r → Begun (after_first b) (strings_first n (after_first b)) → Begun b (strings_first (suc n) b)
    go false e more = rw e (none_begun b)
    go true e more = rw e (one_begun b are_bytes e _ more)

module _ (b : List ℕ) (are_bytes : Bytes b) where
  begun : Begun b (strings_in b)
  unfolding strings_in
  begun = begun_first (length b) b are_bytes

  whole_made : whole_rows b ≡ true → b ≡ rows (strings_in b)
  unfolding whole_rows
  whole_made e = stands_all b (rows (strings_in b)) begun.0 (eqb-true _ _ e)

  -- the theorem behind 12: bytes are whole rows exactly if they are the rows of some strings
  pub whole_exactly : (whole_rows b ≡ true) ↔ ((kept : List (List ℕ)) × Short kept × (b ≡ rows kept))
  whole_exactly = (λ e. (strings_in b, begun.1, whole_made e), λ k. rw k.2 (rows_whole k.0 k.1))
