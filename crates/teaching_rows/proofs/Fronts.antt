-- Laws of the rows before a place: a front of the bytes that ends where a row does keeps the strings of the rows in it.
use Prim.Native.Nat.{ℕ, ◌+◌, ◌-◌, ◌≤◌}
use mathlib.Core.Bool.{true}
use mathlib.Core.List.{List, [], ◌∷◌, ◌++◌, append_assoc, append-nil}
use mathlib.Core.Path.{◌≡◌, sym, ap, ◌∙◌}
use native.Mathlib.Omega.{arith}
use lib.ListN.{length, take, drop, length-drop}
use lib.Seq.{take-add, take-take, drop_at, length-take-le}
use Rattle.teaching_rows.specs.Rows.{length_bytes, length_in, row_begins, strings_in}
use Rattle.teaching_rows.proofs.Lengths.{length_here, number_take}
use Rattle.teaching_rows.proofs.Rows.{string_at, RowEnd, begins_fits, begins_past, strings_none, row_strings_at}

-- a part of a part
pub part_of_part : (m a n : ℕ) (d : List ℕ) → m + a ≤ n → n ≤ length d → take a (drop m (take n d)) ≡ take a (drop m d)
part_of_part m a n d h l =
    let split : n ≡ m + (n - m) = omega arith in
    let back : drop m (take n d) ≡ take (n - m) (drop m d) =
    ap (λ x. drop m (take x d)) split ∙ ap (drop m) (take-add m (n - m) d)
    ∙ drop_at (take m d) (take (n - m) (drop m d)) m (length-take-le m d (omega arith)) in
    ap (take a) back ∙ take-take a (n - m) (drop m d) (omega arith)

-- ---- a row within a front begins there too, with the same string

module _ (b : List ℕ) (at : ℕ) (e : row_begins (drop at b) ≡ true) (end : ℕ) (r : RowEnd b at end) (upto : ℕ) (h : end ≤ upto) (l : upto ≤ length b) where
  length_within : length_in (drop at (take upto b)) ≡ length_in (drop at b)
  length_within = sym (length_here (take upto b) at) ∙ number_take b upto at length_bytes (omega (arith, r.is)) ∙ length_here b at

  begins_within : row_begins (drop at (take upto b)) ≡ true
  begins_within =
      begins_fits (drop at (take upto b)) (omega (arith, length_within, length-drop at (take upto b), length-take-le upto b l, r.is))

  ends_within : RowEnd (take upto b) at end
  ends_within =
      record { is = r.is ∙ ap (λ n. at + (length_bytes + n)) (sym length_within); within = omega (arith, length-take-le upto b l) }

  strings_within : strings_in (drop at (take upto b)) ≡ string_at b at end ∷ strings_in (drop end (take upto b))
  strings_within =
      row_strings_at (take upto b) at begins_within end ends_within
      ∙ ap (λ s. s ∷ strings_in (drop end (take upto b)))
      (part_of_part (at + length_bytes) (end - (at + length_bytes)) upto b (omega (arith, r.is)) l)

-- ---- a place where a row begins, or the rows end

-- of every front that has the place, the strings before it and those after it are all
pub record Front (b : List ℕ) (at : ℕ) : Type 0 where
  pub splits : (upto : ℕ) → at ≤ upto → upto ≤ length b → strings_in (take upto b) ≡ strings_in (take at b) ++ strings_in (drop at (take upto b))

none_after : (b : List ℕ) (at : ℕ) → at ≤ length b → strings_in (drop at (take at b)) ≡ []
none_after b at h = strings_none (drop at (take at b)) (begins_past (take at b) at (omega (arith, length-take-le at b h)))

-- before the first row there is none
pub front_none : (b : List ℕ) → strings_in (take 0 b) ≡ []
front_none b = none_after b 0 (omega arith)

pub front_start : (b : List ℕ) → Front b 0
front_start b = record { splits = λ upto h l. ap (λ x. x ++ strings_in (take upto b)) (sym (front_none b)) }

module _ (b : List ℕ) (at : ℕ) (front : Front b at) (e : row_begins (drop at b) ≡ true) (end : ℕ) (r : RowEnd b at end) where
  abbrev until : List (List ℕ)
  until = strings_in (take at b) ++ string_at b at end ∷ []

  turn : (upto : ℕ) → end ≤ upto → upto ≤ length b → strings_in (take upto b) ≡ until ++ strings_in (drop end (take upto b))
  turn upto h l =
      front.splits upto (omega (arith, r.is)) l ∙ ap (λ x. strings_in (take at b) ++ x) (strings_within b at e end r upto h l)
      ∙ sym (append_assoc (strings_in (take at b)) (string_at b at end ∷ []) (strings_in (drop end (take upto b))))

  -- the row's string comes last
  pub front_row : strings_in (take end b) ≡ until
  front_row = turn end (omega arith) r.within ∙ ap (λ x. until ++ x) (none_after b end r.within) ∙ append-nil until

  pub front_next : Front b end
  front_next = record { splits = λ upto h l. turn upto h l ∙ ap (λ x. x ++ strings_in (drop end (take upto b))) (sym front_row) }
