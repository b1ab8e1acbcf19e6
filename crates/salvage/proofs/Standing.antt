-- Every way that reading can stand, at each piece of a capture, and what it says of the runs: the promises of the list.
use Prim.Native.Nat.{ℕ, zero, suc, ◌+◌, ◌-◌, ◌*◌, ◌/◌, ◌≤◌, ◌<◌}
use mathlib.Core.Bool.{Bool, true, false, ◌&&◌, ◌||◌}
use mathlib.Core.List.{List, [], ◌∷◌, ◌++◌}
use mathlib.Core.Path.{◌≡◌, refl, sym, ap, ◌∙◌}
use native.Mathlib.Omega.{arith}
use borrow.Author.Tests.{ltb-true, ltb-false, leb-true, lt-ltb, le-ltb, le-leb, lt-leb}
use lib.Dec.{leb, ltb}
use lib.ListN.{length, take, drop, length-append, length-drop, drop_of_length-le}
use lib.Seq.{length-take-le, drop-drop}
use Rattle.std.specs.Prelude.{if◌then◌else◌}
use Rattle.ground_choices.proofs.Tests.{both}
use Rattle.crc.specs.Crc.{digit}
use Rattle.section_reader.specs.Section.{read_section}
use Rattle.salvage.specs.Reading.{is_good, stated, begins, gap, Piece, kept, skipped, pieces, sections_of}
use Rattle.salvage.specs.Runs.{Run, runs_from, runs_of}
use Rattle.salvage.specs.Salvage.{sections, numbers}
use Rattle.salvage.specs.Said.{Follow, holders, apart, bytes_of, kept_bytes, Each, KeepsGood, SkipsNone}
use Rattle.salvage.proofs.Begins.{begins_is, begins_long, stated_part, none_good}
use Rattle.salvage.proofs.Pieces.{kept_first, pieces_none, gap_next, gap_at_other, gap_within, gap_skips, gap_gone, skipped_of, gap_pieces}
use Rattle.salvage.proofs.Turns.{numbers_length}

-- ---- the ways

-- the first of the pieces is no skipped one
abbrev pub first_kept : List Piece → Bool
first_kept [] = true
first_kept (kept s ∷ ps) = true
first_kept (skipped s ∷ ps) = false

pub data Standing (s : List ℕ) : ℕ → List Piece → Type 0 where
  ended : {at : ℕ} → at ≡ length s → Standing s at []
  keeps : {at : ℕ} {ps : List Piece} (t : List ℕ) → t ≡ take (length t) (drop at s) → is_good (read_section t) ≡ true → 12 ≤ length t
      → Standing s (at + length t) ps → Standing s at (kept t ∷ ps)
  skips : {at : ℕ} {ps : List Piece} (t : List ℕ) → t ≡ take (length t) (drop at s) → 0 < length t
      → ((i : ℕ) → at ≤ i → i < at + length t → begins (drop i s) ≡ false) → first_kept ps ≡ true
      → Standing s (at + length t) ps → Standing s at (skipped t ∷ ps)

first_kept_lem : (u : List ℕ) → gap u ≡ 0 → first_kept (pieces u) ≡ true
first_kept_lem [] z = rw pieces_none
first_kept_lem (b ∷ u) z = by (begins (b ∷ u)) refl
  where
    by : (x : Bool) → begins (b ∷ u) ≡ x → first_kept (pieces (b ∷ u)) ≡ true
    by true e = rw (kept_first (b ∷ u) e)
    by false e = absurd (omega (arith, gap_next b u e))

skipped_some : (t : List ℕ) (ps : List Piece) → 0 < length t → skipped_of t ++ ps ≡ skipped t ∷ ps
skipped_some [] ps h = absurd (omega arith)
skipped_some (b ∷ t) ps h = refl

module _ (s : List ℕ) where
  -- at a place where a section begins, from what follows it
  stand_keeps : (at : ℕ) → begins (drop at s) ≡ true
      → Standing s (at + length (stated (drop at s))) (pieces (drop (at + length (stated (drop at s))) s)) → Standing s at (pieces (drop at s))
  stand_keeps at e rest =
      rw (kept_first (drop at s) e, drop-drop (length (stated (drop at s))) at s)
      (keeps (stated (drop at s)) (sym (stated_part (drop at s))) (sym (begins_is (drop at s)) ∙ e) (begins_long (drop at s) e).0 rest)

  -- and where none does, from what follows the gap
  stand_skips : (at : ℕ) → 0 < gap (drop at s) → Standing s (at + gap (drop at s)) (pieces (drop (at + gap (drop at s)) s)) → Standing s at (pieces (drop at s))
  stand_skips at some rest =
      rw (gap_pieces (drop at s), skipped_some part _ (omega (arith, long)), drop-drop (gap (drop at s)) at s)
      (skips part (ap (λ (n : ℕ). take n (drop at s)) (sym long)) (omega (arith, long)) none kept_next after)
    where
      part : List ℕ
      part = take (gap (drop at s)) (drop at s)

      long : length part ≡ gap (drop at s)
      long = length-take-le (gap (drop at s)) (drop at s) (gap_within (drop at s))

      none : (i : ℕ) → at ≤ i → i < at + length part → begins (drop i s) ≡ false
      none i low high =
          let k : at + (i - at) ≡ i = omega arith in
          ap (λ (n : ℕ). begins (drop n s)) (sym k) ∙ ap begins (sym (drop-drop (i - at) at s)) ∙ gap_skips (drop at s) (i - at) (omega (arith, long))

      after : Standing s (at + length part) (pieces (drop (at + gap (drop at s)) s))
      after = rw long rest

      kept_next : first_kept (pieces (drop (at + gap (drop at s)) s)) ≡ true
      kept_next = first_kept_lem _ (ap gap (sym (drop-drop (gap (drop at s)) at s)) ∙ gap_gone (drop at s))

  stand_ended : (at : ℕ) → at ≡ length s → Standing s at (pieces (drop at s))
  stand_ended at e = let h : length s ≤ at = omega arith in rw (drop_of_length-le s h, pieces_none) (ended e)

  -- at a place before the end, from what is known of all places after it
  stand_before : (at : ℕ) → at < length s → ((k : ℕ) → at < k → k ≤ length s → Standing s k (pieces (drop k s)))
      → (x : Bool) → begins (drop at s) ≡ x → Standing s at (pieces (drop at s))
  stand_before at before go true e =
      let l = begins_long (drop at s) e in
      stand_keeps at e (go _ (omega arith) (omega (arith, length-drop at s)))
  stand_before at before go false e =
      let some = gap_at_other s at before e in
      stand_skips at (omega arith) (go _ (omega arith) (omega (arith, gap_within (drop at s), length-drop at s)))

  standing_within : (n at : ℕ) → at ≤ length s → length s ≤ at + n → Standing s at (pieces (drop at s))
  standing_within zero at h k = stand_ended at (omega arith)
  standing_within (suc n) at h k = by (ltb at (length s)) refl (standing_within n)
    where
      by : (x : Bool) → ltb at (length s) ≡ x → ((at : ℕ) → at ≤ length s → length s ≤ at + n → Standing s at (pieces (drop at s)))
          → Standing s at (pieces (drop at s))
      by true e go = stand_before at (ltb-true at (length s) e) (λ j l m. go j m (omega arith)) (begins (drop at s)) refl
      by false e go = stand_ended at (omega (arith, ltb-false at (length s) e))

  pub standing : Standing s 0 (pieces s)
  standing = standing_within (length s) 0 (omega arith) (omega arith)

-- ---- what it says of the runs

-- of two pieces that follow each other one is kept
apart_first : (at : ℕ) (r : Run) (ps : List Piece) → (r.is_kept || first_kept ps) ≡ true → apart (runs_from at ps) ≡ true → apart (r ∷ runs_from at ps) ≡ true
unfolding runs_from apart
apart_first at r [] e h = refl
apart_first at r (kept t ∷ ps) e h = rw h (simp e)
apart_first at r (skipped t ∷ ps) e h = rw h (simp e)

module _ {s : List ℕ} where
  pub follows : {at : ℕ} {ps : List Piece} → Standing s at ps → Follow at (runs_from at ps) (length s)
  unfolding runs_from
  follows (ended e) = e
  follows (keeps t part good long rest) = (refl, omega arith, follows rest)
  follows (skips t part some none first rest) = (refl, some, follows rest)

  pub apart_all : {at : ℕ} {ps : List Piece} → Standing s at ps → apart (runs_from at ps) ≡ true
  unfolding runs_from apart
  apart_all (ended e) = refl
  apart_all (keeps {at} {ps} t part good long rest) =
      apart_first (at + length t) (record { is_kept = true; first = at; size = length t }) ps refl (apart_all rest)
  apart_all (skips {at} {ps} t part some none first rest) =
      apart_first (at + length t) (record { is_kept = false; first = at; size = length t }) ps first (apart_all rest)

  pub kept_written : {at : ℕ} {ps : List Piece} → Standing s at ps → kept_bytes s (runs_from at ps) ≡ sections_of ps
  unfolding runs_from kept_bytes bytes_of sections_of
  kept_written (ended e) = refl
  kept_written (keeps t part good long rest) = rw (sym part, kept_written rest)
  kept_written (skips t part some none first rest) = kept_written rest

  pub keeps_good : {at : ℕ} {ps : List Piece} → Standing s at ps → Each (KeepsGood s) (runs_from at ps)
  unfolding runs_from bytes_of
  keeps_good (ended e) = tt
  keeps_good (keeps t part good long rest) = ((λ k. rw (sym part) good), keeps_good rest)
  keeps_good (skips t part some none first rest) = ((λ k. absurd (let z : ◌≡◌ {A = ℕ} 0 1 = cc in omega arith)), keeps_good rest)

  pub skips_none : {at : ℕ} {ps : List Piece} → Standing s at ps → Each (SkipsNone s) (runs_from at ps)
  unfolding runs_from
  skips_none (ended e) = tt
  skips_none (keeps t part good long rest) = ((λ k. absurd (let z : ◌≡◌ {A = ℕ} 0 1 = cc in omega arith)), skips_none rest)
  skips_none (skips t part some none first rest) = ((λ k i low high n. none_good (drop i s) n (none i low high)), skips_none rest)

  -- ---- how many there are

  stands_within : {at : ℕ} {ps : List Piece} → Standing s at ps → at ≤ length s
  stands_within (ended e) = omega arith
  stands_within (keeps t part good long rest) = omega (arith, stands_within rest)
  stands_within (skips t part some none first rest) = omega (arith, stands_within rest)

  pub sections_within : {at : ℕ} {ps : List Piece} → Standing s at ps → at + length (sections_of ps) ≤ length s
  unfolding sections_of
  sections_within (ended e) = omega arith
  sections_within (keeps {ps = ps} t part good long rest) = omega (arith, sections_within rest, length-append t (sections_of ps))
  sections_within (skips t part some none first rest) = omega (arith, sections_within rest)

  -- a kept run has 12 bytes, and before each but the first a skipped one may stand, of one byte
  pub runs_few : {at : ℕ} {ps : List Piece} → Standing s at ps
      → (13 * length (runs_from at ps) + 2 * at ≤ 2 * length s + 11) × (first_kept ps ≡ true → 13 * length (runs_from at ps) + 2 * at ≤ 2 * length s)
  unfolding runs_from
  runs_few (ended e) = (omega arith, λ k. omega arith)
  runs_few (keeps t part good long rest) = let few = (runs_few rest).0 in (omega arith, λ k. omega arith)
  runs_few (skips t part some none first rest) =
      let few = (runs_few rest).1 first in
      (omega arith, λ k. absurd (let z : ◌≡◌ {A = ℕ} 0 1 = cc in omega arith))

-- ---- each byte is held once

module _ (i : ℕ) where
  holds : (r : Run) (rs : List Run) → r.first ≤ i → i < r.first + r.size → holders i (r ∷ rs) ≡ suc (holders i rs)
  unfolding holders digit
  holds r rs low high = rw (le-leb r.first i low, lt-ltb i (r.first + r.size) high) (omega arith)

  holds_before : (r : Run) (rs : List Run) → i < r.first → holders i (r ∷ rs) ≡ holders i rs
  unfolding holders digit
  holds_before r rs h = rw (lt-leb r.first i h) (omega arith)

  holds_after : (r : Run) (rs : List Run) → r.first ≤ i → r.first + r.size ≤ i → holders i (r ∷ rs) ≡ holders i rs
  unfolding holders digit
  holds_after r rs low high = rw (le-leb r.first i low, le-ltb i (r.first + r.size) high) (omega arith)

  held_none : holders i [] ≡ 0
  unfolding holders
  held_none = refl

  held_later : (at end : ℕ) (rs : List Run) → Follow at rs end → i < at → holders i rs ≡ 0
  held_later at end [] f h = held_none
  held_later at end (r ∷ rs) f h = holds_before r rs (omega (arith, f.0)) ∙ held_later (at + r.size) end rs f.2 (omega arith)

  pub held_once : (at end : ℕ) (rs : List Run) → Follow at rs end → at ≤ i → i < end → holders i rs ≡ 1
  held_once at end [] f low high = absurd (omega arith)
  held_once at end (r ∷ rs) f low high = by (ltb i (at + r.size)) refl (held_once (at + r.size) end rs f.2)
    where
      by : (x : Bool) → ltb i (at + r.size) ≡ x → (at + r.size ≤ i → i < end → holders i rs ≡ 1) → holders i (r ∷ rs) ≡ 1
      by true e go =
          let b = ltb-true i (at + r.size) e in
          holds r rs (omega (arith, f.0)) (omega (arith, f.0)) ∙ ap suc (held_later (at + r.size) end rs f.2 b)
      by false e go =
          let b = ltb-false i (at + r.size) e in
          holds_after r rs (omega (arith, f.0)) (omega (arith, f.0)) ∙ go b high

-- ---- of a whole capture

module _ (s : List ℕ) where
  pub sections_most : length (sections s) ≤ length s
  unfolding sections
  sections_most = omega (arith, sections_within (standing s))

  pub runs_most : 13 * length (runs_of s) ≤ 2 * length s + 11
  unfolding runs_of
  runs_most = omega (arith, (runs_few (standing s)).0)

  numbers_most : length (numbers s) ≡ length (runs_of s) * 3
  unfolding numbers
  numbers_most = numbers_length (runs_of s)

  -- what has room for the longest output and the longest list has room
  pub always_room : (room entries : ℕ) → leb (length s) room && leb ((2 * length s + 11) / 13 * 3) entries ≡ true
      → true ≡ (leb (length (sections s)) room && leb (length (numbers s)) entries)
  always_room room entries e =
      let t = both (leb (length s) room) (leb ((2 * length s + 11) / 13 * 3) entries) e in
      let a = leb-true (length s) room t.0 in
      let b = leb-true ((2 * length s + 11) / 13 * 3) entries t.1 in
      rw (le-leb (length (sections s)) room (omega (arith, sections_most)), le-leb (length (numbers s)) entries (omega (arith, numbers_most, runs_most)))

  pub counted_room : (bytes runs room entries : ℕ) (r : Bool) → bytes ≡ length (sections s) → runs ≡ length (runs_of s)
      → r ≡ (leb bytes room && leb (runs * 3) entries) → r ≡ (leb (length (sections s)) room && leb (length (numbers s)) entries)
  counted_room bytes runs room entries r b n e = rw (numbers_most, sym b, sym n) e
