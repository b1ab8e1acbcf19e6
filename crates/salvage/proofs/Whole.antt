-- What is promised of the runs of a whole capture, and of a capture made only of good sections.
use Prim.Native.Nat.{ℕ, ◌+◌, ◌*◌, ◌≤◌, ◌<◌}
use mathlib.Core.Bool.{true}
use mathlib.Core.List.{List, [], ◌∷◌, ◌++◌, append-nil}
use mathlib.Core.Path.{◌≡◌, refl, sym, ap, ◌∙◌}
use native.Mathlib.Omega.{arith}
use lib.ListN.{length, drop}
use lib.Seq.{drop_at}
use Rattle.section_reader.specs.Section.{read_section}
use Rattle.salvage.specs.Reading.{is_good, stated, Piece, kept, skipped, pieces, sections_of}
use Rattle.salvage.specs.Runs.{Run, runs_from, runs_of}
use Rattle.salvage.specs.Salvage.{sections}
use Rattle.salvage.specs.Said.{Follow, holders, apart, kept_bytes, Each, KeepsGood, SkipsNone, joined, AllGood, kept_runs}
use Rattle.salvage.proofs.Begins.{good_begins}
use Rattle.salvage.proofs.Pieces.{kept_first, pieces_none}
use Rattle.salvage.proofs.Standing.{standing, follows, held_once, apart_all, kept_written, keeps_good, skips_none}

module _ (s : List ℕ) where
  pub runs_follow : Follow 0 (runs_of s) (length s)
  unfolding runs_of
  runs_follow = follows (standing s)

  pub covered_once : (i : ℕ) → i < length s → holders i (runs_of s) ≡ 1
  covered_once i h = held_once i 0 (length s) (runs_of s) runs_follow (omega arith) h

  pub runs_apart : apart (runs_of s) ≡ true
  unfolding runs_of
  runs_apart = apart_all (standing s)

  pub written_are_kept : sections s ≡ kept_bytes s (runs_of s)
  unfolding sections runs_of
  written_are_kept = sym (kept_written (standing s))

  pub kept_are_good : Each (KeepsGood s) (runs_of s)
  unfolding runs_of
  kept_are_good = keeps_good (standing s)

  pub none_passed_over : Each (SkipsNone s) (runs_of s)
  unfolding runs_of
  none_passed_over = skips_none (standing s)

pub no_runs : runs_of [] ≡ []
unfolding runs_of runs_from
no_runs = rw pieces_none

-- ---- only good sections

-- the pieces of sections back to back
abbrev all_kept : List (List ℕ) → List Piece
all_kept [] = []
all_kept (s ∷ ss) = kept s ∷ all_kept ss

good_first : (s t : List ℕ) → is_good (read_section s) ≡ true → pieces (s ++ t) ≡ kept s ∷ pieces t
good_first s t g =
    let b = good_begins s t g in
    kept_first (s ++ t) b.1 ∙ rw (b.0, drop_at s t (length s) refl)

good_pieces : (ss : List (List ℕ)) → AllGood ss → pieces (joined ss) ≡ all_kept ss
unfolding joined
good_pieces [] g = pieces_none
good_pieces (s ∷ ss) g = good_first s (joined ss) g.0 ∙ ap (λ ps. kept s ∷ ps) (good_pieces ss g.1)

kept_sections : (ss : List (List ℕ)) → sections_of (all_kept ss) ≡ joined ss
unfolding sections_of joined
kept_sections [] = refl
kept_sections (s ∷ ss) = ap (λ l. s ++ l) (kept_sections ss)

kept_runs_lem : (at : ℕ) (ss : List (List ℕ)) → runs_from at (all_kept ss) ≡ kept_runs at ss
unfolding runs_from kept_runs
kept_runs_lem at [] = refl
kept_runs_lem at (s ∷ ss) = ap (λ rs. record { is_kept = true; first = at; size = length s } ∷ rs) (kept_runs_lem (at + length s) ss)

pub comes_out_as_it_was : (ss : List (List ℕ)) → AllGood ss → (sections (joined ss) ≡ joined ss) × (runs_of (joined ss) ≡ kept_runs 0 ss)
unfolding sections runs_of
comes_out_as_it_was ss g = (rw (good_pieces ss g) (kept_sections ss), rw (good_pieces ss g) (kept_runs_lem 0 ss))
