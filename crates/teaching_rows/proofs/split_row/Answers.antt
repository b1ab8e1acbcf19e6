-- `teaching_rows::split_row` meets its contract: where eight bytes and as many as they say are cut off, they are the row.
use Prim.Native.Nat.{ℕ, ◌+◌, ◌<◌}
use mathlib.Core.List.{List}
use mathlib.Core.Bool.{false}
use mathlib.Core.Path.{◌≡◌, ap, ◌∙◌}
use native.Mathlib.Omega.{arith}
use lib.ListN.{length, drop}
use Rattle.std.specs.Prelude.{Option, Some, None, MatchOption}
use Rattle.std.specs.Borrow.{Bor}
use Rattle.std.specs.List.{IsSplitAt}
use Rattle.std.specs.Int.{w64, from_be_bytes}
use Rattle.teaching_rows.specs.Rows.{length_bytes, length_in, row_begins, FirstRow}
use Rattle.teaching_rows.proofs.Lengths.{length_read}
use Rattle.teaching_rows.proofs.Rows.{begins_not, first_not, first_is}
use Rattle.teaching_rows.proofs.split_row.Goals as goal

pub returns-in_err-length : goal.returns-in_err-length
returns-in_err-length c = rw c.from_residual.ensures (begins_not c.args.bytes.now (omega (arith, c.in_err-length.ensures.cases)))

told : (b rest : List ℕ) (n : ℕ) → rest ≡ drop length_bytes b → length rest + length_bytes ≡ length b → n ≡ length_in b
    → (r : Option (Bor (List ℕ) × Bor (List ℕ))) → MatchOption r (length rest < n) (λ p. IsSplitAt rest n p.0.now p.1.now)
    → MatchOption r (row_begins b ≡ false) (λ p. FirstRow b p.0.now p.1.now)
told b rest n d l e None h = first_not b rest n d l e h
told b rest n d l e (Some p) h = first_is b rest n d l e p.0.now p.1.now h.0 h.1 h.2

pub returns : goal.returns
returns c = let cut = c.in_ok-length.ensures.cases in
    told _ _ _ cut.1 cut.2 (c.from_be_bytes.ensures ∙ ap (from_be_bytes w64) cut.0 ∙ length_read _) _ c.split_at_checked.ensures.cases
