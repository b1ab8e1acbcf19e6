-- `teaching_feed::row_fits` meets its contract: what is left of the buffer is held against the length and the string.
use Prim.Native.Nat.{◌-◌}
use mathlib.Core.Path.{ap, ◌∙◌}
use native.Mathlib.Omega.{arith}
use borrow.Author.Tests.{lt-leb}
use lib.Dec.{leb}
use Rattle.teaching_rows.specs.Rows.{length_bytes}
use Rattle.teaching_feed.proofs.Fitting.{fits_not, fits_left}
use Rattle.teaching_feed.proofs.row_fits.Goals as goal

pub returns-then-left-ge-LENGTH_BYTES : goal.returns-then-left-ge-LENGTH_BYTES
returns-then-left-ge-LENGTH_BYTES c =
    ap (λ m. leb c.args.n (m - length_bytes)) c.saturating_sub-left.ensures ∙ fits_left c.args.room c.args.used c.args.n (omega arith)

pub returns-else-left-ge-LENGTH_BYTES : goal.returns-else-left-ge-LENGTH_BYTES
returns-else-left-ge-LENGTH_BYTES c =
    lt-leb length_bytes c.saturating_sub-left.result (omega arith) ∙ fits_not c.args.room c.args.used c.args.n (omega arith)
