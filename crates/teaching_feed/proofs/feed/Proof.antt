-- `teaching_feed::feed` meets its contract: 37 and 12 leave all as it was, and else the string's row is laid, whatever the answer.
use Prim.Native.Nat.{◌+◌, ◌≤◌}
use mathlib.Core.Path.{sym}
use native.Mathlib.Omega.{arith}
use borrow.Author.Rules.{rules}
use lib.ListN.{length}
use lib.Seq.{length-take-le}
use Rattle.ground_choices.proofs.Tests.{met, unmet}
use Rattle.teaching_rows.specs.Rows.{length_bytes}
use Rattle.teaching_feed.proofs.Fitting.{fits_room}
use Rattle.teaching_feed.proofs.Refusing.{fed_full, fed_impossible}
use Rattle.teaching_feed.proofs.Keeping.{fed_kept}
use Rattle.teaching_feed.proofs.feed.Statement.{statement}
use Rattle.teaching_feed.proofs.feed.Tie as tie

-- where the function began
begun : tie.Else-not-row_fits → tie.Start
begun c = search

-- the row fits
fits : (c : tie.Else-not-row_fits) → let start = begun c in start.args.used + (length_bytes + length start.args.s.now)
    ≤ length start.args.buffer.now
unfolding begun
fits c = fits_room _ _ _ (met c.before.row_fits.result c.before.row_fits.ensures c.if-not-row_fits.false-raw)

pub feed_spec : {M : Type 1} → statement M
unfolding begun
feed_spec =
    tie.close
    (tie.spec
    (λ c κs. search rules)
    (λ c. fed_full _ _ _ _ (unmet c.before.row_fits.result c.before.row_fits.ensures c.if-not-row_fits.true-raw))
    (λ c κs. search rules)
    (λ c. search rules)
    (λ c. let row : tie.Else-not-row_fits = search in
    fed_impossible _ _ _ _ (met row.before.row_fits.result row.before.row_fits.ensures row.if-not-row_fits.false-raw)
    (unmet c.before.in_use.result c.before.in_use.ensures c.if-not-in_use.true-raw))
    (λ c. omega (arith, fits (search)))
    (λ c. sym (length-take-le _ _ (omega (arith, fits (search)))))
    (λ c κs. search rules)
    (λ c κs. omega (arith, fits (search)))
    (λ c. omega (arith, fits (search)))
    (λ c. omega (arith, fits (search)))
    (λ c. search rules)
    (λ c. let answer_to : tie.After-answer_to-answer = search in let row : tie.Else-not-row_fits = search in let whole : tie.Else-not-in_use = search in
    fed_kept _ _ _ _ (met row.before.row_fits.result row.before.row_fits.ensures row.if-not-row_fits.false-raw)
    (met whole.before.in_use.result whole.before.in_use.ensures whole.if-not-in_use.false-raw)
    _ answer_to.answer_to-answer.ensures _ (omega arith) _ c.before.before.put_row.ensures))
