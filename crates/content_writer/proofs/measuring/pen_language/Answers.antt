-- `content_writer::measuring::pen_language` meets its contract: its length, its fields, which fill it, and then what the length may be.
use mathlib.Core.Path.{sym, ◌∙◌}
use Rattle.ground_refusal.proofs.Exits.{passed_on}
use Rattle.body_pen.proofs.Leaves.{stopped}
use Rattle.body_pen.proofs.Lengths.{length_pen, closed_stopped}
use Rattle.body_pen.proofs.Pairs.{pair_pen, view_pen, exact_pen, told_pen, untold_pen}
use Rattle.content.specs.Content.{language_fields, language}
use Rattle.content_writer.proofs.measuring.pen_language.Goals as goal

pub returns-in_err-c : goal.returns-in_err-c
unfolding language language_fields
returns-in_err-c c = let pool = c.args.pool.now in
    passed_on c.from_residual.ensures
    ∙ rw length_pen
    (closed_stopped _ _ _ pool _ _ _
    (simp (exact_pen, view_pen, pair_pen)
    (stopped _ _ _ _ _ (sym (stopped _ _ _ _ _ (sym (stopped _ _ _ _ _
    (cc (c.gap-a.ensures, c.pen_bytes-b.ensures, untold_pen _ pool _ _ _ (sym c.in_err-c.was ∙ c.pen_reserved_among.ensures pool))))))))))

pub returns : goal.returns
unfolding language language_fields
returns c = rw length_pen
    (simp (exact_pen, view_pen, pair_pen) (cc (told_pen _ c.args.pool.now _ _ _ _ (sym c.in_ok-c.was ∙ c.pen_reserved_among.ensures c.args.pool.now))))
