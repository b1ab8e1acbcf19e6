-- `configuration_writer::measuring::pen_set_return` meets its contract: the address, of the kind that comes first, and the terminals fill the content.
use mathlib.Core.Path.{sym, ◌∙◌}
use Rattle.ground_refusal.proofs.Exits.{passed_on}
use Rattle.body_formats.specs.Format.{◌▷◌}
use Rattle.body_pen.proofs.Pairs.{pair_pen, after_number, number_stopped, exact_pen}
use Rattle.configuration.specs.Configuration.{terminals, address, said}
use Rattle.configuration_writer.proofs.measuring.pen_set_return.Goals as goal

pub returns-in_err-a : goal.returns-in_err-a
unfolding said
returns-in_err-a c = passed_on c.from_residual.ensures
    ∙ rw exact_pen (number_stopped _ (λ kind. address kind ▷ terminals) _ _ _ _ (sym c.in_err-a.was ∙ c.pen_told_among.ensures _))

pub returns : goal.returns
unfolding said
returns c =
    rw (exact_pen, after_number _ (λ kind. address kind ▷ terminals) _ _ _ _ _ (sym c.in_ok-a.was ∙ c.pen_told_among.ensures c.args.pool.now), pair_pen) (cc)
