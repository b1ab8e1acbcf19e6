-- `salvage::has_room` meets its contract: no capture has more sections and runs than its length allows; where that is not enough, both are counted.
use mathlib.Core.Path.{sym, ◌∙◌}
use native.Mathlib.Omega.{arith}
use borrow.Author.Rules.{rules}
use Rattle.salvage.proofs.Standing.{always_room, counted_room, runs_most}
use Rattle.salvage.proofs.has_room.Goals as goal

pub returns-then-fits : goal.returns-then-fits
returns-then-fits c = always_room _ _ _ (sym c.fits.ensures ∙ c.if-fits.true)

pub fits-requires-2 : goal.fits-requires-2
fits-requires-2 c = omega (arith, c.requires, runs_most c.args.s.now, c.measure-need.ensures.1)

pub returns : goal.returns
returns c = let need = c.measure-need.ensures in counted_room _ _ _ _ _ _ need.0 need.1 c.fits-2.ensures
