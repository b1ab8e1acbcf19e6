-- `configuration_rules::clocks::is_time` meets its contract: its tests are those of the definition.
use borrow.Author.Tests.{le-leb, lt-leb}
use Rattle.configuration_rules.proofs.clocks.is_time.Goals as goal

pub returns-then-hour-gt23 : goal.returns-then-hour-gt23
returns-then-hour-gt23 c = rw (lt-leb _ _ c.if-hour-gt23.true)

pub returns-then-minute-gt59 : goal.returns-then-minute-gt59
returns-then-minute-gt59 c = rw (le-leb _ _ c.if-hour-gt23.false, lt-leb _ _ c.if-minute-gt59.true)

pub returns : goal.returns
returns c = rw (le-leb _ _ c.if-hour-gt23.false, le-leb _ _ c.if-minute-gt59.false)
