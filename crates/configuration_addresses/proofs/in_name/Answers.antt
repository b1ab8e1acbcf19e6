-- `in_name` meets its contract: its tests are those of the definition.
use borrow.Author.Tests.{le-leb, lt-leb}
use Rattle.configuration_addresses.proofs.in_name.Goals as goal

pub returns-then-c-lt33 : goal.returns-then-c-lt33
returns-then-c-lt33 c = rw (lt-leb _ _ c.if-c-lt33.true)

pub returns-then-c-gt126 : goal.returns-then-c-gt126
returns-then-c-gt126 c = rw (le-leb _ _ c.if-c-lt33.false, lt-leb _ _ c.if-c-gt126.true)

pub returns : goal.returns
returns c = rw (le-leb _ _ c.if-c-lt33.false, le-leb _ _ c.if-c-gt126.false)
