-- `index_stream_fields::holds` meets its contract: a yes says that its three tests hold.
use Prim.Native.Nat.{◌-◌}
use mathlib.Core.Bool.{false≢true}
use native.Mathlib.Omega.{arith}
use lib.ListN.{length}
use borrow.Author.Tests.{leb-true}
use Rattle.index_stream_fields.proofs.holds.Goals as goal

pub returns-then-n-k : goal.returns-then-n-k
returns-then-n-k c e = absurd (false≢true e)

pub returns-then-s-at : goal.returns-then-s-at
returns-then-s-at c e = absurd (false≢true e)

pub returns : goal.returns
returns c e = let a = c.args in
    (omega arith, omega (arith, leb-true a.n (length a.s.now - a.at) e))
