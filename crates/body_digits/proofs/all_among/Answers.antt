-- `body_digits::all_among` meets its contract: the bytes from here on are as they must be where all are.
use Prim.Native.Nat.{◌-◌}
use mathlib.Core.Path.{◌≡◌, refl}
use mathlib.Core.Bool.{◌&&◌}
use Rattle.body_formats.proofs.Strings.{every_start, every_done, bytes_below, bytes_above, bytes_next}
use native.Mathlib.Omega.{arith}
use Rattle.body_digits.proofs.all_among.Goals as goal

pub loop-k-init : goal.loop-k-init
loop-k-init c = every_start _ c.args.s.now c.args.p c.args.n _ refl

pub returns-then-b-lo : goal.returns-then-b-lo
returns-then-b-lo c = let v = c.loop-k in bytes_below _ _ _ v.k _ _ v.invariant (omega arith) (omega arith) (omega arith)

pub returns-then-hi-b : goal.returns-then-hi-b
returns-then-hi-b c = let v = c.loop-k in bytes_above _ _ _ v.k _ _ v.invariant (omega arith) (omega arith) (omega arith) (omega arith)

pub loop-k-preserved : goal.loop-k-preserved
loop-k-preserved c = let v = c.loop-k in bytes_next _ _ _ v.k _ _ v.invariant (omega arith) (omega arith) (omega arith) (omega arith)

pub returns : goal.returns
returns c = let v = c.loop-k in every_done _ _ v.k _ _ v.invariant (omega arith)
