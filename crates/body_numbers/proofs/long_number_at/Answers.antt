-- `body_numbers::long_number_at` meets its contract: after k turns v is the number of the first k bytes, and fits them.
use Prim.Native.Nat.{◌-◌, ◌^◌, ◌≤◌, ◌<◌}
use mathlib.Core.Path.{◌≡◌, ap, ◌∙◌}
use native.Mathlib.Nat.{pow-zero}
use Rattle.body_formats.specs.Format.{number_at}
use Rattle.body_formats.proofs.Readers.{number_start, number_more, more_fits, six_bytes}
use native.Mathlib.Omega.{arith}
use Rattle.body_numbers.proofs.Numbers.{slice_length, slice_byte}
use Rattle.body_numbers.proofs.long_number_at.Goals as goal

pub loop-b-init : goal.loop-b-init
loop-b-init c = (number_start _ _, omega (arith, pow-zero 256))

pub overflow_mul-v : goal.overflow_mul-v
overflow_mul-v c = omega (arith, slice_length _ _ _ c.requires.0, six_bytes c.loop-b.b-index c.loop-b.v (omega (arith, slice_length _ _ _ c.requires.0)) c.loop-b.invariant.1)

pub overflow_add-v : goal.overflow_add-v
overflow_add-v c = omega (arith, slice_length _ _ _ c.requires.0, six_bytes c.loop-b.b-index c.loop-b.v (omega (arith, slice_length _ _ _ c.requires.0)) c.loop-b.invariant.1)

pub loop-b-preserved : goal.loop-b-preserved
loop-b-preserved c = let l = c.loop-b in (
  number_more _ _ l.b-index l.v _ l.invariant.0 (c.wide.ensures.0 ∙ slice_byte _ _ _ _ c.requires.0 c.loop-b-test.true),
  more_fits l.b-index l.v _ l.invariant.1 c.wide.ensures.1,
)

pub returns : goal.returns
returns c = let l = c.loop-b in l.invariant.0 ∙ ap (number_at _ _) (omega (arith, slice_length _ _ _ c.requires.0))
