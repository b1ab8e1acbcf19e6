-- `certificate_reader::glancing::past_list` meets its contract: each turn finds one part, and those to come make the list.
use mathlib.Core.Path.{◌≡◌}
use native.Mathlib.Omega.{arith}
use Rattle.body_formats.specs.Format.{opaque}
use Rattle.body_glance.proofs.Runs.{coming_start, coming_turn, coming_done}
use Rattle.certificate_reader.proofs.Glances.{part_good, list_good}
use Rattle.certificate_reader.proofs.glancing.past_list.Goals as goal

pub loop-i-init : goal.loop-i-init
loop-i-init c = (coming_start (opaque _) _, omega arith)

pub loop-i-preserved : goal.loop-i-preserved
loop-i-preserved c = let one = part_good _ _ _ (λ i. (c.type_inv.s i).fits) c.short_length-n.ensures in
    (coming_turn (opaque _) _ _ _ c.loop-i.invariant.0 (omega arith) one, omega arith)

pub returns : goal.returns
returns c q e = let z : q ≡ c.loop-i.at = cc in rw z (omega arith, list_good _ _ _ (coming_done (opaque _) _ _ _ c.loop-i.invariant.0 (omega arith)))
