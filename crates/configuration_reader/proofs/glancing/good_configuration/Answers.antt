-- `configuration_reader::glancing::good_configuration` meets its contract: each turn finds one command, those to come make the list, and the signature ends the body.
use Prim.Native.Nat.{◌-◌}
use mathlib.Core.Path.{◌≡◌, refl}
use lib.ListN.{length}
use native.Mathlib.Omega.{arith}
use borrow.Author.Tests.{eqb-true}
use Rattle.body_glance.proofs.Runs.{coming_start, coming_turn, coming_done}
use Rattle.body_glance.proofs.Leaves.{not_good}
use Rattle.configuration.specs.Configuration.{command}
use Rattle.configuration_reader.proofs.Glances.{command_good, configuration_good}
use Rattle.configuration_reader.proofs.glancing.good_configuration.Goals as goal

pub returns-then-l-lt1 : goal.returns-then-l-lt1
returns-then-l-lt1 c = not_good

pub loop-i-init : goal.loop-i-init
loop-i-init c = (coming_start command _, omega arith)

pub returns-then-l-at-lt3 : goal.returns-then-l-at-lt3
returns-then-l-at-lt3 c = not_good

pub returns-then-l-at : goal.returns-then-l-at
returns-then-l-at c = not_good

pub returns-then-not-good_said : goal.returns-then-not-good_said
returns-then-not-good_said c = not_good

pub loop-i-preserved : goal.loop-i-preserved
loop-i-preserved c = let one = command_good _ refl (λ i. (c.type_inv.s i).fits) c.two_bytes-n.ensures.0
    (omega arith) (c.good_said.ensures c.if-not-good_said.false) in
    (coming_turn command _ _ _ c.loop-i.invariant.0 (omega arith) one, omega arith)

pub returns-then-l-at-lt2 : goal.returns-then-l-at-lt2
returns-then-l-at-lt2 c = not_good

pub returns : goal.returns
returns c e = let rest : length c.args.s.now - c.loop-i.at - 2 ≡ c.two_bytes.result = eqb-true _ _ e in
    configuration_good (λ i. (c.type_inv.s i).fits) (coming_done command _ _ _ c.loop-i.invariant.0 (omega arith))
    (omega (arith, c.two_bytes.ensures.0, rest))
