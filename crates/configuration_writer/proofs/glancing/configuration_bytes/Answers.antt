-- `configuration_writer::glancing::configuration_bytes` meets its contract: each turn sees one command, those to come make the list, and the signature after it
-- ends the tape.
use mathlib.Core.Path.{refl}
use native.Mathlib.Omega.{arith}
use Rattle.body_form_glance.proofs.Forms.{lays_to}
use Rattle.body_form_glance.proofs.Rows.{coming_start, coming_turn, coming_done}
use Rattle.configuration.specs.Configuration.{command}
use Rattle.configuration_writer.proofs.Glances.{command_laid, configuration_laid}
use Rattle.configuration_writer.proofs.glancing.configuration_bytes.Goals as goal

pub loop-init : goal.loop-init
loop-init c = (coming_start command _ _ _ (omega arith) (omega arith), omega arith, omega arith, omega arith, omega arith)

pub overflow_add-bytes : goal.overflow_add-bytes
overflow_add-bytes c = omega (arith, c.loop.invariant.3, c.loop.invariant.4, c.loop-test.true)

pub overflow_add-bytes-in-loop : goal.overflow_add-bytes-in-loop
overflow_add-bytes-in-loop c = omega (arith, c.loop.invariant.3, c.loop.invariant.4, c.loop-test.true, c.see_said-content.ensures.few)

pub loop-preserved : goal.loop-preserved
loop-preserved c = let v = c.loop.invariant in
    let seen = c.see_said-content.ensures in (
      coming_turn command _ _ _ _ v.0 _ _ refl (omega (arith, v.2)) c.loop-test.true
          (command_laid _ refl (omega arith) (omega arith) seen.few (seen.good (omega arith))),
      seen.inside,
      omega (arith, v.2, seen.few),
      omega (arith, v.3, seen.few),
      v.4,
    )

pub last_part-signature-requires : goal.last_part-signature-requires
last_part-signature-requires c = c.loop.invariant.1

pub overflow_add-bytes-2 : goal.overflow_add-bytes-2
overflow_add-bytes-2 c = let v = c.loop.invariant in omega (arith, v.3, v.4, c.loop.auto.counter-end, c.last_part-signature.ensures.short)

pub returns-clause-laid : goal.returns-clause-laid
returns-clause-laid c some = let v = c.loop.invariant in
    let done = coming_done command _ _ _ _ v.0 c.loop-test.false in
    let whole = configuration_laid (omega arith) (omega arith) (done.0, done.1) (c.last_part-signature.ensures.laid (omega arith)) in
    (whole.0, lays_to refl (omega (arith, v.2)) whole.1)
