-- `configuration_writer::write` meets its contract: what was measured decides all refusals, and only then the bytes are written.
use Rattle.ground_refusal.proofs.Exits.{passed_on}
use Rattle.body_ink.proofs.Writers.{none_written, ready_to_write, all_written}
use Rattle.configuration.specs.Configuration.{configuration}
use Rattle.configuration_writer.proofs.write.Goals as goal

pub returns-in_err-size : goal.returns-in_err-size
returns-in_err-size c =
    let w = none_written configuration _ _ _ c.measure.ensures c.fitted.ensures c.in_err-size.was (passed_on c.from_residual.ensures) in
    record { said = w.0; left = w.1 }

pub ink_configuration-requires : goal.ink_configuration-requires
ink_configuration-requires c = ready_to_write configuration _ _ _ c.measure.ensures c.fitted.ensures c.in_ok-size.was

pub returns : goal.returns
returns c =
    let w = all_written configuration _ _ _ c.measure.ensures c.fitted.ensures c.in_ok-size.was c.ink_configuration.ensures in
    record { said = w.0; left = w.1 }
