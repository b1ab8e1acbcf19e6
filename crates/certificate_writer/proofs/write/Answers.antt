-- `certificate_writer::write` meets its contract: what was measured decides all refusals, and only then the bytes are written.
use Rattle.ground_refusal.proofs.Exits.{passed_on}
use Rattle.body_ink.proofs.Writers.{none_written, ready_to_write, all_written}
use Rattle.certificate.specs.Certificate.{certificate}
use Rattle.certificate_writer.proofs.write.Goals as goal

pub returns-in_err-size : goal.returns-in_err-size
returns-in_err-size c =
    let w = none_written certificate _ _ _ c.measure.ensures c.fitted.ensures c.in_err-size.was (passed_on c.from_residual.ensures) in
    record { said = w.0; left = w.1 }

pub ink_certificate-requires : goal.ink_certificate-requires
ink_certificate-requires c = ready_to_write certificate _ _ _ c.measure.ensures c.fitted.ensures c.in_ok-size.was

pub returns : goal.returns
returns c =
    let w = all_written certificate _ _ _ c.measure.ensures c.fitted.ensures c.in_ok-size.was c.ink_certificate.ensures in
    record { said = w.0; left = w.1 }
