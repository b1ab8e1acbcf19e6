-- The certificate table's round trips: the laws of formats at this format.
use Rattle.body_formats.proofs.RoundTrips as trips
use Rattle.certificate.specs.Certificate.{certificate_kind, certificate}
use Rattle.certificate.proofs.Lawful.{certificate_filling}

pub certificate_trips : trips.RoundTrips certificate certificate_kind
certificate_trips = trips.round_trips certificate certificate_kind certificate_filling
