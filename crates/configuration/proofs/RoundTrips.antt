-- The configuration table's round trips: the laws of formats at this format.
use Rattle.body_formats.proofs.RoundTrips as trips
use Rattle.configuration.specs.Configuration.{configuration_kind, configuration}
use Rattle.configuration.proofs.Lawful.{configuration_filling}

pub configuration_trips : trips.RoundTrips configuration configuration_kind
configuration_trips = trips.round_trips configuration configuration_kind configuration_filling
