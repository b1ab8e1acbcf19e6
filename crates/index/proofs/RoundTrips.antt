-- The index table's round trips: the laws of formats at this format.
use Rattle.body_formats.proofs.RoundTrips as trips
use Rattle.index.specs.Index.{index_kind, index}
use Rattle.index.proofs.Lawful.{index_filling}

pub index_trips : trips.RoundTrips index index_kind
index_trips = trips.round_trips index index_kind index_filling
