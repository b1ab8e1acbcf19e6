-- The content table's round trips: the laws of formats at this format, whatever the width of an auxiliary file's length.
use Prim.Native.Nat.{ℕ}
use Rattle.body_formats.proofs.RoundTrips as trips
use Rattle.content.specs.Content.{content_kind, content}
use Rattle.content.proofs.Lawful.{content_filling}

pub content_trips : (w : ℕ) → trips.RoundTrips (content w) content_kind
content_trips w = trips.round_trips (content w) content_kind (content_filling w)
