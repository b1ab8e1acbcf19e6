-- `index_records::record_at` meets its contract: each field is the number that stands at its place.
use Rattle.index_records.proofs.Places.{by_places}
use Rattle.index_records.proofs.record_at.Goals as goal

pub returns : goal.returns
returns c = by_places _ _ _ _ _ _ _ c.least-a.ensures c.number_there-length.ensures.0
    c.number_there-start.ensures.0 c.number_there-end.ensures.0 c.number_there-both.ensures.0
