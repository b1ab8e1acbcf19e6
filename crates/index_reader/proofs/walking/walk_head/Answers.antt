-- `index_reader::walking::walk_head` meets its contract: its fields one after the other.
use Rattle.body_formats.specs.Format.{◌▷◌, number, bytes_among, nibbles_among}
use Rattle.body_formats.specs.Time.{time, end_time}
use Rattle.body_formats.proofs.Classes.{Lawful}
use Rattle.body_formats.proofs.Identifiers.{identifier_lawful}
use Rattle.body_formats.proofs.Bits.{nibbles_among_lawful, bytes_among_lawful}
use Rattle.body_formats.proofs.Parts.{number_lawful, followed_lawful}
use Rattle.body_formats.proofs.Times.{time_lawful, end_lawful}
use Rattle.body_walk.proofs.Pairs.{pair}
use Rattle.index.specs.Index.{head}
use Rattle.index_reader.proofs.walking.walk_head.Goals as goal

-- the fields from each on keep the laws of formats
from_type : Lawful (bytes_among 0 0x7F 5 ▷ nibbles_among 1 4)
from_type = followed_lawful _ _ (bytes_among_lawful 0 0x7F 5) (λ a. nibbles_among_lawful 1 4)

from_end : Lawful (end_time ▷ (bytes_among 0 0x7F 5 ▷ nibbles_among 1 4))
from_end = followed_lawful _ _ end_lawful (λ a. from_type)

from_start : Lawful (time ▷ (end_time ▷ (bytes_among 0 0x7F 5 ▷ nibbles_among 1 4)))
from_start = followed_lawful _ _ time_lawful (λ a. from_end)

from_network : Lawful (number 2 ▷ (time ▷ (end_time ▷ (bytes_among 0 0x7F 5 ▷ nibbles_among 1 4))))
from_network = followed_lawful _ _ (number_lawful 2) (λ a. from_start)

pub returns : goal.returns
unfolding head
returns c = pair identifier_lawful from_network.formal c.walk_identifier-a.ensures
    (pair (number_lawful 2) from_start.formal c.walk_number-b.ensures
    (pair time_lawful from_end.formal c.walk_time-c.ensures
    (pair end_lawful from_type.formal c.walk_end-d.ensures
    (pair (bytes_among_lawful 0 0x7F 5) (nibbles_among_lawful 1 4).formal c.walk_bytes-e.ensures c.walk_nibbles.ensures))))
