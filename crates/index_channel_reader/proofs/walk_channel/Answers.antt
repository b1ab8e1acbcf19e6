-- `index_channel_reader::walk_channel` meets its contract: its fields one after the other, under their names.
use mathlib.Core.Path.{refl}
use native.Mathlib.Omega.{arith}
use Rattle.body_formats.specs.Format.{◌▷◌, number, reserved}
use Rattle.body_formats.proofs.Classes.{Lawful}
use Rattle.body_formats.proofs.Leaves.{reserved_lawful}
use Rattle.body_formats.proofs.Parts.{number_lawful, followed_lawful}
use Rattle.body_walk.proofs.Pairs.{pair, view_walk}
use Rattle.body_walk.proofs.Counts.{past_told}
use Rattle.index.specs.Index.{descriptors, streams, channel, channel_fields}
use Rattle.index.proofs.Lawful.{descriptors_lawful, streams_lawful}
use Rattle.index_channel_reader.proofs.walk_channel.Goals as goal

-- the fields from each on keep the laws of formats
from_descriptors : Lawful (descriptors ▷ streams)
from_descriptors = followed_lawful _ _ descriptors_lawful (λ a. streams_lawful)

from_pid : Lawful (reserved 3 1 ▷ (descriptors ▷ streams))
from_pid = followed_lawful _ _ (reserved_lawful 3 1 (omega arith)) (λ a. from_descriptors)

from_program : Lawful (number 2 ▷ (reserved 3 1 ▷ (descriptors ▷ streams)))
from_program = followed_lawful _ _ (number_lawful 2) (λ a. from_pid)

from_stream : Lawful (number 2 ▷ (number 2 ▷ (reserved 3 1 ▷ (descriptors ▷ streams))))
from_stream = followed_lawful _ _ (number_lawful 2) (λ a. from_program)

pub returns : goal.returns
unfolding channel channel_fields
returns c = view_walk _ _ (λ a. refl)
    (pair (number_lawful 2) from_stream.formal c.walk_number-a.ensures
    (pair (number_lawful 2) from_program.formal c.walk_number-b.ensures
    (pair (number_lawful 2) from_pid.formal c.walk_number-c.ensures
    (pair (reserved_lawful 3 1 (omega arith)) from_descriptors.formal (past_told c.walk_reserved.ensures c.onward-d.ensures)
    (pair descriptors_lawful streams_lawful.formal c.walk_descriptors-e.ensures c.walk_streams.ensures)))))
