-- `index_channel_reader::walk_stream` meets its contract: its fields one after the other, under their names.
use mathlib.Core.Path.{refl}
use native.Mathlib.Omega.{arith}
use Rattle.body_formats.specs.Format.{◌▷◌, reserved}
use Rattle.body_formats.proofs.Classes.{Lawful}
use Rattle.body_formats.proofs.Leaves.{reserved_lawful}
use Rattle.body_formats.proofs.Parts.{number_lawful, followed_lawful}
use Rattle.body_walk.proofs.Pairs.{pair, view_walk}
use Rattle.body_walk.proofs.Counts.{past_told}
use Rattle.index.specs.Index.{descriptors, stream, stream_fields}
use Rattle.index.proofs.Lawful.{descriptors_lawful}
use Rattle.index_channel_reader.proofs.walk_stream.Goals as goal

-- the fields from this one on keep the laws of formats
from_pid : Lawful (reserved 3 1 ▷ descriptors)
from_pid = followed_lawful _ _ (reserved_lawful 3 1 (omega arith)) (λ a. descriptors_lawful)

pub returns : goal.returns
unfolding stream stream_fields
returns c = view_walk _ _ (λ a. refl)
    (pair (number_lawful 1) from_pid.formal c.walk_number-a.ensures
    (pair (reserved_lawful 3 1 (omega arith)) descriptors_lawful.formal (past_told c.walk_reserved.ensures c.onward-b.ensures)
    c.walk_descriptors.ensures))
