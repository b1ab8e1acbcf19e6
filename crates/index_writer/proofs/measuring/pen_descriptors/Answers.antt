-- `index_writer::measuring::pen_descriptors` meets its contract: its length, they, and then what the length may be.
use Rattle.body_pen.proofs.Lengths.{length12_pen}
use Rattle.index.specs.Index.{descriptors}
use Rattle.index_writer.proofs.measuring.pen_descriptors.Goals as goal

pub returns : goal.returns
unfolding descriptors
returns g c = rw length12_pen (cc)
