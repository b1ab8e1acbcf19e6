-- `index_channel_reader::walk_descriptors` meets its contract: into the part that the length counts, which they fill.
use mathlib.Core.Path.{sym, ◌∙◌}
use Rattle.body_formats.specs.Format.{length12}
use Rattle.body_formats.proofs.Parts.{length12_counts}
use Rattle.body_walk.proofs.Counts.{entered_inside, counted_walk, counted_stop}
use Rattle.index.specs.Index.{descriptors}
use Rattle.index.proofs.Lawful.{all_descriptors_filling}
use Rattle.index_channel_reader.proofs.walk_descriptors.Goals as goal

pub returns-in_err-p : goal.returns-in_err-p
unfolding descriptors
returns-in_err-p c = counted_stop (length12_counts _) all_descriptors_filling c.in_err-p.was c.enter12.ensures c.from_residual.ensures

pub walk_each_descriptor-requires : goal.walk_each_descriptor-requires
walk_each_descriptor-requires c = entered_inside length12 _ _ _ (sym c.in_ok-p.was ∙ c.enter12.ensures)

pub returns : goal.returns
unfolding descriptors
returns c = counted_walk (length12_counts _) all_descriptors_filling (sym c.in_ok-p.was ∙ c.enter12.ensures) c.walk_each_descriptor.ensures
