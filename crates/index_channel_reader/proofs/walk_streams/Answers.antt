-- `index_channel_reader::walk_streams` meets its contract: into the part that the length counts, which they fill.
use mathlib.Core.Path.{sym, ◌∙◌}
use Rattle.body_formats.specs.Format.{length_of}
use Rattle.body_formats.proofs.Parts.{length_counts}
use Rattle.body_walk.proofs.Counts.{entered_inside, counted_walk, counted_stop}
use Rattle.index.specs.Index.{streams}
use Rattle.index.proofs.Lawful.{all_streams_filling}
use Rattle.index_channel_reader.proofs.walk_streams.Goals as goal

pub returns-in_err-p : goal.returns-in_err-p
unfolding streams
returns-in_err-p c = counted_stop (length_counts 2 _) all_streams_filling c.in_err-p.was c.enter.ensures c.from_residual.ensures

pub walk_each_stream-requires : goal.walk_each_stream-requires
walk_each_stream-requires c = entered_inside (length_of 2) _ _ _ (sym c.in_ok-p.was ∙ c.enter.ensures)

pub returns : goal.returns
unfolding streams
returns c = counted_walk (length_counts 2 _) all_streams_filling (sym c.in_ok-p.was ∙ c.enter.ensures) c.walk_each_stream.ensures
