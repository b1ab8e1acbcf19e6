-- `index_reader::walking::walk_message` meets its contract: into the part that the length counts, and its fields one after the other fill it.
use mathlib.Core.Path.{refl, sym, ◌∙◌}
use Rattle.ground_refusal.specs.declared.Refusal.TheVariants.{PastPart}
use Rattle.body_formats.proofs.Parts.{followed_lawful, length_counts}
use Rattle.body_walk.proofs.Pairs.{pair, view_walk, exact_walk}
use Rattle.body_walk.proofs.Counts.{counted_walk, counted_stop}
use Rattle.index.specs.Index.{named, unnamed, message, message_fields}
use Rattle.body_formats.proofs.Resources.{resources_lawful}
use Rattle.index.proofs.Lawful.{head_lawful, flagged_lawful, inner_filling}
use Rattle.index_reader.proofs.walking.walk_message.Goals as goal

pub returns-in_err-at : goal.returns-in_err-at
unfolding message message_fields
returns-in_err-at c = counted_stop (length_counts 2 _) inner_filling c.in_err-at.was c.enter.ensures c.from_residual.ensures

pub returns : goal.returns
unfolding message message_fields
returns c = counted_walk (length_counts 2 _) inner_filling (sym c.in_ok-at.was ∙ c.enter.ensures)
    (exact_walk PastPart
    (view_walk named unnamed (λ a. refl)
    (pair head_lawful (followed_lawful _ _ resources_lawful (λ a. flagged_lawful)).formal c.walk_head-a.ensures
    (pair resources_lawful flagged_lawful.formal c.walk_resources-b.ensures c.walk_flagged-c.ensures)))
    c.leave.ensures)
