-- `content_reader::walking::walk_language` meets its contract: into the part that the length counts, and its fields fill it.
use mathlib.Core.Path.{refl, sym, ◌∙◌}
use Rattle.ground_refusal.specs.declared.Refusal.TheVariants.{PastPart}
use Rattle.body_formats.proofs.Parts.{view_lawful, exact_filling, length_counts}
use Rattle.body_walk.proofs.Pairs.{view_walk, exact_walk}
use Rattle.body_walk.proofs.Counts.{counted_walk, counted_stop}
use Rattle.content.specs.Content.{language}
use Rattle.content.proofs.Lawful.{language_fields_lawful}
use Rattle.content_reader.proofs.walking.walk_language.Goals as goal

pub returns-in_err-at : goal.returns-in_err-at
unfolding language
returns-in_err-at c = counted_stop (length_counts 4 _) (exact_filling PastPart _ (view_lawful _ _ _ (λ a. refl) (λ b. refl) (language_fields_lawful _)))
    c.in_err-at.was c.enter.ensures c.from_residual.ensures

pub returns : goal.returns
unfolding language
returns c = counted_walk (length_counts 4 _) (exact_filling PastPart _ (view_lawful _ _ _ (λ a. refl) (λ b. refl) (language_fields_lawful _)))
    (sym c.in_ok-at.was ∙ c.enter.ensures)
    (exact_walk PastPart (view_walk _ _ (λ a. refl) c.walk_language_fields-a.ensures) c.leave.ensures)
