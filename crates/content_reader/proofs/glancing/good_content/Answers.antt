-- `content_reader::glancing::good_content` meets its contract: the identifier and what follows it, under their names, fill the body.
use native.Mathlib.Nat.{le_refl}
use Rattle.ground_refusal.specs.declared.Refusal.TheVariants.{LeftOver}
use Rattle.body_glance.proofs.Finds.{reads_pair, reads_view, fills_exact}
use Rattle.body_glance.proofs.Leaves.{not_good}
use Rattle.content.specs.Content.{fields, content}
use Rattle.content_reader.proofs.glancing.good_content.Goals as goal

pub returns-then-s-lt19 : goal.returns-then-s-lt19
unfolding content fields
returns-then-s-lt19 c = not_good

pub returns-then-not-good_identifier : goal.returns-then-not-good_identifier
unfolding content fields
returns-then-not-good_identifier c = not_good

pub returns : goal.returns
unfolding content fields
returns c e = let first = c.good_identifier.ensures c.if-not-good_identifier.false in
    (_, fills_exact LeftOver (le_refl _) (reads_view _ _ (reads_pair first.1 (c.good_languages.ensures e).1)))
