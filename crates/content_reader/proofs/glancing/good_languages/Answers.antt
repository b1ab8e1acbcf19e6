-- `content_reader::glancing::good_languages` meets its contract: the count, each turn finds one language, those to come make the whole, and the signature ends the body.
use Prim.Native.Nat.{◌-◌}
use mathlib.Core.Path.{◌≡◌}
use lib.ListN.{length}
use native.Mathlib.Omega.{arith}
use borrow.Author.Tests.{eqb-true}
use Rattle.body_glance.proofs.Finds.{reads_to, reads_pair, reads_opaque}
use Rattle.body_glance.proofs.Runs.{reads_list, coming_start, coming_turn, coming_done}
use Rattle.body_glance.proofs.Leaves.{not_good}
use Rattle.content.specs.Content.{language}
use Rattle.content_reader.proofs.Glances.{reads_few, reads_language}
use Rattle.content_reader.proofs.glancing.good_languages.Goals as goal

pub returns-then-count-lt241 : goal.returns-then-count-lt241
returns-then-count-lt241 c = not_good

pub returns-then-count-gt245 : goal.returns-then-count-gt245
returns-then-count-gt245 c = not_good

pub loop-i-init : goal.loop-i-init
loop-i-init c = (omega arith, coming_start (language _) _)

pub returns-then-l-at-lt4 : goal.returns-then-l-at-lt4
returns-then-l-at-lt4 c = not_good

pub returns-then-l-fields : goal.returns-then-l-fields
returns-then-l-fields c = not_good

pub returns-then-not-good_language : goal.returns-then-not-good_language
returns-then-not-good_language c = not_good

pub loop-i-preserved : goal.loop-i-preserved
loop-i-preserved c = let found = reads_language _ _ _ (λ i. (c.type_inv.s i).fits) _ c.three_or_four_bytes-n.ensures (omega arith)
    (c.good_language.ensures c.if-not-good_language.false) in
    (omega arith, coming_turn (language _) _ _ _ c.loop-i.invariant.1 (omega arith) found)

pub returns-then-l-at-lt2 : goal.returns-then-l-at-lt2
returns-then-l-at-lt2 c = not_good

pub returns : goal.returns
returns c e = let languages = coming_done (language _) _ _ _ c.loop-i.invariant.1 (omega arith) in
    let counted = reads_list (language _) (reads_few _ _ 4 1 5 _ (omega arith) (omega arith) (omega arith) (omega arith)) languages.1 in
    let rest : length c.args.s.now - c.loop-i.at - 2 ≡ c.two_bytes.result = eqb-true _ _ e in
    (_, reads_pair counted (reads_to (omega arith) (reads_opaque _ _ 2 (λ i. (c.type_inv.s i).fits)).1))
