-- `teaching_questions::differs_from_one` meets its contract: some section has the number, and another payload.
use mathlib.Core.Path.{refl, ◌∙◌}
use Rattle.std.proofs.Common.{rules, tests}
use Rattle.std.proofs.lemmas.Iterator.Consumers.{YieldsList-from_first}
use Rattle.std.proofs.lemmas.Iterator.Search.{any_from_yields_List}
use Rattle.gathering_account.specs.Answering.{contradicts}
use Rattle.teaching_questions.specs.Questions.{section, carried, sections_left}
use Rattle.teaching_questions.proofs.Walking.{differs_any}
use Rattle.teaching_questions.proofs.differs_from_one.Goals as goal

pub returns : goal.returns
unfolding contradicts
returns c =
    any_from_yields_List (contradicts (section c.args.k c.args.payload.now)) c.any.new.self _ c.any.result c.any.ensures.ran (YieldsList-from_first carried sections_left _ refl)
    (λ x b q k. search (rules, tests))
    ∙ differs_any _ _
