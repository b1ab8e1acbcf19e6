-- `teaching_questions::has_come` meets its contract: some section has the number.
use mathlib.Core.Path.{refl, ◌∙◌}
use lib.Dec.{eqb}
use Rattle.std.proofs.Common.{rules, tests}
use Rattle.std.proofs.lemmas.Iterator.Consumers.{YieldsList-from_first}
use Rattle.std.proofs.lemmas.Iterator.Search.{any_from_yields_List}
use Rattle.teaching_questions.specs.Questions.{carried, sections_left}
use Rattle.teaching_questions.proofs.Walking.{present_any}
use Rattle.teaching_questions.proofs.has_come.Goals as goal

pub returns : goal.returns
returns c =
    any_from_yields_List (λ x. eqb x.number c.args.k) c.any.new.self _ c.any.result c.any.ensures.ran (YieldsList-from_first carried sections_left _ refl)
    (λ x b q k. search (rules, tests))
    ∙ present_any _ _
