-- `teaching_questions::contents_of` meets its contract: they are those of the first section of the number.
use mathlib.Core.Path.{refl, sym, ap, ◌∙◌}
use native.Mathlib.Omega.{arith}
use lib.Dec.{eqb}
use lib.ListN.{length}
use Rattle.std.specs.Option.{option_map}
use Rattle.std.proofs.Common.{rules, tests}
use Rattle.std.proofs.lemmas.Iterator.Consumers.{YieldsList-from_first}
use Rattle.std.proofs.lemmas.Iterator.Search.{find_from_yields_List}
use Rattle.teaching_rows.specs.Rows.{strings_in}
use Rattle.teaching_questions.specs.Questions.{carried, sections_left}
use Rattle.teaching_questions.proofs.Walking.{contents_held, contents_find, contents_short}
use Rattle.teaching_questions.proofs.Standing.{contents_stand}
use Rattle.teaching_questions.proofs.contents_of.Goals as goal

pub returns-in_default : goal.returns-in_default
returns-in_default c =
    let first =
    find_from_yields_List (λ x. eqb x.number c.args.k) c.find.new.self _ c.find.result c.find.ensures.ran
    (YieldsList-from_first carried sections_left _ refl) (λ x b q k. search (rules, tests)) in
    let is = ap (λ o. contents_held (option_map carried o)) (sym c.in_default.is) ∙ ap contents_held first ∙ contents_find c.args.k _ in
    (is, omega arith, contents_stand c.args.t c.args.k c.args.rows.now _ is)

pub returns : goal.returns
returns c =
    let first =
    find_from_yields_List (λ x. eqb x.number c.args.k) c.find.new.self _ c.find.result c.find.ensures.ran
    (YieldsList-from_first carried sections_left _ refl) (λ x b q k. search (rules, tests)) in
    let is = ap (λ o. contents_held (option_map carried o)) (sym c.in-Some.is) ∙ ap contents_held first ∙ contents_find c.args.k _ in (
      is,
      omega (arith, ap length is, contents_short c.args.t c.args.k (strings_in c.args.rows.now)),
      contents_stand c.args.t c.args.k c.args.rows.now _ is,
    )
