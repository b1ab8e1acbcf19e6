-- `screen_choice::is_concerned` meets its contract: the codes are counted, and the code is looked for where they stand.
use mathlib.Core.Path.{sym, ◌∙◌}
use Rattle.screen_choice.proofs.Fields.{own_long, codes_in_body, concerned}
use Rattle.screen_choice.proofs.is_concerned.Goals as goal

pub is_listed-requires : goal.is_listed-requires
is_listed-requires c = let pre = c.requires in
    (codes_in_body _ _ _ _ _ _ pre.2 _ _ (sym c.in-Ok.is ∙ c.resource_count.ensures), own_long _ _ _ _ _ _ pre.2)

pub returns-in_default : goal.returns-in_default
returns-in_default c code m st = absurd (c.in_default.not-Ok _ (c.resource_count.ensures ∙ st.asked.resources_counted))

pub returns : goal.returns
returns c code m st = concerned _ _ _ _ _ _ st _ _ (sym c.in-Ok.is ∙ c.resource_count.ensures) _ c.is_listed.ensures
