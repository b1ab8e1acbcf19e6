-- `configuration_fields::list_begin` meets its contract: it is where the glance finds it, or where the fields before it end.
use mathlib.Core.Path.{ap, ◌∙◌}
use Rattle.std.specs.Prelude.{Ok}
use Rattle.configuration_fields.proofs.Glance.{list_seen}
use Rattle.configuration_fields.proofs.list_begin.Goals as goal

pub content_end-requires : goal.content_end-requires
content_end-requires c = (list_seen c.args.s.now c.args.p _ c.list_place.ensures c.in-Some.is).inside

pub returns-in-Some : goal.returns-in-Some
returns-in-Some c = ap (λ b. Ok (c.in-Some.q, b)) c.content_end.ensures ∙ (list_seen c.args.s.now c.args.p _ c.list_place.ensures c.in-Some.is).begins
