-- `body_form_glance::good_span` meets its contract: where the start lies in the pool, what is left of the pool is compared.
use Rattle.body_form_glance.proofs.Forms.{past_start, after_start}
use Rattle.body_form_glance.proofs.good_span.Goals as goal

pub returns-then-len-a : goal.returns-then-len-a
returns-then-len-a c = past_start _ _ c.if-len-a.true

pub returns : goal.returns
returns c = after_start _ _ _ c.if-len-a.false
