-- `configuration_writer::glancing::see_set_period` meets its contract: its number fits its field, and terminals follow it.
use native.Mathlib.Omega.{arith}
use Rattle.body_form_glance.proofs.Forms.{none_seen}
use Rattle.configuration_writer.proofs.Glances.{seen_list, set_period_laid}
use Rattle.configuration_writer.proofs.glancing.see_set_period.Goals as goal

pub returns-then-tape-k-lt1 : goal.returns-then-tape-k-lt1
returns-then-tape-k-lt1 c = none_seen c.unseen.ensures

pub returns-then-tape-k-gt4294967295 : goal.returns-then-tape-k-gt4294967295
returns-then-tape-k-gt4294967295 c = none_seen c.unseen-then-tape-k-gt4294967295.ensures

pub listed-requires : goal.listed-requires
listed-requires c = (c.resource_list-terminals.ensures.few, omega arith, c.resource_list-terminals.ensures.inside)

pub returns : goal.returns
returns c = seen_list _ _ c.resource_list-terminals.ensures (omega arith) c.listed.ensures.none c.listed.ensures.some
    (λ j m g. set_period_laid (omega arith) (omega arith) g)
