-- `configuration_writer::glancing::see_set_volume` meets its contract: its number is at most 100, and terminals follow it.
use native.Mathlib.Omega.{arith}
use Rattle.body_form_glance.proofs.Forms.{none_seen}
use Rattle.configuration_writer.proofs.Glances.{seen_list, set_volume_laid}
use Rattle.configuration_writer.proofs.glancing.see_set_volume.Goals as goal

pub returns-then-tape-k-lt1 : goal.returns-then-tape-k-lt1
returns-then-tape-k-lt1 c = none_seen c.unseen.ensures

pub returns-then-tape-k-gt100 : goal.returns-then-tape-k-gt100
returns-then-tape-k-gt100 c = none_seen c.unseen-then-tape-k-gt100.ensures

pub listed-requires : goal.listed-requires
listed-requires c = (c.resource_list-terminals.ensures.few, omega arith, c.resource_list-terminals.ensures.inside)

pub returns : goal.returns
returns c = seen_list _ _ c.resource_list-terminals.ensures (omega arith) c.listed.ensures.none c.listed.ensures.some
    (λ j m g. set_volume_laid (omega arith) (omega arith) g)
