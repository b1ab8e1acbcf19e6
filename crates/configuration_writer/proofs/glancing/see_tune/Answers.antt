-- `configuration_writer::glancing::see_tune` meets its contract: its numbers fit their fields, and terminals follow them.
use native.Mathlib.Omega.{arith}
use Rattle.body_form_glance.proofs.Forms.{none_seen}
use Rattle.configuration_writer.proofs.Glances.{seen_list, tune_laid}
use Rattle.configuration_writer.proofs.glancing.see_tune.Goals as goal

pub returns-then-tape-k-lt3 : goal.returns-then-tape-k-lt3
returns-then-tape-k-lt3 c = none_seen c.unseen.ensures

pub returns-then-tape-k-gt4294967295 : goal.returns-then-tape-k-gt4294967295
returns-then-tape-k-gt4294967295 c = none_seen c.unseen-then-tape-k-gt4294967295.ensures

pub returns-then-tape-k-gt4294967295-2 : goal.returns-then-tape-k-gt4294967295-2
returns-then-tape-k-gt4294967295-2 c = none_seen c.unseen-then-tape-k-gt4294967295-2.ensures

pub returns-then-tape-k-gt5 : goal.returns-then-tape-k-gt5
returns-then-tape-k-gt5 c = none_seen c.unseen-then-tape-k-gt5.ensures

pub listed-requires : goal.listed-requires
listed-requires c = (c.resource_list-terminals.ensures.few, omega arith, c.resource_list-terminals.ensures.inside)

pub returns : goal.returns
returns c = seen_list _ _ c.resource_list-terminals.ensures (omega arith) c.listed.ensures.none c.listed.ensures.some
    (λ j m g. tune_laid (omega arith) (omega arith) (omega arith) (omega arith) g)
