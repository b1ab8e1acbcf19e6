-- `configuration_writer::glancing::see_query` meets its contract: so many parameters are bytes, and terminals follow them.
use mathlib.Core.Path.{refl}
use native.Mathlib.Omega.{arith}
use borrow.Author.Tests.{not-false}
use Rattle.body_form_glance.proofs.Forms.{none_seen}
use Rattle.configuration_writer.proofs.Glances.{seen_list, query_laid}
use Rattle.configuration_writer.proofs.glancing.see_query.Goals as goal

pub returns-then-tape-k-lt1 : goal.returns-then-tape-k-lt1
returns-then-tape-k-lt1 c = none_seen c.unseen.ensures

pub returns-then-tape-k-gt255 : goal.returns-then-tape-k-gt255
returns-then-tape-k-gt255 c = none_seen c.unseen-then-tape-k-gt255.ensures

pub returns-then-tape-k : goal.returns-then-tape-k
returns-then-tape-k c = none_seen c.unseen-then-tape-k.ensures

pub returns-then-not-good_parameters : goal.returns-then-not-good_parameters
returns-then-not-good_parameters c = none_seen c.unseen-then-not-good_parameters.ensures

pub listed-requires : goal.listed-requires
listed-requires c = (c.resource_list-terminals.ensures.few, omega arith, c.resource_list-terminals.ensures.inside)

pub returns : goal.returns
returns c = seen_list _ _ c.resource_list-terminals.ensures (omega arith) c.listed.ensures.none c.listed.ensures.some
    (λ j m g. query_laid refl (omega arith) (omega arith) (c.good_parameters.ensures (not-false _ c.if-not-good_parameters.false-raw)) g)
