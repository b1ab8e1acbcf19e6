-- `configuration_writer::glancing::see_rest` meets its contract: a span of at most 65,535 bytes lies in the pool.
use mathlib.Core.Path.{refl}
use native.Mathlib.Omega.{arith}
use borrow.Author.Tests.{leb-true}
use Rattle.body_form_glance.proofs.Forms.{none_seen, lays_rest}
use Rattle.configuration_writer.proofs.Glances.{seen_to}
use Rattle.ground_choices.proofs.Tests.{met}
use Rattle.configuration_writer.proofs.glancing.see_rest.Goals as goal

pub returns-then-tape-k-lt2 : goal.returns-then-tape-k-lt2
returns-then-tape-k-lt2 c = none_seen c.unseen.ensures

pub returns-then-tape-k-gt65535 : goal.returns-then-tape-k-gt65535
returns-then-tape-k-gt65535 c = none_seen c.unseen-then-tape-k-gt65535.ensures

pub returns-then-not-good_span : goal.returns-then-not-good_span
returns-then-not-good_span c = none_seen c.unseen-then-not-good_span.ensures

pub returns : goal.returns
returns c = seen_to refl refl (omega arith) (omega arith)
    (_, lays_rest _ _ _ refl refl (omega arith) (leb-true _ _ (met _ c.good_span.ensures c.if-not-good_span.false-raw)))
