-- `configuration_writer::glancing::see_set_code` meets its contract: an address of at most 255 bytes lies in the pool, and a resource after it.
use mathlib.Core.Path.{refl}
use native.Mathlib.Omega.{arith}
use borrow.Author.Tests.{leb-true}
use borrow.Author.Tests.{not-false}
use Rattle.body_form_glance.proofs.Forms.{none_seen}
use Rattle.configuration_writer.proofs.Glances.{seen_to, set_code_laid}
use Rattle.ground_choices.proofs.Tests.{met}
use Rattle.configuration_writer.proofs.glancing.see_set_code.Goals as goal

pub returns-then-tape-k-lt4 : goal.returns-then-tape-k-lt4
returns-then-tape-k-lt4 c = none_seen c.unseen.ensures

pub returns-then-tape-k-gt255 : goal.returns-then-tape-k-gt255
returns-then-tape-k-gt255 c = none_seen c.unseen-then-tape-k-gt255.ensures

pub returns-then-not-good_span : goal.returns-then-not-good_span
returns-then-not-good_span c = none_seen c.unseen-then-not-good_span.ensures

pub returns-then-not-good_digits : goal.returns-then-not-good_digits
returns-then-not-good_digits c = none_seen c.unseen-then-not-good_digits.ensures

pub returns : goal.returns
returns c = seen_to refl refl (omega arith) (omega arith)
    (set_code_laid refl (omega arith) (omega arith) (leb-true _ _ (met _ c.good_span.ensures c.if-not-good_span.false-raw))
    (c.good_digits.ensures (not-false _ c.if-not-good_digits.false-raw)))
