-- `body_form_glance::resource_list` meets its contract: the count is one byte, its entries stand on the tape, and each is a resource.
use mathlib.Core.Path.{refl}
use native.Mathlib.Omega.{arith}
use Rattle.body_form_glance.proofs.Rows.{none_listed, all_listed}
use Rattle.body_form_glance.proofs.resource_list.Goals as goal

pub returns-then-tape-k : goal.returns-then-tape-k
returns-then-tape-k c = none_listed

pub returns-then-tape-k-gt255 : goal.returns-then-tape-k-gt255
returns-then-tape-k-gt255 c = none_listed

pub returns-then-tape-k-2 : goal.returns-then-tape-k-2
returns-then-tape-k-2 c = none_listed

pub returns-then-good_resources : goal.returns-then-good_resources
returns-then-good_resources c = all_listed refl (omega arith) (omega arith) (omega arith) (c.good_resources.ensures c.if-good_resources.true)

pub returns : goal.returns
returns c = none_listed
