-- `body_form_glance::good_resources` meets its contract: each turn sees one resource, and those to come make the whole.
use Rattle.std.specs.Prelude.{◌+◌, ◌*◌}
use Rattle.body_formats.specs.Resource.{resource}
use Rattle.body_form_glance.proofs.Rows.{Coming}
use Rattle.body_form_glance.proofs.good_resources.Given as goal

abbrev pub invariant-loop-i : goal.invariant-loop-i
invariant-loop-i l = Coming resource l.pool l.tape l.n l.k l.i (l.k + l.i * 2) (l.i * 12)
