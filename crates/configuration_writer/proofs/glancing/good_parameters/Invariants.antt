-- `configuration_writer::glancing::good_parameters` meets its contract: each turn sees one number of one byte, and those to come make the whole.
use Rattle.std.specs.Prelude.{◌+◌}
use Rattle.body_formats.specs.Format.{number}
use Rattle.body_form_glance.proofs.Rows.{Coming}
use Rattle.configuration_writer.proofs.glancing.good_parameters.Given as goal

abbrev pub invariant-loop-i : goal.invariant-loop-i
invariant-loop-i l = Coming (number 1) l.pool l.tape l.n l.k l.i (l.k + l.i) l.i
