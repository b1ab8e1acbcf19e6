-- `certificate_writer::glancing::parts_bytes` meets its contract: each turn sees one part, and those to come make the whole.
use Rattle.std.specs.Prelude.{◌+◌, ◌*◌, ◌-◌, ◌≤◌}
use Rattle.body_formats.specs.Format.{opaque}
use Rattle.body_form_glance.proofs.Rows.{Coming}
use Rattle.certificate_writer.proofs.glancing.parts_bytes.Given as goal

abbrev pub invariant-loop-i : goal.invariant-loop-i
invariant-loop-i l =
    Coming (opaque l.w) l.pool l.tape l.n l.k l.i (l.k + l.i * 2) (l.bytes - 1) × (1 ≤ l.bytes) × (l.bytes ≤ 1 + l.i * 65537) × (l.limit ≤ 65536)
