-- `configuration_writer::glancing::configuration_bytes` meets its contract: each turn sees one command, and those to come make the list.
use Rattle.std.specs.Prelude.{◌+◌, ◌-◌, ◌*◌, ◌≤◌, length, get_or}
use Rattle.body_form_glance.proofs.Rows.{Coming}
use Rattle.configuration.specs.Configuration.{command}
use Rattle.configuration_writer.proofs.glancing.configuration_bytes.Given as goal

abbrev pub invariant-loop : goal.invariant-loop
invariant-loop l =
    Coming command l.pool l.tape (get_or l.tape 0 0) 1 l.counter l.at (l.bytes - 1) × (l.at ≤ length l.tape) × (1 ≤ l.bytes) × (l.bytes ≤ 1 + l.counter * 65538)
    × (get_or l.tape 0 0 ≤ 255)
