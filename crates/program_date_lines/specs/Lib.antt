-- The definitions that the contracts of `program_date_lines` cite.
pub mod Report
pub mod Lines
