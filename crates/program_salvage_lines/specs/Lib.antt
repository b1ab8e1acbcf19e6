-- The definitions that the contracts of `program_salvage_lines` cite.
pub mod Report
