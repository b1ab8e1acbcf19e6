-- The definitions that the contracts of `time_offset` cite.
pub mod Offset
