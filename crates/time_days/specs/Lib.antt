-- The definitions that the contracts of `time_days` cite.
pub mod Calendar
