-- The definitions that the contracts of `time_local` cite.
pub mod Clock
pub mod Text
