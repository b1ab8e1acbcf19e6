-- The laws that callers cite.
pub mod Same
