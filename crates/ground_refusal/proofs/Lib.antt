-- The laws that callers cite.
pub mod Numbers
pub mod Exits
