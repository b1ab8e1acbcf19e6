-- The laws that callers cite.
pub mod Joining
pub mod Telling
