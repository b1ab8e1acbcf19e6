-- The laws that callers cite.
pub mod Taking
pub mod Fixing
