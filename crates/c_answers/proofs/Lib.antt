-- The laws that callers cite.
pub mod Packing
pub mod Taking
