-- The laws that callers cite.
pub mod Lengths
pub mod Rows
pub mod Fronts
pub mod Whole
