-- The runs that the checker computes.
pub mod Examples
