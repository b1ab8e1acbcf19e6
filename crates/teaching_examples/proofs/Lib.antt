-- The run that the checker computes.
pub mod Examples
