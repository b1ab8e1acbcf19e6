-- The laws that the functions' proofs cite.
pub mod Lines
pub mod Bounds
