-- The laws that the functions' proofs cite.
pub mod Lines
pub mod Text
pub mod Bounds
pub mod Values
