-- The laws that the functions' proofs and later crates cite.
pub mod Digits
