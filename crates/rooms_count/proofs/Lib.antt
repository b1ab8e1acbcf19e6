-- The laws that the proofs cite, and other crates.
pub mod Counting
