-- The laws that the functions' proofs and later crates cite.
pub mod Counting
pub mod Cuts
pub mod Sections
