-- The laws that the functions' proofs and later crates cite.
pub mod Begins
pub mod Pieces
pub mod Turns
pub mod Writing
pub mod Standing
pub mod Whole
pub mod Calls
