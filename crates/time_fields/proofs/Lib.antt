-- The laws of times that proofs cite, here and in other crates.
pub mod Pairs
pub mod Parts
pub mod Reading
pub mod Instants
pub mod Inverse
pub mod Bytes
pub mod Shown
pub mod Values
