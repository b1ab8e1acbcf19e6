-- The definitions that other crates cite.
pub mod Memory
pub mod State
pub mod Keeping
