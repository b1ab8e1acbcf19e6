-- The definitions that other crates cite.
pub mod Lays
