-- The definitions that other crates cite.
pub mod Walked
pub mod Entries
