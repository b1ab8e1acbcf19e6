-- The definitions that other crates cite.
pub mod Index
pub mod Places
