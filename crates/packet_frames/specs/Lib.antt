-- The definitions that other crates cite.
pub mod Framing
pub mod Found
