-- The definitions that other crates cite.
pub mod Characters
pub mod Sizes
