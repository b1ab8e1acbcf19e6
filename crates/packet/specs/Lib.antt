-- The definitions that other crates cite.
pub mod Sizes
pub mod Fields
pub mod Judging
