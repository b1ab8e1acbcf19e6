-- The definitions that other crates cite.
pub mod Packing
pub mod Answers
