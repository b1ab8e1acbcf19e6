-- The laws that other crates cite.
pub mod Sizes
pub mod Answers
pub mod Entries
pub mod Parts
pub mod Turns
