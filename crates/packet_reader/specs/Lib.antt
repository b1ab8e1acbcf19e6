-- The definitions that other crates cite.
pub mod Unpacking
pub mod Answers
