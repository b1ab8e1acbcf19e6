-- The laws that other crates cite.
pub mod Bits
pub mod Answers
