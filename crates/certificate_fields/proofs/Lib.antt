-- The laws that other crates cite.
mod Answers
pub mod Table
