-- The laws that other crates cite.
pub mod Loops
pub mod Facts
