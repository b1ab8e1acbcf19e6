-- The laws that other crates cite.
pub mod Calls
pub mod States
