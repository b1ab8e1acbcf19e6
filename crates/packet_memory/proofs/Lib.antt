-- The laws that other crates cite.
pub mod Leaving
pub mod States
pub mod Keeping
