-- The laws that other crates cite.
pub mod Finds
pub mod Runs
pub mod Leaves
