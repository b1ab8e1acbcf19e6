-- The laws that other crates cite.
pub mod Pairs
pub mod Counts
pub mod Manys
pub mod Bodies
pub mod Leaves
