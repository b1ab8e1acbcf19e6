-- The laws that other crates cite.
pub mod Counting
pub mod Glance
