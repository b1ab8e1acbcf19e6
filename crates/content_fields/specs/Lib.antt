-- The definitions that other crates cite.
pub mod Asked
pub mod Agreement
pub mod Glance
