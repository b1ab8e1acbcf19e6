-- The laws that other crates cite.
pub mod Answers
pub mod Asked
pub mod Glance
