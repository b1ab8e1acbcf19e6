-- The laws that other crates cite.
pub mod Fields
pub mod Judging
