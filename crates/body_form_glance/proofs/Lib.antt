-- The laws that other crates cite.
pub mod Forms
pub mod Rows
