-- The definitions that other crates cite.
pub mod Records
pub mod Steps
pub mod Agreement
