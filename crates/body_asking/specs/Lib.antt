-- The definitions that other crates cite.
pub mod Asking
pub mod Agreement
