-- The definitions that other crates cite.
pub mod Reading
pub mod Plans
