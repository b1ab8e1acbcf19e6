-- The laws that other crates cite.
pub mod Reading
pub mod Plans
