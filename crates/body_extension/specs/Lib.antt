-- The definitions that the contracts and other crates cite.
pub mod Extension
