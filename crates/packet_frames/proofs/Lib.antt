-- The laws that other crates cite.
pub mod Frames
pub mod Scans
pub mod Growing
