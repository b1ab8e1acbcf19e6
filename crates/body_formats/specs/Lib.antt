-- The definitions that other crates cite.
pub mod Reading
pub mod Format
pub mod Time
pub mod Resource
pub mod Identifier
pub mod Answers
pub mod Held
pub mod Body
